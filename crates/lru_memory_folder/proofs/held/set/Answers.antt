use Rattle.std.proofs.Common.{◌≡◌, false, Some, is_some, sym, ap, ◌∙◌}
use Rattle.std.specs.Option.{option_map}
use Rattle.std.specs.FinMap.{get}
use Rattle.std.proofs.lemmas.Map.Text.{btree_map_updates_text}
use Rattle.lru_memory_folder.specs.HeldInside.{files_in}
use Rattle.lru_memory_folder.proofs.HeldLemmas.{items_of, get-files_in, files_in-insert}
use Rattle.lru_memory_folder.proofs.held.set.Goals as goal

pub returns-in-Some : goal.returns-in-Some
returns-in-Some c =
    let m = c.args.held.now in
    let new = c.args.bytes in
    let n = c.get_mut.follows.lender new in
    files_in-insert m n c.args.path.now new
    (btree_map_updates_text c.args.path.now m n (Some new) ((c.get_mut.follows.holds new).3 (ap is_some (sym c.in-Some.ensures.value))))

pub returns-in_default : goal.returns-in_default
returns-in_default c =
    let none : is_some (get (files_in c.args.held.now.entries) c.args.path.now) ≡ false =
    ap is_some (get-files_in c.args.held.now c.args.path.now ∙ ap (option_map items_of) (sym c.in_default.ensures.value)) in
    absurd (let f : ⊥ = cc in f)
