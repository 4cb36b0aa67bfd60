use Rattle.std.proofs.Common.{◌≡◌, false, Some, is_some, sym, ap, ◌∙◌}
use Rattle.std.specs.Option.{option_map}
use Rattle.std.specs.FinMap.{get}
use Rattle.std.proofs.lemmas.Map.Text.{btree_map_updates_text}
use Rattle.lru_memory_folder.specs.HeldInside.{files_in}
use Rattle.lru_memory_folder.proofs.HeldLemmas.{items_of, get-files_in, extended, not_extended}
use Rattle.lru_memory_folder.proofs.held.extend.Goals as goal

pub returns-in-Some-clause-ok : goal.returns-in-Some-clause-ok
returns-in-Some-clause-ok c =
    let m = c.args.held.now in
    let new = c.extend_from_slice.new.self in
    let n = c.get_mut.follows.lender new in
    extended m n c.args.path.now c.in-Some.bytes.now new c.in-Some.ensures.value
    (btree_map_updates_text c.args.path.now m n (Some new) ((c.get_mut.follows.holds new).3 (ap is_some (sym c.in-Some.ensures.value)))) c.args.piece.now c.extend_from_slice.result c.extend_from_slice.ensures.items

pub returns-in-Some-clause-err : goal.returns-in-Some-clause-err
returns-in-Some-clause-err c =
    let m = c.args.held.now in
    let new = c.extend_from_slice.new.self in
    let n = c.get_mut.follows.lender new in
    not_extended m n c.args.path.now c.in-Some.bytes.now new c.in-Some.ensures.value
    (btree_map_updates_text c.args.path.now m n (Some new) ((c.get_mut.follows.holds new).3 (ap is_some (sym c.in-Some.ensures.value)))) c.args.piece.now c.extend_from_slice.result c.extend_from_slice.ensures.items

pub returns-in-None-clause-ok : goal.returns-in-None-clause-ok
returns-in-None-clause-ok c =
    let none : is_some (get (files_in c.args.held.now.entries) c.args.path.now) ≡ false =
    ap is_some (get-files_in c.args.held.now c.args.path.now ∙ ap (option_map items_of) (sym c.in-None.ensures.value)) in
    absurd (let f : ⊥ = cc in f)
