use Rattle.std.proofs.Common.{[], None, unwrap_or, sym, ap, ◌∙◌}
use Rattle.std.specs.Option.{option_map}
use Rattle.std.proofs.lemmas.Map.Text.{btree_map_updates_text}
use Rattle.lru_memory_folder.proofs.HeldLemmas.{items_of, get-files_in, files_in-remove}
use Rattle.lru_memory_folder.proofs.held.take_bytes.Goals as goal

pub returns-in-Some-clause-bytes : goal.returns-in-Some-clause-bytes
returns-in-Some-clause-bytes c =
    sym (ap (λ o. unwrap_or o []) (get-files_in c.args.held.now c.args.path.now ∙ ap (option_map items_of) (sym c.in-Some.ensures.value)))

pub returns-in-Some-clause-gone : goal.returns-in-Some-clause-gone
returns-in-Some-clause-gone c =
    files_in-remove c.args.held.now c.remove.new.self c.args.path.now
    (btree_map_updates_text c.args.path.now c.args.held.now c.remove.new.self None c.remove.ensures.updates)

pub returns-in-None-clause-bytes : goal.returns-in-None-clause-bytes
returns-in-None-clause-bytes c =
    c.new.ensures.items ∙ sym (ap (λ o. unwrap_or o []) (get-files_in c.args.held.now c.args.path.now ∙ ap (option_map items_of) (sym c.in-None.ensures.value)))

pub returns-in-None-clause-gone : goal.returns-in-None-clause-gone
returns-in-None-clause-gone c =
    files_in-remove c.args.held.now c.remove.new.self c.args.path.now
    (btree_map_updates_text c.args.path.now c.args.held.now c.remove.new.self None c.remove.ensures.updates)
