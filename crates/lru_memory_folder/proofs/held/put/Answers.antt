use Rattle.std.proofs.Common.{string_bytes, Some, ap, ◌∙◌}
use Rattle.std.proofs.lemmas.Map.Text.{btree_map_updates_text}
use Rattle.std.specs.FinMap.{insert}
use Rattle.lru_memory_folder.specs.HeldInside.{files_in}
use Rattle.lru_memory_folder.proofs.HeldLemmas.{files_in-insert}
use Rattle.lru_memory_folder.proofs.held.put.Goals as goal

pub returns-clause-ok : goal.returns-clause-ok
returns-clause-ok c =
    let path = string_bytes c.in_ok-from_str.field-0 in
    files_in-insert c.args.held.now c.insert.new.self path c.args.bytes
    (btree_map_updates_text path c.args.held.now c.insert.new.self (Some c.args.bytes) c.in_ok-insert.ensures.updates)
    ∙ ap (λ p. insert (files_in c.args.held.now.entries) p c.args.bytes.items) c.in_ok-from_str.ensures.ok
