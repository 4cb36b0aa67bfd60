use Rattle.std.proofs.Common.{None}
use Rattle.std.proofs.lemmas.Map.Text.{btree_map_updates_text}
use Rattle.lru_memory_folder.proofs.HeldLemmas.{files_in-remove}
use Rattle.lru_memory_folder.proofs.held.take_out.Goals as goal

pub returns : goal.returns
returns c =
    files_in-remove c.args.held.now c.remove.new.self c.args.path.now
    (btree_map_updates_text c.args.path.now c.args.held.now c.remove.new.self None c.remove.ensures.updates)
