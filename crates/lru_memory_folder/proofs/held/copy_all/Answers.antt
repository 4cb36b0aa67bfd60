use Rattle.std.proofs.Common.{ap}
use Rattle.std.specs.FinMap.{from_entries}
use Rattle.lru_memory_folder.proofs.HeldLemmas.{entries_of-copy}
use Rattle.lru_memory_folder.proofs.held.copy_all.Goals as goal

pub returns : goal.returns
returns c = ap from_entries (entries_of-copy c.args.held.now.entries c.in_ok-copy.copy.entries c.in_ok-copy.ensures.cases)
