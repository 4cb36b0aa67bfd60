use Rattle.std.proofs.Common.{◌∙◌, ap}
use Rattle.lru_folder.specs.Places.{listing}
use Rattle.lru_memory_folder.proofs.store.Store.list.Goals as goal

pub returns-clause-listed : goal.returns-clause-listed
returns-clause-listed c = c.in_ok-listed.ensures ∙ ap (λ files. listing c.args.dir.now files) c.held.ensures
