use Rattle.lru_memory_folder.proofs.HeldLemmas.{texts_of-copy}
use Rattle.lru_memory_folder.proofs.store.Store.after_loss.Goals as goal

pub returns-clause-folders : goal.returns-clause-folders
returns-clause-folders c = texts_of-copy c.args.self.now.made.items c.in_ok-made.made.items c.in_ok-made.ensures.cases.0
