use Rattle.std.proofs.Common.{List, ℕ, subst}
use Rattle.lru_memory_folder.specs.MadeInside.{folders_in}
use Rattle.lru_folder.specs.Places.{MakesAll}
use Rattle.lru_memory_folder.proofs.store.Store.with.Goals as goal

pub returns-clause-folders : goal.returns-clause-folders
returns-clause-folders c =
    subst (λ (dir : List ℕ). MakesAll dir (folders_in c.args.self.made.items) (folders_in c.make_all.new.made.items)) c.folder_of.ensures c.in_ok-make_all.ensures.all
