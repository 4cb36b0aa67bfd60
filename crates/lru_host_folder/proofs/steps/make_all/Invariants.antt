use Rattle.lru_host_folder.specs.Steps.{way_to, AreMade}
use Rattle.lru_host_folder.proofs.steps.make_all.Given as goal

-- the folders whose names end up to this place
abbrev pub invariant-loop-at : goal.invariant-loop-at
invariant-loop-at g l = AreMade g.S.System.book (way_to l.dir l.at) (g.S.System.book.notes l.initial.system) (g.S.System.book.notes l.system)
