use Rattle.lru_memory_folder.specs.MadeInside.{folders_in}
use Rattle.lru_folder.specs.Places.{MakesSome}
use Rattle.lru_memory_folder.proofs.MadeLemmas.{MadeBelow}
use Rattle.lru_memory_folder.proofs.places.make_all.Given as goal

abbrev pub invariant-loop-at : goal.invariant-loop-at
invariant-loop-at l = record {
  some : MakesSome l.fn.dir (folders_in l.fn.made.items) (folders_in l.made.items);
  below : MadeBelow l.text l.at (folders_in l.made.items);
}
