use Rattle.std.proofs.Common.{take}
use Rattle.lru_generations.proofs.ListingLaws.{Least}
use Rattle.lru_generations.proofs.listing.generation_above.Given as goal

abbrev pub invariant-loop-part : goal.invariant-loop-part
invariant-loop-part l = Least (take l.part-index l.parts) l.next
