use Rattle.std.proofs.Common.{take}
use Rattle.lru_generations.specs.Listing.{IsLeftover}
use Rattle.lru_generations.proofs.Members.{ComeBy, Kept}
use Rattle.lru_generations.proofs.listing.leftovers.Given as goal

abbrev pub invariant-loop-part : goal.invariant-loop-part
invariant-loop-part l = ComeBy (Kept (IsLeftover l.parts)) (take l.part-index l.parts) l.left.items
