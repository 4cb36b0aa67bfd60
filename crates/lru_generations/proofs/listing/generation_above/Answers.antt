use Rattle.std.proofs.Common.{arith}
use Rattle.lru_generations.proofs.ListingLaws.{above_all, above_higher, above_lower}
use Rattle.lru_generations.proofs.listing.generation_above.Goals as goal
use Rattle.lru_generations.proofs.listing.generation_above.Goals.{then-generation-next+in_ok-next, else-generation-next}

pub loop-part-preserved : goal.loop-part-preserved
loop-part-preserved c = elim c.if-generation-next.branch [
  | then-generation-next+in_ok-next w ↦ above_higher c.args.parts.now c.loop-part.part-index c.loop-part.next c.loop-part-test.true c.loop-part.invariant c.if-generation-next.next
      (omega (arith, c.generation-generation.ensures, w.if-generation-next.true)) (omega (arith, c.generation-generation.ensures, w.next-is, w.in_ok-next.ensures.1))
  | else-generation-next w ↦ rw w.next-is (above_lower c.args.parts.now c.loop-part.part-index c.loop-part.next c.loop-part-test.true c.loop-part.invariant
      (omega (arith, c.generation-generation.ensures, w.if-generation-next.false)))
]

pub returns : goal.returns
returns c = above_all c.args.parts.now c.loop-part.part-index c.loop-part.next c.loop-part-test.false c.loop-part.invariant
