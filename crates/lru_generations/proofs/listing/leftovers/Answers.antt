use Rattle.std.proofs.Common.{refl, sym, ◌∙◌}
use Rattle.lru_generations.specs.declared.names.PartName.TheVariants.{Frame}
use Rattle.lru_generations.specs.Listing.{IsLeftover}
use Rattle.lru_generations.proofs.Members.{Kept, come_all, keep_at, kept, leave_at}
use Rattle.lru_generations.proofs.listing.leftovers.Goals as goal
use Rattle.lru_generations.proofs.listing.leftovers.Goals.{then-is_leftover+in_ok-push, else-is_leftover}

pub loop-part-preserved : goal.loop-part-preserved
loop-part-preserved c =
    let K = IsLeftover c.args.parts.now in
    elim c.if-is_leftover.branch [
      | then-is_leftover+in_ok-push w ↦ rw w.left-is (keep_at K c.args.parts.now c.loop-part.part-index (Frame 0 0) c.loop-part-test.true c.loop-part.left.items w.push.new.self.items
          c.loop-part.invariant w.in_ok-push.ensures.items (c.is_leftover.ensures.0 w.if-is_leftover.true))
      | else-is_leftover w ↦ rw w.left-is (leave_at K c.args.parts.now c.loop-part.part-index (Frame 0 0) c.loop-part-test.true c.loop-part.left.items c.loop-part.left.items
          c.loop-part.invariant refl (λ left. let both = sym w.if-is_leftover.false ∙ c.is_leftover.ensures.1 left in let f : ⊥ = cc in f))
    ]

pub returns : goal.returns
returns c =
    let K = IsLeftover c.args.parts.now in
    kept K c.args.parts.now c.loop-part.left.items (come_all (Kept K) c.args.parts.now c.loop-part.part-index c.loop-part.left.items c.loop-part-test.false c.loop-part.invariant)
