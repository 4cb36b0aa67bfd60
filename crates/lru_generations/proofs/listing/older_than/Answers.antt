use Rattle.std.proofs.Common.{◌<◌, refl, arith}
use Rattle.lru_generations.specs.declared.names.PartName.{PartName}
use Rattle.lru_generations.specs.declared.names.PartName.TheVariants.{Frame}
use Rattle.lru_generations.specs.Names.{generation_of}
use Rattle.lru_generations.proofs.Members.{Kept, come_all, keep_at, kept, leave_at}
use Rattle.lru_generations.proofs.listing.older_than.Goals as goal
use Rattle.lru_generations.proofs.listing.older_than.Goals.{then-generation+in_ok-push, else-generation}

pub loop-part-preserved : goal.loop-part-preserved
loop-part-preserved c =
    let K = λ (part : PartName). generation_of part < c.args.generation in
    elim c.if-generation.branch [
      | then-generation+in_ok-push w ↦ rw w.older-is (keep_at K c.args.parts.now c.loop-part.part-index (Frame 0 0) c.loop-part-test.true c.loop-part.older.items w.push.new.self.items
          c.loop-part.invariant w.in_ok-push.ensures.items (omega (arith, c.generation.ensures, w.if-generation.true)))
      | else-generation w ↦ rw w.older-is (leave_at K c.args.parts.now c.loop-part.part-index (Frame 0 0) c.loop-part-test.true c.loop-part.older.items c.loop-part.older.items
          c.loop-part.invariant refl (λ lower. omega (arith, c.generation.ensures, w.if-generation.false, lower)))
    ]

pub returns : goal.returns
returns c =
    let K = λ (part : PartName). generation_of part < c.args.generation in
    kept K c.args.parts.now c.loop-part.older.items (come_all (Kept K) c.args.parts.now c.loop-part.part-index c.loop-part.older.items c.loop-part-test.false c.loop-part.invariant)
