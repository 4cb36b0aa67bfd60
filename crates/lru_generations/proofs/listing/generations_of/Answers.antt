use Rattle.std.proofs.Common.{◌≡◌, ℕ, refl, sym, ◌∙◌}
use Rattle.lru_generations.specs.declared.names.PartName.{PartName}
use Rattle.lru_generations.specs.declared.names.PartName.TheVariants.{Frame, Manifest}
use Rattle.lru_generations.proofs.Members.{come_all, come_push_at, come_skip_at}
use Rattle.lru_generations.proofs.ListingLaws.{same_manifest, sorted_found, sorted_falling}
use Rattle.lru_generations.proofs.listing.generations_of.Goals as goal
use Rattle.lru_generations.proofs.listing.generations_of.Goals.{in-Manifest+in_ok-push, in_default}

pub loop-part-preserved : goal.loop-part-preserved
loop-part-preserved c =
    let R = λ (part : PartName) (generation : ℕ). part ≡ Manifest generation in
    elim c.match-part.branch [
      | in-Manifest+in_ok-push w ↦ rw w.generations-is (come_push_at R c.args.parts.now c.loop-part.part-index (Frame 0 0) c.loop-part-test.true c.loop-part.generations.items w.push.new.self.items
          c.loop-part.invariant w.in-Manifest.generation w.in_ok-push.ensures.items w.in-Manifest.is (λ other is. same_manifest w.in-Manifest.generation other (sym w.in-Manifest.is ∙ is)))
      | in_default w ↦ rw w.generations-is (come_skip_at R c.args.parts.now c.loop-part.part-index (Frame 0 0) c.loop-part-test.true c.loop-part.generations.items c.loop-part.generations.items
          c.loop-part.invariant refl w.in_default.not-Manifest)
    ]

pub returns-clause-found : goal.returns-clause-found
returns-clause-found c =
    let R = λ (part : PartName) (generation : ℕ). part ≡ Manifest generation in
    sorted_found c.args.parts.now c.loop-part.generations.items c.sort_unstable.new.self.items c.dedup.new.self.items c.reverse.new.self.items
    (come_all R c.args.parts.now c.loop-part.part-index c.loop-part.generations.items c.loop-part-test.false c.loop-part.invariant)
    c.sort_unstable.ensures.permutation c.dedup.ensures.filtered c.reverse.ensures.permutation

pub returns-clause-falling : goal.returns-clause-falling
returns-clause-falling c =
    sorted_falling c.sort_unstable.new.self.items c.dedup.new.self.items c.reverse.new.self.items c.sort_unstable.ensures.sorted c.dedup.ensures.filtered c.reverse.ensures.items
