use Rattle.std.proofs.Common.{◌≡◌, ℕ, sym, ◌∙◌}
use Rattle.lru_generations.specs.declared.names.PartName.{PartName}
use Rattle.lru_generations.specs.declared.names.PartName.TheVariants.{Frame}
use Rattle.lru_generations.specs.Names.{generation_of}
use Rattle.lru_generations.proofs.ListingLaws.{sorted_falling}
use Rattle.lru_generations.proofs.Members.{come_all, come_push_at}
use Rattle.lru_generations.proofs.Telling.{sorted_come}
use Rattle.lru_generations.proofs.generation_checks.numbers_in.Goals as goal

pub loop-part-preserved : goal.loop-part-preserved
loop-part-preserved c =
    let R = λ (part : PartName) (generation : ℕ). generation_of part ≡ generation in
    come_push_at R c.args.parts.now c.loop-part.part-index (Frame 0 0) c.loop-part-test.true c.loop-part.generations.items c.push.new.self.items c.loop-part.invariant
    c.generation.result c.in_ok-push.ensures.items (sym c.generation.ensures) (λ other is. c.generation.ensures ∙ is)

pub returns-clause-found : goal.returns-clause-found
returns-clause-found c =
    let R = λ (part : PartName) (generation : ℕ). generation_of part ≡ generation in
    sorted_come R c.args.parts.now c.loop-part.generations.items c.sort_unstable.new.self.items c.dedup.new.self.items c.reverse.new.self.items
    (come_all R c.args.parts.now c.loop-part.part-index c.loop-part.generations.items c.loop-part-test.false c.loop-part.invariant)
    c.sort_unstable.ensures.permutation c.dedup.ensures.filtered c.reverse.ensures.permutation

pub returns-clause-falling : goal.returns-clause-falling
returns-clause-falling c =
    sorted_falling c.sort_unstable.new.self.items c.dedup.new.self.items c.reverse.new.self.items c.sort_unstable.ensures.sorted c.dedup.ensures.filtered c.reverse.ensures.items
