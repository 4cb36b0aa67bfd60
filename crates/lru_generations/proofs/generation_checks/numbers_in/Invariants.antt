use Rattle.std.proofs.Common.{◌≡◌, ℕ, take}
use Rattle.lru_generations.specs.declared.names.PartName.{PartName}
use Rattle.lru_generations.specs.Names.{generation_of}
use Rattle.lru_generations.proofs.Members.{ComeBy}
use Rattle.lru_generations.proofs.generation_checks.numbers_in.Given as goal

abbrev pub invariant-loop-part : goal.invariant-loop-part
invariant-loop-part l = ComeBy (λ (part : PartName) (generation : ℕ). generation_of part ≡ generation) (take l.part-index l.parts) l.generations.items
