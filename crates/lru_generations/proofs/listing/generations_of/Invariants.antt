use Rattle.std.proofs.Common.{◌≡◌, ℕ, take}
use Rattle.lru_generations.specs.declared.names.PartName.{PartName}
use Rattle.lru_generations.specs.declared.names.PartName.TheVariants.{Manifest}
use Rattle.lru_generations.proofs.Members.{ComeBy}
use Rattle.lru_generations.proofs.listing.generations_of.Given as goal

abbrev pub invariant-loop-part : goal.invariant-loop-part
invariant-loop-part l = ComeBy (λ (part : PartName) (generation : ℕ). part ≡ Manifest generation) (take l.part-index l.parts) l.generations.items
