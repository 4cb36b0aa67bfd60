use Rattle.std.proofs.Common.{◌<◌, take}
use Rattle.lru_generations.specs.declared.names.PartName.{PartName}
use Rattle.lru_generations.specs.Names.{generation_of}
use Rattle.lru_generations.proofs.Members.{ComeBy, Kept}
use Rattle.lru_generations.proofs.listing.older_than.Given as goal

abbrev pub invariant-loop-part : goal.invariant-loop-part
invariant-loop-part l = ComeBy (Kept (λ (part : PartName). generation_of part < l.generation)) (take l.part-index l.parts) l.older.items
