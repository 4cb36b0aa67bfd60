use Rattle.std.proofs.Common.{◌≡◌, Some, take}
use Rattle.lru_folder.specs.declared.listed.Listed.{Listed}
use Rattle.lru_folder.specs.Listings.{name_of}
use Rattle.lru_generations.specs.declared.names.PartName.{PartName}
use Rattle.lru_generations.specs.Names.{IsPart, part_text}
use Rattle.lru_generations.proofs.Members.{ComeBy}
use Rattle.lru_generations.proofs.listing.parts_in.Given as goal

abbrev pub invariant-loop-entry : goal.invariant-loop-entry
invariant-loop-entry l = ComeBy (λ (entry : Listed) (part : PartName). IsPart part × (name_of entry ≡ Some (part_text l.file_name part))) (take l.entry-index l.listed) l.parts.items
