use Rattle.std.proofs.Common.{take}
use Rattle.lru_generations.specs.declared.names.PartName.{PartName}
use Rattle.lru_generations.specs.Listing.{IsAnyManifest}
use Rattle.lru_generations.proofs.Members.{ComeBy, Kept}
use Rattle.lru_generations.proofs.listing.manifests_apart.Given as goal

-- the parts so far are in one list or the other
abbrev pub invariant-loop-part : goal.invariant-loop-part
invariant-loop-part l = record {
  manifests : ComeBy (Kept IsAnyManifest) (take l.part-index l.parts) l.manifests.items;
  others : ComeBy (Kept (λ (part : PartName). ¬ IsAnyManifest part)) (take l.part-index l.parts) l.others.items;
}
