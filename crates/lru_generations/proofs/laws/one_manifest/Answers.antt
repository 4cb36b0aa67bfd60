use Rattle.lru_generations.proofs.ManifestLaws.{one_manifest}
use Rattle.lru_generations.proofs.laws.one_manifest.Goals as goal

pub returns : goal.returns
returns c = one_manifest
