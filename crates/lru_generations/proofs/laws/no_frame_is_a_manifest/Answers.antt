use Rattle.lru_generations.proofs.ManifestLaws.{no_frame_is_a_manifest}
use Rattle.lru_generations.proofs.laws.no_frame_is_a_manifest.Goals as goal

pub returns : goal.returns
returns g c =
    let K = g.K.Stored in
    let V = g.V.Stored in
    no_frame_is_a_manifest K.bytes_of V.bytes_of K.is_value V.is_value
