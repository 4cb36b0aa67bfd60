use Rattle.lru_frames.specs.Frame.{content_of}
use Rattle.lru_frames.proofs.EnvelopeLaws.{begins_none}
use Rattle.lru_frames.proofs.FrameLaws.{one_frame}
use Rattle.lru_frames.proofs.laws.one_frame.Goals as goal

pub returns : goal.returns
returns g c = λ header other rows others rest fits others_fit small h.
    let K = g.K.Stored in
    let V = g.V.Stored in
    let same = begins_none (content_of K.bytes_of V.bytes_of header rows) (content_of K.bytes_of V.bytes_of other others) rest small h in
    let parts = one_frame K.bytes_of K.is_value K.is_same V.bytes_of V.is_value V.is_same g.met.K.Stored.tells_its_end g.met.V.Stored.tells_its_end header other rows others fits others_fit same.1 in
    (same.0, parts.0, parts.1)
