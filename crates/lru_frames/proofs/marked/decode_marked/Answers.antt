use Rattle.std.proofs.Common.{ap, arith}
use Rattle.std.proofs.Common.{length}
use Rattle.lru_frames.specs.Frame.{content_of}
use Rattle.lru_frames.proofs.EnvelopeLaws.{length-sealed}
use Rattle.lru_frames.proofs.marked.decode_marked.Goals as goal

pub mark_at-mark-requires : goal.mark_at-mark-requires
mark_at-mark-requires g c =
    omega (arith, ap length c.in-Ok.ensures.found, length-sealed (content_of g.K.Stored.bytes_of g.V.Stored.bytes_of c.in-Ok.frame.header c.in-Ok.frame.rows.items))
