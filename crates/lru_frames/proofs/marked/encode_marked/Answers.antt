use Rattle.std.proofs.Common.{ap, length, ◌∙◌, arith}
use Rattle.lru_frames.specs.Frame.{content_of}
use Rattle.lru_frames.proofs.EnvelopeLaws.{length-sealed}
use Rattle.lru_frames.proofs.marked.encode_marked.Goals as goal

pub mark_at-mark-requires : goal.mark_at-mark-requires
mark_at-mark-requires g c =
    omega (arith, ap length (c.deref.ensures.value ∙ c.in_ok-bytes.ensures.bytes), length-sealed (content_of g.K.Stored.bytes_of g.V.Stored.bytes_of c.args.header c.args.rows.now))
