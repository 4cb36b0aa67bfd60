use Rattle.std.proofs.Common.{arith}
use Rattle.lru_frames.proofs.EnvelopeLaws.{is_checked, other_check}
use Rattle.lru_frames.proofs.envelope.checked.Goals as goal

pub returns-in-None-clause-front : goal.returns-in-None-clause-front
returns-in-None-clause-front c = λ front h.
    other_check c.args.bytes.now c.split_at.result.0.now c.split_at.result.1.now front c.crc64.result c.crc64.ensures (omega (arith, c.split_at.ensures.back_len, c.split_at.ensures.front_len, c.requires)) c.split_at.ensures.by_index.0 c.in-None.ensures h

pub returns-in-Some-clause-front : goal.returns-in-Some-clause-front
returns-in-Some-clause-front c =
    is_checked c.args.bytes.now c.split_at.result.0.now c.split_at.result.1.now c.in-Some.field-0.now c.crc64.result c.crc64.ensures (omega (arith, c.split_at.ensures.back_len, c.split_at.ensures.front_len, c.requires)) c.split_at.ensures.by_index.0 c.in-Some.ensures
