use Rattle.std.proofs.Common.{rules, arith}
use Rattle.lru_frames.proofs.MarkLaws.{check_at_end, is_mark}
use Rattle.lru_frames.proofs.marked.mark_at.Goals as goal

pub returns-in-Some : goal.returns-in-Some
returns-in-Some c = λ content h.
    is_mark c.args.rows c.args.bytes.now content c.in-Some.check h
    (check_at_end c.args.bytes.now content c.split_at.result.0.now c.split_at.result.1.now c.in-Some.field-0-1.now c.in-Some.check (search rules)
    (omega (arith, c.split_at.ensures.back_len, c.split_at.ensures.front_len, c.requires)) c.split_at.ensures.by_index.0 c.in-Some.ensures h)
