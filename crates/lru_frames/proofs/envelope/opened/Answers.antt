use Rattle.std.proofs.Common.{rules, ◌++◌, ap, sym, ◌∙◌, arith, length}
use Rattle.lru_frames.specs.Envelope.{front_of, head_of, sealed}
use Rattle.lru_frames.proofs.EnvelopeLaws.{length-sealed, sealed_head, told_of_sealed, sealed_is_checked, is_sealed, one_head}
use Rattle.lru_frames.proofs.envelope.opened.Goals as goal

pub returns-then-bytes-clause-content : goal.returns-then-bytes-clause-content
returns-then-bytes-clause-content c = λ content h. omega (arith, c.if-bytes.true, ap length h, length-sealed content)

pub returns-in-Err-clause-content : goal.returns-in-Err-clause-content
returns-in-Err-clause-content c = λ content h. let head = sealed_head content in c.in-Err.ensures.head head.0 head.1.0 (h ∙ head.1.1)

pub returns-then-told-bytes-clause-content : goal.returns-then-told-bytes-clause-content
returns-then-told-bytes-clause-content c = λ content h.
    c.if-told-bytes.true (told_of_sealed c.args.bytes.now c.in-Ok.ensures.head.0 content c.in-Ok.told (search rules) (search rules) c.in-Ok.ensures.head.1 h)

pub returns-in-None-clause-content : goal.returns-in-None-clause-content
returns-in-None-clause-content c = λ content h. c.in-None.ensures.front (front_of content) (sealed_is_checked c.args.bytes.now content h)

pub returns-in-None-clause-told : goal.returns-in-None-clause-told
returns-in-None-clause-told c = λ told rest small other h _.
    absurd (other (one_head told c.in-Ok.told rest c.in-Ok.ensures.head.0 small (search rules) (sym h ∙ c.in-Ok.ensures.head.1) ∙ c.if-told-bytes.false))

pub returns-in-Some-clause-content : goal.returns-in-Some-clause-content
returns-in-Some-clause-content c =
    is_sealed c.args.bytes.now c.in-Some.front.now c.in-Ok.ensures.head.0 (search rules) c.if-bytes.false
    (c.in-Ok.ensures.head.1 ∙ ap (λ told. head_of told ++ c.in-Ok.ensures.head.0) c.if-told-bytes.false) c.in-Some.ensures.front
    ∙ ap sealed (sym c.split_at.ensures.back)

pub returns-in-Some-clause-told : goal.returns-in-Some-clause-told
returns-in-Some-clause-told c = λ told rest small other h _.
    absurd (other (one_head told c.in-Ok.told rest c.in-Ok.ensures.head.0 small (search rules) (sym h ∙ c.in-Ok.ensures.head.1) ∙ c.if-told-bytes.false))
