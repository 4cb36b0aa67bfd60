use Rattle.std.proofs.Common.{◌++◌, ap, sym, ◌∙◌}
use Rattle.std.proofs.Common.{inl, arith, length}
use Rattle.std.proofs.lemmas.List.{length-append}
use Rattle.lru_frames.specs.Words.{word}
use Rattle.lru_frames.specs.WordLaws.{no_word, length-word}
use Rattle.lru_frames.specs.Envelope.{magic, version}
use Rattle.lru_frames.proofs.EnvelopeLaws.{head_parts, behind_magic, behind_version}
use Rattle.lru_frames.proofs.envelope.told_length.Goals as goal

pub returns-in_default-behind-clause-head : goal.returns-in_default-behind-clause-head
returns-in_default-behind-clause-head c = λ told rest h. c.in_default-behind.ensures (word told ++ rest) (behind_magic told c.args.bytes.now c.in-Some.rest.now rest c.in-Some.ensures h)

pub returns-in-None-clause-head : goal.returns-in-None-clause-head
returns-in-None-clause-head c = λ told rest h.
    no_word c.in-Some-behind.rest.now rest told c.in-None.ensures (behind_version told c.args.bytes.now c.in-Some.rest.now c.in-Some-behind.rest.now rest c.in-Some.ensures c.in-Some-behind.ensures h)

pub returns-in-Some-take_word-clause-head : goal.returns-in-Some-take_word-clause-head
returns-in-Some-take_word-clause-head c = (
  c.in-Some-take_word.field-0-1.now,
  c.in-Some.ensures ∙ ap (λ x. word magic ++ x) (c.in-Some-behind.ensures ∙ ap (λ x. word version ++ x) c.in-Some-take_word.ensures) ∙ sym (head_parts c.in-Some-take_word.told c.in-Some-take_word.field-0-1.now),
)

pub returns-in-None-clause-wrong : goal.returns-in-None-clause-wrong
returns-in-None-clause-wrong c =
    inl (omega (
      arith,
      c.in-None.ensures,
      ap length c.in-Some.ensures,
      length-append (word magic) c.in-Some.rest.now,
      length-word magic,
      ap length c.in-Some-behind.ensures,
      length-append (word version) c.in-Some-behind.rest.now,
      length-word version,
    ))
