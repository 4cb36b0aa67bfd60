use Rattle.std.proofs.Common.{rules}
use Rattle.lru_frames.specs.SignedLaws.{no_wide, no_high}
use Rattle.lru_frames.proofs.words.take_wide.Goals as goal

pub returns-in-None : goal.returns-in-None
returns-in-None c = λ number rest h. no_wide c.args.bytes.now rest number c.in-None.ensures h

pub returns-in-None-take_word : goal.returns-in-None-take_word
returns-in-None-take_word c = λ number rest h.
    no_high c.args.bytes.now c.in-Some.rest.now rest c.in-Some.low number (search rules) c.in-Some.ensures c.in-None-take_word.ensures h
