use Rattle.std.proofs.Common.{rules}
use Rattle.lru_frames.specs.WordLaws.{no_word}
use Rattle.lru_frames.proofs.EnvelopeLaws.{other_word}
use Rattle.lru_frames.proofs.envelope.behind.Goals as goal

pub returns-in-None : goal.returns-in-None
returns-in-None c = λ rest h. no_word c.args.bytes.now rest c.args.number c.in-None.ensures h

pub returns-else-found-number : goal.returns-else-found-number
returns-else-found-number c = λ rest h.
    other_word c.in-Some.found c.args.number c.args.bytes.now c.in-Some.rest.now rest (search rules) (search rules) c.if-found-number.false c.in-Some.ensures h
