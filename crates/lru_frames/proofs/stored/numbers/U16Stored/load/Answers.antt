use Rattle.std.proofs.Common.{arith, rules}
use Rattle.lru_frames.specs.WordLaws.{no_word, read_word}
use Rattle.lru_frames.proofs.stored.numbers.U16Stored.load.Goals as goal

pub returns-in_default-clause-damaged : goal.returns-in_default-clause-damaged
returns-in_default-clause-damaged c = λ _ value rest _ h. no_word c.args.bytes.now rest value c.in_default.ensures h

pub returns-then-number-gt65535-clause-damaged : goal.returns-then-number-gt65535-clause-damaged
returns-then-number-gt65535-clause-damaged c = λ _ value rest small h.
    let same = read_word c.args.bytes.now c.in-Some.rest.now rest c.in-Some.number value (search rules) (omega arith) c.in-Some.ensures h in
    omega (arith, same.0, c.if-number-gt65535.true, small)
