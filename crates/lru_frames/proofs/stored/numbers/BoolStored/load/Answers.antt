use Rattle.std.proofs.Common.{arith, rules}
use Rattle.lru_frames.specs.Words.{truth}
use Rattle.lru_frames.specs.WordLaws.{no_word, read_word, truth_small, truth_least}
use Rattle.lru_frames.proofs.stored.numbers.BoolStored.load.Goals as goal

pub returns-in_default-clause-damaged : goal.returns-in_default-clause-damaged
returns-in_default-clause-damaged c = λ _ value rest _ h. no_word c.args.bytes.now rest (truth value) c.in_default.ensures h

pub returns-then-number-gt1-clause-damaged : goal.returns-then-number-gt1-clause-damaged
returns-then-number-gt1-clause-damaged c = λ _ value rest _ h.
    let same = read_word c.args.bytes.now c.in-Some.rest.now rest c.in-Some.number (truth value) (search rules) (truth_small value) c.in-Some.ensures h in
    omega (arith, same.0, c.if-number-gt1.true, truth_least value)
