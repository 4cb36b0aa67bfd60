use Rattle.std.proofs.Common.{arith, rules}
use Rattle.std.specs.Int.{w64, cast_unsigned}
use Rattle.std.proofs.lemmas.Int.{ints}
use Rattle.lru_frames.specs.SignedLaws.{quarter_fits, read_signed}
use Rattle.lru_frames.specs.WordLaws.{no_word}
use Rattle.lru_frames.proofs.stored.signed.I16Stored.load.Goals as goal
use Rattle.lru_frames.proofs.stored.signed.I16Stored.load.Goals.{then-number-ltminus32768-via-then-number-ltminus32768, then-number-ltminus32768-via-else-number-ltminus32768+then-number-gt32767}

pub returns-in_default-clause-damaged : goal.returns-in_default-clause-damaged
returns-in_default-clause-damaged c = λ _ value rest _ h. no_word c.args.bytes.now rest (cast_unsigned w64 value) c.in_default.ensures h

pub returns-then-number-ltminus32768-clause-damaged : goal.returns-then-number-ltminus32768-clause-damaged
returns-then-number-ltminus32768-clause-damaged c = λ _ value rest small h.
    let same = read_signed c.args.bytes.now c.in-Some.rest.now rest c.in-Some.number value (search rules) (quarter_fits value small) c.in-Some.ensures h in
    elim c.then-number-ltminus32768.branch [
      | then-number-ltminus32768-via-then-number-ltminus32768 w ↦ omega (arith, ints, same, small, w.if-number-ltminus32768.true)
      | then-number-ltminus32768-via-else-number-ltminus32768+then-number-gt32767 w ↦ omega (arith, ints, same, small, w.if-number-gt32767.true)
    ]
