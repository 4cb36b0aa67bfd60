use Rattle.std.proofs.Common.{arith, rules}
use Rattle.std.specs.Int.{w64, cast_unsigned}
use Rattle.std.proofs.lemmas.Int.{ints}
use Rattle.lru_frames.specs.SignedLaws.{half_fits, read_signed}
use Rattle.lru_frames.specs.WordLaws.{no_word}
use Rattle.lru_frames.proofs.stored.signed.I32Stored.load.Goals as goal
use Rattle.lru_frames.proofs.stored.signed.I32Stored.load.Goals.{then-number-ltminus2147483648-via-then-number-ltminus2147483648, then-number-ltminus2147483648-via-else-number-ltminus2147483648+then-number-gt2147483647}

pub returns-in_default-clause-damaged : goal.returns-in_default-clause-damaged
returns-in_default-clause-damaged c = λ _ value rest _ h. no_word c.args.bytes.now rest (cast_unsigned w64 value) c.in_default.ensures h

pub returns-then-number-ltminus2147483648-clause-damaged : goal.returns-then-number-ltminus2147483648-clause-damaged
returns-then-number-ltminus2147483648-clause-damaged c = λ _ value rest small h.
    let same = read_signed c.args.bytes.now c.in-Some.rest.now rest c.in-Some.number value (search rules) (half_fits value small) c.in-Some.ensures h in
    elim c.then-number-ltminus2147483648.branch [
      | then-number-ltminus2147483648-via-then-number-ltminus2147483648 w ↦ omega (arith, ints, same, small, w.if-number-ltminus2147483648.true)
      | then-number-ltminus2147483648-via-else-number-ltminus2147483648+then-number-gt2147483647 w ↦ omega (arith, ints, same, small, w.if-number-gt2147483647.true)
    ]
