use Rattle.std.specs.Int.{w64, cast_unsigned}
use Rattle.lru_frames.specs.WordLaws.{no_word}
use Rattle.lru_frames.proofs.stored.signed.IsizeStored.load.Goals as goal

pub returns-in_default-clause-damaged : goal.returns-in_default-clause-damaged
returns-in_default-clause-damaged c = λ _ value rest _ h. no_word c.args.bytes.now rest (cast_unsigned w64 value) c.in_default.ensures h
