use Rattle.lru_frames.specs.WordLaws.{no_word}
use Rattle.lru_frames.proofs.stored.values.U64Stored.load.Goals as goal

pub returns-in-None-clause-damaged : goal.returns-in-None-clause-damaged
returns-in-None-clause-damaged c = λ _ value rest _ h. no_word c.args.bytes.now rest value c.in-None.ensures h
