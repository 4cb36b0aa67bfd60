use Rattle.std.proofs.Common.{rules}
use Rattle.lru_frames.proofs.CrcLaws.{fold-word}
use Rattle.lru_frames.proofs.crc_words.word.Goals as goal

pub returns : goal.returns
returns c = λ state. fold-word c.args.bytes.now state c.from_le_bytes.result c.requires (search rules) (search rules) (search rules)
