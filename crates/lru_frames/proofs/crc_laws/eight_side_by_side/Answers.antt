use Rattle.lru_frames.proofs.CrcLaws.{one_window}
use Rattle.lru_frames.proofs.crc_laws.eight_side_by_side.Goals as goal

pub returns : goal.returns
returns c = λ front a b back e short is_a is_b other h. other (one_window front a b back e short is_a is_b h)
