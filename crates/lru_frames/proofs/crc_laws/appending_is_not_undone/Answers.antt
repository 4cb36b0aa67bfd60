use Rattle.lru_frames.proofs.CrcLaws.{not_undone}
use Rattle.lru_frames.proofs.crc_laws.appending_is_not_undone.Goals as goal

pub returns : goal.returns
returns c = not_undone
