use Rattle.lru_frames.proofs.CrcLaws.{crc_below, with_check}
use Rattle.lru_frames.proofs.crc_laws.with_their_check.Goals as goal

pub returns-clause-below : goal.returns-clause-below
returns-clause-below c = crc_below

pub returns-clause-residue : goal.returns-clause-residue
returns-clause-residue c = with_check
