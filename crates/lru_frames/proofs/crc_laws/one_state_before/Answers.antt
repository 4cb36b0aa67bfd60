use Rattle.lru_frames.proofs.CrcLaws.{one_before, same_start}
use Rattle.lru_frames.proofs.crc_laws.one_state_before.Goals as goal

pub returns-clause-byte : goal.returns-clause-byte
returns-clause-byte c = one_before

pub returns-clause-bytes : goal.returns-clause-bytes
returns-clause-bytes c = λ state other bytes. same_start bytes state other
