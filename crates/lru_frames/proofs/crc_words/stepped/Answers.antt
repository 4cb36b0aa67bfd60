use Rattle.std.proofs.Common.{rules}
use Rattle.lru_frames.proofs.CrcLaws.{step_by_table}
use Rattle.lru_frames.proofs.crc_words.stepped.Goals as goal

pub returns : goal.returns
returns c = step_by_table c.args.state c.args.byte c.near_entry.result (search rules) (search rules)
