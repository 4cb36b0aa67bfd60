use Rattle.std.proofs.Common.{rules}
use Rattle.lru_frames.proofs.Steps.{by_bytes}
use Rattle.lru_frames.proofs.crc_words.far.Goals as goal

pub returns : goal.returns
returns c =
    by_bytes 192 c.args.state _ _ _ _ _ _ _ _ (search rules) c.far_entry.ensures c.far_entry-2.ensures c.far_entry-3.ensures c.far_entry-4.ensures
    c.far_entry-5.ensures c.far_entry-6.ensures c.far_entry-7.ensures c.far_entry-8.ensures
