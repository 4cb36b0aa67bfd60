use Rattle.std.proofs.Common.{rules}
use Rattle.lru_frames.proofs.Steps.{by_bytes}
use Rattle.lru_frames.proofs.crc_words.near.Goals as goal

pub returns : goal.returns
returns c =
    by_bytes 0 c.args.state _ _ _ _ _ _ _ _ (search rules) c.near_entry.ensures c.near_entry-2.ensures c.near_entry-3.ensures c.near_entry-4.ensures
    c.near_entry-5.ensures c.near_entry-6.ensures c.near_entry-7.ensures c.near_entry-8.ensures
