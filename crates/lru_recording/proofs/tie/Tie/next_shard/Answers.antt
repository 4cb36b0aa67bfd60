use Rattle.std.proofs.Common.{arith}
use Rattle.lru_recording.proofs.Moves.{splits, cuts_shard}
use Rattle.lru_recording.proofs.tie.Tie.next_shard.Goals as goal

pub split_seat-requires : goal.split_seat-requires
split_seat-requires c = let o = c.args.self.now.one in (c.requires.id, omega (arith, o), splits _ _ _ _ _ (cuts_shard _ c.requires.free.1.0 c.requires.free.1.1))
