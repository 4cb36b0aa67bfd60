use Rattle.std.proofs.Common.{arith}
use Rattle.lru_inbox.proofs.Moves.{splits, cuts_copied}
use Rattle.lru_inbox.proofs.tie.LogTie.seen.Goals as goal

pub split_seat-requires : goal.split_seat-requires
split_seat-requires g c = let o = c.args.self.now.one in (c.requires.id, omega (arith, o), splits _ _ _ _ (cuts_copied _))
