use Rattle.std.proofs.Common.{arith, []}
use Rattle.lru_inbox.proofs.Moves.{puts}
use Rattle.lru_inbox.proofs.tie.LogTie.put_said.Goals as goal

pub load-requires : goal.load-requires
load-requires g c = let o = c.args.self.now.one in (c.requires.id, omega (arith, o), puts _ _ _ 0 0 _ _ [] [] _ c.requires.desk)
