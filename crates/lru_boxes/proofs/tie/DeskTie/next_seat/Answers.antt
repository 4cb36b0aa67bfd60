use Rattle.std.proofs.Common.{arith}
use Rattle.lru_boxes.proofs.Moves.{splits, cuts_seat}
use Rattle.lru_boxes.proofs.tie.DeskTie.next_seat.Goals as goal

pub split_seat-requires : goal.split_seat-requires
split_seat-requires c = let o = c.args.self.now.one in (c.requires.id, omega (arith, o), splits _ _ _ _ (cuts_seat _))
