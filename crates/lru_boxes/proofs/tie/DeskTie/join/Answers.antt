use Rattle.std.proofs.Common.{arith}
use Rattle.lru_boxes.proofs.Moves.{joins}
use Rattle.lru_boxes.proofs.tie.DeskTie.join.Goals as goal

pub join_seat-requires : goal.join_seat-requires
join_seat-requires c = let o = c.args.self.now.one in (c.requires.ids.0, c.requires.ids.1, c.requires.free.1, omega (arith, o), joins _ _ _ _)
