use Rattle.lru_boxes.proofs.Desks.{desk_new}
use Rattle.lru_boxes.proofs.desk.Desk.new.Goals as goal

pub invariant_of-desk : goal.invariant_of-desk
invariant_of-desk g c =
    let puts = c.in_ok-put_seats.ensures.rest in
    let takes = c.in_ok-take_seats.ensures.rest in
    let state = c.in_ok-without_shares.ensures in
    ((c.requires.tables.0, puts.0), ((c.requires.tables.1, takes.0), desk_new _ _ c.args.blanks.putters c.args.blanks.takers _ _ _ c.requires.counts.0 c.requires.counts.1 state.book state.seats puts.1 takes.1))
