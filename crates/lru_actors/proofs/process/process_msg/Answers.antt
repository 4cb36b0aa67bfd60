use Rattle.std.proofs.Common.{rules}
use Rattle.lru_actors.proofs.Served.{processed, turned_away}
use Rattle.lru_actors.proofs.process.process_msg.Goals as goal

pub returns : goal.returns
returns g c =
    processed g.D.Dispatch.Puts g.D.Dispatch.IsSame g.D.Dispatch.queue g.K.Clone.is_clone g.D.Dispatch.MayRefuse _ _ _ _ _ _ _ _ _ _ _ _
    c.if-not-make_room.ensures.map c.if-not-make_room.ensures.kept c.if-not-make_room.ensures.queue c.follow.ensures c.take-evicted.ensures.value c.take-evicted.ensures.after
    c.hand_over.ensures.handed c.hand_over.ensures.queue c.step-effect.ensures

pub returns-then-not-make_room : goal.returns-then-not-make_room
returns-then-not-make_room g c =
    turned_away g.D.Dispatch.Puts g.D.Dispatch.IsSame g.D.Dispatch.queue g.K.Clone.is_clone g.D.Dispatch.MayRefuse _ _ _ _ _ _ _ _ _
    c.make_room.ensures.map c.make_room.ensures.kept c.make_room.ensures.queue (c.make_room.ensures.wanted (search rules)) c.refuse.ensures.state c.refuse.ensures.effect c.is_looking.ensures
