use Rattle.std.proofs.Common.{inl}
use Rattle.trace_player_inside.proofs.Unseen.{put_in_segments}
use Rattle.trace_player_inside.proofs.asked.SegmentedCacheU64UnitAsked.ask.Goals as goal

pub returns-in-Ok : goal.returns-in-Ok
returns-in-Ok c =
    let uses = c.if-promote.ensures.uses in
    (uses.0, inl (put_in_segments _ _ c.args.self.now c.promote.new.self c.args.request c.max.result c.in-Ok.field-0 c.put.new.self uses.0 uses.1 c.max.ensures c.in-Ok.ensures))
