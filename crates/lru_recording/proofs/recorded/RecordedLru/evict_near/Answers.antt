use Rattle.std.proofs.Common.{◌∙◌, sym, refl, arith}
use Rattle.lru_recording.proofs.Probing.{no_empties, one_empty, one_found, finds_none}
use Rattle.lru_recording.proofs.recorded.RecordedLru.evict_near.Goals as goal

pub loop-steps-init : goal.loop-steps-init
loop-steps-init g c = (no_empties g.row.N c.args.seat.now.receipts.items, refl)

pub loop-steps-preserved : goal.loop-steps-preserved
loop-steps-preserved g c = (
  one_empty g.row.N c.shard_after-shard.result c.loop-steps.steps c.in_ok-pair.pair c.args.seat.now.receipts.items c.loop-steps.seat.receipts.items c.evict_from.new.seat.receipts.items (sym c.is_some.ensures ∙ c.if-is_some.false) c.shard_after-shard.ensures.below c.loop-steps.invariant.0 c.in_ok-pair.ensures.ok,
  c.in_ok-pair.ensures.seat ∙ c.loop-steps.invariant.1,
)
