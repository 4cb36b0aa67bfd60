use Rattle.std.proofs.Common.{◌≡◌}
use Rattle.lru_actors.specs.declared.message.LruMsg.TheVariants.{Snapshot}
use Rattle.lru_actors.specs.declared.effect.Reply.TheVariants.{Rows}
use Rattle.lru_async.specs.Saving.{IsReport}
use Rattle.lru_async.proofs.saving.save_all.Given as goal

-- the shards so far are told
abbrev pub invariant-loop-shard : goal.invariant-loop-shard
invariant-loop-shard g l = record {
  told : IsReport (goal.F-post g l.write) (λ rows. (old new : g.row.L.Denot) × g.L.Line.Told old rows.shard_index Snapshot (Rows rows.items) rows.refused new) l.shard l.report;
  count : g.L.Line.shards l.line ≡ g.L.Line.shards l.initial.line;
}
