use Rattle.std.proofs.Common.{◌≡◌, List}
use Rattle.std.specs.Prelude.{Option, Result}
use Rattle.lru_shard.specs.Limits.{cap_of}
use Rattle.lru_async.specs.Saving.{IsReport}
use Rattle.lru_async.specs.Logged.{IsRows, SeesMore}
use Rattle.lru_async.proofs.logged_lru.LoggedLru.save_report.Given as goal

-- the shards so far are told
abbrev pub invariant-loop-shard : goal.invariant-loop-shard
invariant-loop-shard g l = record {
  told : IsReport (goal.F-post g l.write) (IsRows g.K.Clone.is_clone (cap_of g.row.N) l.fn.caller) l.shard l.report;
  grows : SeesMore l.fn.caller l.caller;
}
