use Rattle.std.proofs.Common.{◌≡◌, ◌%◌, ◌^◌, take}
use Rattle.std.specs.Prelude.{sum_by}
use Rattle.std.specs.List.{zip}
use Rattle.lru_workers.specs.Batch.{weight_taken, rows_taken}
use Rattle.lru_workers.proofs.bench.evicted_in.Given as goal

-- what the messages so far took
abbrev pub invariant-loop-place : goal.invariant-loop-place
invariant-loop-place g l = record {
  weight : l.weight ≡ sum_by weight_taken (take l.place (zip l.asked.items l.effects.items)) % 2 ^ 64;
  len : l.len ≡ sum_by rows_taken (take l.place (zip l.asked.items l.effects.items)) % 2 ^ 64;
}
