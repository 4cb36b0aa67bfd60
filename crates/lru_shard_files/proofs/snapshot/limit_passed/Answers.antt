use Rattle.std.proofs.Common.{◌<◌, ◌≤◌, ◌++◌, ◌/◌, ap, [], length, arith, length-append}
use Rattle.std.specs.Prelude.{map}
use Rattle.std.proofs.lemmas.List.{length-map}
use Rattle.pingora_lru.specs.Shard.{most_rows}
use Rattle.pingora_lru.specs.Core.{list_at}
use Rattle.pingora_lru.specs.Limits.{cap_of}
use Rattle.lru_shard_files.specs.SnapshotLoads.{row_of_pair}
use Rattle.lru_shard_files.proofs.SnapshotLimits.{passed_weight, weight_over}
use Rattle.lru_shard_files.proofs.snapshot.limit_passed.Goals as goal

pub returns-then-free_weight-weight : goal.returns-then-free_weight-weight
returns-then-free_weight-weight g c =
    let held = list_at c.args.core.now c.args.shard in
    let valid = c.shards-cap.ensures.valid in
    let there : c.args.shard < length c.args.core.now.lists = omega (arith, valid.count, c.requires) in
    let short : length (held ++ map row_of_pair c.args.pairs.now) ≤ most_rows (cap_of g.row.N) =
    omega (arith, c.min.ensures, ap (λ n. 18446744073709551615 / n) c.shards-cap.ensures.value, c.shard_len.ensures, c.if-free_rows-pairs.false, (valid.valid c.args.shard [] there).short, length-append held (map row_of_pair c.args.pairs.now), length-map c.args.pairs.now row_of_pair) in
    passed_weight (cap_of g.row.N) (held ++ map row_of_pair c.args.pairs.now) short
    (weight_over held c.args.pairs.now c.loop-weight.weight-index _ c.loop-weight-test.true c.loop-weight.free_weight (cap_of g.row.N) c.loop-weight.invariant c.if-free_weight-weight.true)
