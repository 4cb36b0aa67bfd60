use Rattle.std.proofs.Common.{◌<◌, ◌≤◌, length, arith}
use Rattle.lru_shared_order.proofs.InTurn.{goes_on, at_end}
use Rattle.lru_shared_order.proofs.admitting.admit_each.Goals as goal

pub loop-place-preserved : goal.loop-place-preserved
loop-place-preserved g c =
    let items = c.loop-place.batch.items in
    let within : c.loop-place.place < length items
    = omega (arith, c.loop-place-test.true, c.len-place-end.ensures, c.loop-place.invariant.as_many, c.loop-place.batch.ok.0) in
    record {
      so_far = goes_on g.row.N c.args.shard c.args.unit.now c.args.batch.now.items c.loop-place.unit c.admit_one.new.unit items c.loop-place.place c.index_mut.result.now c.admit_one.new.admission
          within c.index_mut.ensures.value c.admit_one.ensures c.loop-place.invariant.so_far;
      as_many = c.loop-place.invariant.as_many;
    }

pub returns : goal.returns
returns g c =
    let past : length c.loop-place.batch.items ≤ c.loop-place.place
    = omega (arith, c.loop-place-test.false, c.len-place-end.ensures, c.loop-place.invariant.as_many, c.loop-place.batch.ok.0) in
    at_end g.row.N c.args.shard c.args.unit.now c.args.batch.now.items c.loop-place.unit c.loop-place.batch.items c.loop-place.place past c.loop-place.invariant.so_far
