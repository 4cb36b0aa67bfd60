use Rattle.std.proofs.Common.{◌≡◌, ◌<◌, None, Some, length, sym, arith}
use Rattle.lru_shared_order.specs.Batches.{home_of}
use Rattle.lru_shared_order.proofs.Answered.{all_same, all_after, all_answered, as_many, each_later}
use Rattle.lru_shared_order.proofs.Passed.{passed_one, passed_all}
use Rattle.lru_shared_order.proofs.lru.Lru.admit_many.Goals as goal

pub loop-place-init : goal.loop-place-init
loop-place-init g c = record { later = all_same g.row.N c.args.batch.now.items; passed = λ q d lt. absurd (omega (arith, lt)) }

pub index-requires : goal.index-requires
index-requires g c =
    let many = as_many g.row.N c.args.batch.now.items c.loop-place.batch.items c.loop-place.invariant.later in
    omega (arith, many, c.loop-place-test.true, c.len-place-end.ensures, c.args.batch.now.ok.0, c.loop-place.batch.ok.0)

pub loop-place-preserved-in_default : goal.loop-place-preserved-in_default
loop-place-preserved-in_default g c =
    let items = c.loop-place.batch.items in
    let many = as_many g.row.N c.args.batch.now.items items c.loop-place.invariant.later in
    let within : c.loop-place.place < length items = omega (arith, many, c.loop-place-test.true, c.len-place-end.ensures, c.args.batch.now.ok.0) in
    let none : home_of g.row.N c.index.result.now ≡ None = sym c.in_default.ensures in
    record {
      later = c.loop-place.invariant.later;
      passed = passed_one g.row.N items c.loop-place.place c.index.result.now within c.index.ensures none c.loop-place.invariant.passed;
    }

pub loop-place-preserved : goal.loop-place-preserved
loop-place-preserved g c =
    let items = c.loop-place.batch.items in
    let many = as_many g.row.N c.args.batch.now.items items c.loop-place.invariant.later in
    let within : c.loop-place.place < length items = omega (arith, many, c.loop-place-test.true, c.len-place-end.ensures, c.args.batch.now.ok.0) in
    let home : home_of g.row.N c.index.result.now ≡ Some c.in-Some.shard = sym c.in-Some.ensures in
    let asked = c.admit_each.ensures in
    record {
      later = all_after g.row.N c.args.batch.now.items items c.admit_each.new.batch.items c.loop-place.invariant.later
          (each_later g.row.N c.in-Some.shard asked.old asked.new items c.admit_each.new.batch.items asked.cap asked.asked).0;
      passed = passed_all g.row.N c.in-Some.shard asked.old asked.new items c.admit_each.new.batch.items c.loop-place.place c.index.result.now within c.index.ensures home asked.asked
          c.loop-place.invariant.passed;
    }

pub returns : goal.returns
returns g c =
    let items = c.loop-place.batch.items in
    let many = as_many g.row.N c.args.batch.now.items items c.loop-place.invariant.later in
    all_answered g.row.N c.args.batch.now.items items c.loop-place.invariant.later
    (λ p d lt. c.loop-place.invariant.passed p d (omega (arith, lt, many, c.loop-place-test.false, c.len-place-end.ensures, c.args.batch.now.ok.0)))
