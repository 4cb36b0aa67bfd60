use Rattle.lru_shard_files.specs.Snapshot.{pair_in}
use Rattle.lru_shard_files.proofs.MappedItems.{mapped_more, mapped_all}
use Rattle.lru_shard_files.proofs.snapshot.pairs_in.Goals as goal

pub loop-record-init : goal.loop-record-init
loop-record-init c = c.in_ok-pairs.ensures.items

pub loop-record-preserved : goal.loop-record-preserved
loop-record-preserved c =
    mapped_more pair_in c.args.records.now c.loop-record.record-index c.loop-record.pairs.items c.loop-record.invariant _ c.pair_in.result c.push.new.self.items c.loop-record-test.true c.pair_in.ensures c.in_ok-push.ensures.items

pub returns : goal.returns
returns c = mapped_all pair_in c.args.records.now c.loop-record.record-index c.loop-record.pairs.items c.loop-record.invariant c.loop-record-test.false
