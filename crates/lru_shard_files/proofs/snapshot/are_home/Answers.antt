use Rattle.std.proofs.Common.{◌≡◌, ◌%◌, true, false, get_or, refl, sym, ap, ◌∙◌, arith}
use Rattle.lru_shard_files.proofs.SnapshotJoins.{not_home, homes_more, all_home}
use Rattle.lru_shard_files.proofs.snapshot.are_home.Goals as goal

pub loop-data-init : goal.loop-data-init
loop-data-init g c = λ k h. absurd (omega arith)

pub returns-then-data-shards-clause-answer : goal.returns-then-data-shards-clause-answer
returns-then-data-shards-clause-answer g c =
    let other = not_home c.args.core.now c.args.shard c.args.pairs.now c.loop-data.data-index _ c.loop-data-test.true c.shards-shards.result (c.shards-shards.ensures.valid.count ∙ sym c.shards-shards.ensures.value) c.if-data-shards.true in
    (λ e. absurd (let f : false ≡ true = e in (cc)), λ homes. absurd (other homes))

pub loop-data-preserved : goal.loop-data-preserved
loop-data-preserved g c =
    let at : (get_or c.args.pairs.now c.loop-data.data-index (record { key = 0; value = 0 }, 0)).0.key % c.shards-shards.result ≡ c.args.shard = c.if-data-shards.false in
    homes_more c.args.pairs.now c.loop-data.data-index _ c.loop-data-test.true g.row.N c.args.shard (ap (λ n. (get_or c.args.pairs.now c.loop-data.data-index (record { key = 0; value = 0 }, 0)).0.key % n) (sym c.shards-shards.ensures.value) ∙ at) c.loop-data.invariant

pub returns-clause-answer : goal.returns-clause-answer
returns-clause-answer g c = (λ e. all_home c.args.core.now c.args.shard c.args.pairs.now c.loop-data.data-index g.row.N c.loop-data-test.false c.shards-shards.ensures.valid.count c.loop-data.invariant, λ homes. refl)
