use Rattle.std.proofs.Common.{String, Global, ◌≡◌, sym, subst, ◌∙◌, arith}
use Rattle.std.specs.Prelude.{Result}
use Rattle.lru_actors.specs.declared.message.LruMsg.TheVariants.{Snapshot}
use Rattle.lru_actors.specs.declared.effect.Reply.TheVariants.{Rows}
use Rattle.lru_async.specs.declared.async_lru.ShardData.{ShardData}
use Rattle.lru_async.specs.Saving.{IsReport}
use Rattle.lru_async.proofs.Reports.{all_told, saved_as, saved_more}
use Rattle.lru_async.proofs.saving.save_all.Goals as goal

pub hand_on-requires-clause-few : goal.hand_on-requires-clause-few
hand_on-requires-clause-few g c =
    let all = all_told (λ (rows : ShardData g.row.K.Denot) (answer : Result (Unit {0}) (String Global)). (g.F.Fn).post c.args.write.now (rows, tt) answer) (λ (rows : ShardData g.row.K.Denot). (old new : g.row.L.Denot) × g.L.Line.Told old rows.shard_index Snapshot (Rows rows.items) rows.refused new) c.loop-shard.shard c.loop-shard.report c.loop-shard.invariant.told in
    omega (arith, all, c.loop-shard-test.true, c.count-shard-end.type_inv)

pub loop-shard-preserved : goal.loop-shard-preserved
loop-shard-preserved g c = record {
  told = saved_more (λ (rows : ShardData g.row.K.Denot) (answer : Result (Unit {0}) (String Global)). (g.F.Fn).post c.args.write.now (rows, tt) answer) (λ (rows : ShardData g.row.K.Denot). (old new : g.row.L.Denot) × g.L.Line.Told old rows.shard_index Snapshot (Rows rows.items) rows.refused new) c.loop-shard.shard c.rows_of-rows.result c.loop-shard.report c.hand_on.new.self c.loop-shard.invariant.told c.hand_on.ensures (λ r e.
      let t = c.rows_of-rows.ensures.told r e in
      (t.0, (c.loop-shard.line, c.rows_of-rows.new.line, subst (λ n. g.L.Line.Told c.loop-shard.line n Snapshot (Rows r.items) r.refused c.rows_of-rows.new.line) (sym t.0) t.1)));
  count = c.rows_of-rows.ensures.count ∙ c.loop-shard.invariant.count;
}

pub returns-clause-all : goal.returns-clause-all
returns-clause-all g c =
    let all = all_told (λ (rows : ShardData g.row.K.Denot) (answer : Result (Unit {0}) (String Global)). (g.F.Fn).post c.args.write.now (rows, tt) answer) (λ (rows : ShardData g.row.K.Denot). (old new : g.row.L.Denot) × g.L.Line.Told old rows.shard_index Snapshot (Rows rows.items) rows.refused new) c.loop-shard.shard c.loop-shard.report c.loop-shard.invariant.told in
    omega (arith, all, c.loop-shard-test.false, c.loop-shard.auto.shard-end, c.count-shard-end.ensures)

pub returns-clause-told : goal.returns-clause-told
returns-clause-told g c =
    let at : c.loop-shard.shard ≡ g.L.Line.shards c.args.line.now = omega (arith, c.loop-shard-test.false, c.loop-shard.auto.shard-end, c.count-shard-end.ensures) in
    subst (λ n. IsReport (λ (rows : ShardData g.row.K.Denot) (answer : Result (Unit {0}) (String Global)). (g.F.Fn).post c.args.write.now (rows, tt) answer) (λ (rows : ShardData g.row.K.Denot). (old new : g.row.L.Denot) × g.L.Line.Told old rows.shard_index Snapshot (Rows rows.items) rows.refused new) n c.loop-shard.report) at c.loop-shard.invariant.told

pub returns-clause-any : goal.returns-clause-any
returns-clause-any g c =
    let at : c.loop-shard.shard ≡ g.L.Line.shards c.args.line.now = omega (arith, c.loop-shard-test.false, c.loop-shard.auto.shard-end, c.count-shard-end.ensures) in
    saved_as (λ (rows : ShardData g.row.K.Denot) (answer : Result (Unit {0}) (String Global)). (g.F.Fn).post c.args.write.now (rows, tt) answer) (λ (rows : ShardData g.row.K.Denot). (old new : g.row.L.Denot) × g.L.Line.Told old rows.shard_index Snapshot (Rows rows.items) rows.refused new) (λ _. Unit {0}) (λ _ _. tt) (g.L.Line.shards c.args.line.now) c.loop-shard.report (subst (λ n. IsReport (λ (rows : ShardData g.row.K.Denot) (answer : Result (Unit {0}) (String Global)). (g.F.Fn).post c.args.write.now (rows, tt) answer) (λ (rows : ShardData g.row.K.Denot). (old new : g.row.L.Denot) × g.L.Line.Told old rows.shard_index Snapshot (Rows rows.items) rows.refused new) n c.loop-shard.report) at c.loop-shard.invariant.told)
