use Rattle.std.proofs.Common.{String, Global, ◌≡◌, ◌<◌, sym, subst, ◌∙◌, arith}
use Rattle.std.specs.Prelude.{Result}
use Rattle.std.specs.Option.{ForSome}
use Rattle.lru_shard.specs.Limits.{cap_of}
use Rattle.lru_actors.specs.declared.message.LruMsg.TheVariants.{Snapshot}
use Rattle.lru_async.specs.declared.async_lru.ShardData.{ShardData}
use Rattle.lru_async.specs.Saving.{IsReport}
use Rattle.lru_async.proofs.Reports.{all_told, saved_more}
use Rattle.lru_async.specs.Logged.{IsRows}
use Rattle.lru_async.proofs.Logged.{rows_told, sees_then}
use Rattle.lru_async.proofs.logged_lru.LoggedLru.save_report.Goals as goal

pub hand_on-requires-clause-may : goal.hand_on-requires-clause-may
hand_on-requires-clause-may g c = λ r e.
    let t = c.rows_of-rows.ensures.told r e in
    let told = rows_told g.K.Clone.is_clone (cap_of g.row.N) Snapshot c.args.caller.now c.loop-shard.caller c.rows_of-rows.new.caller c.loop-shard.shard r c.loop-shard.invariant.grows c.rows_of-rows.ensures.grows t.0 t.1 t.2 in
    c.requires r (subst (λ n. n < g.row.N) (sym t.0) c.loop-shard-test.true) told

pub hand_on-requires-clause-few : goal.hand_on-requires-clause-few
hand_on-requires-clause-few g c =
    let all = all_told (λ (rows : ShardData g.row.K.Denot) (answer : Result (Unit {0}) (String Global)). (g.F.Fn).post c.args.write (rows, tt) answer) (IsRows g.K.Clone.is_clone (cap_of g.row.N) c.args.caller.now) c.loop-shard.shard c.loop-shard.report c.loop-shard.invariant.told in
    omega (arith, all, c.loop-shard-test.true, g.N.fits)

pub loop-shard-preserved : goal.loop-shard-preserved
loop-shard-preserved g c = record {
  told = saved_more (λ (rows : ShardData g.row.K.Denot) (answer : Result (Unit {0}) (String Global)). (g.F.Fn).post c.args.write (rows, tt) answer) (IsRows g.K.Clone.is_clone (cap_of g.row.N) c.args.caller.now) c.loop-shard.shard c.rows_of-rows.result c.loop-shard.report c.hand_on.new.self c.loop-shard.invariant.told c.hand_on.ensures (λ r e.
      let t = c.rows_of-rows.ensures.told r e in
      (t.0, rows_told g.K.Clone.is_clone (cap_of g.row.N) Snapshot c.args.caller.now c.loop-shard.caller c.rows_of-rows.new.caller c.loop-shard.shard r c.loop-shard.invariant.grows c.rows_of-rows.ensures.grows t.0 t.1 t.2));
  grows = sees_then c.args.caller.now c.loop-shard.caller c.rows_of-rows.new.caller c.loop-shard.invariant.grows c.rows_of-rows.ensures.grows;
}

pub returns-clause-all : goal.returns-clause-all
returns-clause-all g c =
    let all = all_told (λ (rows : ShardData g.row.K.Denot) (answer : Result (Unit {0}) (String Global)). (g.F.Fn).post c.args.write (rows, tt) answer) (IsRows g.K.Clone.is_clone (cap_of g.row.N) c.args.caller.now) c.loop-shard.shard c.loop-shard.report c.loop-shard.invariant.told in
    omega (arith, all, c.loop-shard-test.false, c.loop-shard.auto.shard-end)

pub returns-clause-told : goal.returns-clause-told
returns-clause-told g c =
    let at : c.loop-shard.shard ≡ g.row.N = omega (arith, c.loop-shard-test.false, c.loop-shard.auto.shard-end) in
    subst (λ n. IsReport (λ (rows : ShardData g.row.K.Denot) (answer : Result (Unit {0}) (String Global)). (g.F.Fn).post c.args.write (rows, tt) answer) (IsRows g.K.Clone.is_clone (cap_of g.row.N) c.args.caller.now) n c.loop-shard.report) at c.loop-shard.invariant.told
