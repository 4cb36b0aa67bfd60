use Rattle.std.proofs.Common.{inl, inr, Err, ◌∙◌, sym, ap, length, subst, arith}
use Rattle.std.proofs.lemmas.Result.{err_from_is_err_and}
use Rattle.lru_order_checkpoints.specs.Captures.{PutsShards}
use Rattle.lru_order_checkpoints.proofs.core_captures.restore_shards.Goals as goal

pub loop-rows-preserved : goal.loop-rows-preserved
loop-rows-preserved g c =
    let inv = c.loop-rows.invariant in
    let items = c.in-Some.ensures.items in (
      λ answer new puts. inv.0 answer new
          (subst (λ shards. PutsShards c.loop-rows.core shards answer new) (sym items) (inl (c.restore_shard.new.core, (c.in_ok-restore_shard.ensures, puts)))),
      omega (arith, inv.1, ap length items, c.in-Some.ensures.cases.1),
    )

pub returns-in_err-restore_shard : goal.returns-in_err-restore_shard
returns-in_err-restore_shard g c =
    let inv = c.loop-rows.invariant in
    let told = err_from_is_err_and c.from_residual.result c.from_residual.ensures.1 in
    inv.0 c.from_residual.result c.restore_shard.new.core
    (subst (λ shards. PutsShards c.loop-rows.core shards c.from_residual.result c.restore_shard.new.core) (sym c.in-Some.ensures.items)
    (inr (c.in_err-restore_shard.field-0.0, (told.1 ∙ ap Err told.2, c.in_err-restore_shard.ensures))))
