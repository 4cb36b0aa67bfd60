use Rattle.std.proofs.Common.{inl, inr, Err, ◌∙◌, sym, ap, length, subst, arith}
use Rattle.std.proofs.lemmas.Result.{err_from_is_err_and}
use Rattle.std.specs.Vec.Iter.{into_iter_items}
use Rattle.lru_cache_checkpoints.specs.CapturedAges.{MayPutAged}
use Rattle.lru_cache_checkpoints.proofs.shared_deadline_captures.restore_shards.Goals as goal

pub loop-rows-preserved : goal.loop-rows-preserved
loop-rows-preserved g c =
    let inv = c.loop-rows.invariant in
    let items = c.in-Some.ensures.items in (
      λ answer puts. inv.0 answer
          (subst (λ shards. MayPutAged g.K.PartialEq.eq shards c.loop-rows.left_out answer) (sym items)
          (inl (
            c.in_ok-restore_shard.field-0,
            (
              c.in_ok-restore_shard.ensures,
              subst (λ left. MayPutAged g.K.PartialEq.eq (into_iter_items c.next.new.self) left answer) c.saturating_add-left_out.ensures puts,
            ),
          ))),
      omega (arith, inv.1, ap length items, c.in-Some.ensures.cases.1),
    )

pub returns-in_err-restore_shard : goal.returns-in_err-restore_shard
returns-in_err-restore_shard g c =
    let inv = c.loop-rows.invariant in
    let told = err_from_is_err_and c.from_residual.result c.from_residual.ensures.1 in
    inv.0 c.from_residual.result
    (subst (λ shards. MayPutAged g.K.PartialEq.eq shards c.loop-rows.left_out c.from_residual.result) (sym c.in-Some.ensures.items)
    (inr (c.in_err-restore_shard.field-0.0, (told.1 ∙ ap Err told.2, c.in_err-restore_shard.ensures))))
