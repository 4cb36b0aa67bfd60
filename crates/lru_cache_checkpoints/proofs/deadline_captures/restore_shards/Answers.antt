use Rattle.std.proofs.Common.{inl, inr, Err, ◌∙◌, sym, ap, length, subst, arith}
use Rattle.std.proofs.lemmas.Result.{err_from_is_err_and}
use Rattle.std.specs.Vec.Iter.{into_iter_items}
use Rattle.lru_cache_checkpoints.specs.CapturedDeadlines.{PutsDeadlines}
use Rattle.lru_cache_checkpoints.proofs.deadline_captures.restore_shards.Goals as goal

pub loop-rows-preserved : goal.loop-rows-preserved
loop-rows-preserved g c =
    let inv = c.loop-rows.invariant in
    let items = c.in-Some.ensures.items in (
      λ answer new puts. inv.0 answer new
          (subst (λ shards. PutsDeadlines g.K.PartialEq.eq c.loop-rows.cache shards c.loop-rows.left_out answer new) (sym items)
          (inl (
            c.in_ok-restore_deadlines.field-0,
            (
              c.restore_deadlines.new.cache,
              (
                c.in_ok-restore_deadlines.ensures,
                subst (λ left. PutsDeadlines g.K.PartialEq.eq c.restore_deadlines.new.cache (into_iter_items c.next.new.self) left answer new) c.saturating_add-left_out.ensures puts,
              ),
            ),
          ))),
      omega (arith, inv.1, ap length items, c.in-Some.ensures.cases.1),
    )

pub returns-in_err-restore_deadlines : goal.returns-in_err-restore_deadlines
returns-in_err-restore_deadlines g c =
    let inv = c.loop-rows.invariant in
    let told = err_from_is_err_and c.from_residual.result c.from_residual.ensures.1 in
    inv.0 c.from_residual.result c.restore_deadlines.new.cache
    (subst (λ shards. PutsDeadlines g.K.PartialEq.eq c.loop-rows.cache shards c.loop-rows.left_out c.from_residual.result c.restore_deadlines.new.cache) (sym c.in-Some.ensures.items)
    (inr (c.in_err-restore_deadlines.field-0.0, (told.1 ∙ ap Err told.2, c.in_err-restore_deadlines.ensures))))
