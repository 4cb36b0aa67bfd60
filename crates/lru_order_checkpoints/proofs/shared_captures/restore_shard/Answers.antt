use Rattle.std.proofs.Common.{inl, inr, Err, ◌∙◌, sym, ap, length, subst, arith}
use Rattle.std.proofs.lemmas.Result.{err_from_is_err_and}
use Rattle.lru_order_checkpoints.specs.Captures.{MayPutEach}
use Rattle.lru_order_checkpoints.proofs.shared_captures.restore_shard.Goals as goal

pub returns-in_err-insert_tail : goal.returns-in_err-insert_tail
returns-in_err-insert_tail g c =
    let inv = c.loop-row.invariant in
    let told = err_from_is_err_and c.from_residual.result c.from_residual.ensures.1 in
    inv.0 c.from_residual.result
    (subst (λ rows. MayPutEach g.row.N rows c.from_residual.result) (sym c.in-Some.ensures.items) (inr (c.in_err-insert_tail.field-0.0, (told.1 ∙ ap Err told.2, c.in_err-insert_tail.ensures.row))))

pub loop-row-preserved : goal.loop-row-preserved
loop-row-preserved g c =
    let inv = c.loop-row.invariant in
    let items = c.in-Some.ensures.items in (
      λ answer puts. inv.0 answer (subst (λ rows. MayPutEach g.row.N rows answer) (sym items) (inl (c.in_ok-insert_tail.field-0, (c.in_ok-insert_tail.ensures.row, puts)))),
      omega (arith, inv.1, ap length items, c.in-Some.ensures.cases.1),
    )
