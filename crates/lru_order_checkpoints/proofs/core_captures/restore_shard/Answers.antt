use Rattle.std.proofs.Common.{inl, inr, Err, ◌∙◌, sym, ap, length, subst, arith}
use Rattle.std.proofs.lemmas.Result.{err_from_is_err_and}
use Rattle.lru_order_checkpoints.specs.Captures.{PutsEach}
use Rattle.lru_order_checkpoints.proofs.core_captures.restore_shard.Goals as goal

pub returns-in_err-insert_tail : goal.returns-in_err-insert_tail
returns-in_err-insert_tail g c =
    let inv = c.loop-row.invariant in
    let told = err_from_is_err_and c.from_residual.result c.from_residual.ensures.1 in
    inv.0 c.from_residual.result c.insert_tail.new.self
    (subst (λ rows. PutsEach c.loop-row.core rows c.from_residual.result c.insert_tail.new.self) (sym c.in-Some.ensures.items) (inr (c.in_err-insert_tail.field-0.0, (told.1 ∙ ap Err told.2, c.in_err-insert_tail.ensures))))

pub loop-row-preserved : goal.loop-row-preserved
loop-row-preserved g c =
    let inv = c.loop-row.invariant in
    let items = c.in-Some.ensures.items in (
      λ answer new puts. inv.0 answer new (subst (λ rows. PutsEach c.loop-row.core rows answer new) (sym items) (inl (c.insert_tail.new.self, (c.in_ok-insert_tail.field-0, (c.in_ok-insert_tail.ensures, puts))))),
      omega (arith, inv.1, ap length items, c.in-Some.ensures.cases.1),
    )
