use Rattle.std.proofs.Common.{inr, Err, ◌∙◌, sym, ap, length, subst, arith}
use Rattle.std.proofs.lemmas.Result.{err_from_is_err_and}
use Rattle.std.specs.Vec.Iter.{into_iter_items}
use Rattle.lru_cache_checkpoints.specs.Captures.{MayPutEntries}
use Rattle.lru_cache_checkpoints.proofs.Restoring.{may_leave_more, may_put_more}
use Rattle.lru_cache_checkpoints.proofs.shared_captures.restore_shard.Goals as goal

pub loop-row-preserved-then-is_out : goal.loop-row-preserved-then-is_out
loop-row-preserved-then-is_out g c =
    let inv = c.loop-row.invariant in
    let items = c.in-Some.ensures.items in (
      λ answer puts. inv.0 answer
          (subst (λ rows. MayPutEntries g.K.PartialEq.eq rows c.loop-row.left_out answer) (sym items)
          (may_leave_more g.K.PartialEq.eq c.in-Some.row (into_iter_items c.next.new.self) c.loop-row.left_out answer c.in_ok-is_out.is_out c.if-is_out.true c.in_ok-is_out.ensures puts)),
      (omega (arith, inv.1.0, ap length items, c.in-Some.ensures.cases.1), omega (arith, inv.1.1, ap length items)),
    )

pub loop-row-preserved : goal.loop-row-preserved
loop-row-preserved g c =
    let inv = c.loop-row.invariant in
    let items = c.in-Some.ensures.items in (
      λ answer puts. inv.0 answer
          (subst (λ rows. MayPutEntries g.K.PartialEq.eq rows c.loop-row.left_out answer) (sym items)
          (may_put_more g.K.PartialEq.eq c.in-Some.row (into_iter_items c.next.new.self) c.loop-row.left_out answer c.in_ok-is_out.is_out c.if-is_out.false c.in_ok-is_out.ensures puts)),
      (omega (arith, inv.1.0, ap length items, c.in-Some.ensures.cases.1), omega (arith, inv.1.1, ap length items)),
    )

pub returns-in_err-is_out : goal.returns-in_err-is_out
returns-in_err-is_out g c =
    let inv = c.loop-row.invariant in
    let told = err_from_is_err_and c.from_residual.result c.from_residual.ensures.1 in
    inv.0 c.from_residual.result
    (subst (λ rows. MayPutEntries g.K.PartialEq.eq rows c.loop-row.left_out c.from_residual.result) (sym c.in-Some.ensures.items) (inr (c.in_err-is_out.field-0.0, (told.1 ∙ ap Err told.2, c.in_err-is_out.ensures))))
