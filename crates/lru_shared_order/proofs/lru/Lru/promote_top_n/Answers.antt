use Rattle.std.proofs.Common.{sym, ◌∙◌}
use Rattle.lru_shared_order.proofs.Seen.{seen_key, first_held}
use Rattle.lru_shared_order.proofs.lru.Lru.promote_top_n.Goals as goal
use Rattle.lru_shared_order.proofs.lru.Lru.promote_top_n.Goals.{then-is_among_first, else-is_among_first}

pub returns : goal.returns
returns g c =
    elim c.if-is_among_first.branch [
      | then-is_among_first w ↦
          let locked = c.deref-2.result.now in
          let first = first_held locked.unit.rows c.args.key c.args.top (sym w.if-is_among_first.true ∙ c.is_among_first.ensures.answer) in
          seen_key g.row.N locked.number locked.unit c.args.key _ c.is_among_first.ensures.valid locked.capped locked.home (w.result-is ∙ w.if-is_among_first.true ∙ first)
      | else-is_among_first w ↦
          let locked = w.deref_mut.result.now in
          seen_key g.row.N locked.number locked.unit c.args.key _ w.promote.ensures.valid locked.capped locked.home (w.result-is ∙ w.promote.ensures.answer)
    ]
