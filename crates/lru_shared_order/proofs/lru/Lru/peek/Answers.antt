use Rattle.lru_shared_order.proofs.Seen.{seen_key}
use Rattle.lru_shared_order.proofs.lru.Lru.peek.Goals as goal

pub returns : goal.returns
returns g c =
    let locked = c.deref-2.result.now in
    seen_key g.row.N locked.number locked.unit c.args.key _ c.holds.ensures.valid locked.capped locked.home c.holds.ensures.answer
