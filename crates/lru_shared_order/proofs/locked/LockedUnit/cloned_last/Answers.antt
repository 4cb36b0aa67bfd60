use Rattle.std.proofs.Common.{Some, arith}
use Rattle.lru_shared_order.proofs.LruCaps.{shown_light}
use Rattle.lru_shared_order.proofs.locked.LockedUnit.cloned_last.Goals as goal

pub returns-clause-light : goal.returns-clause-light
returns-clause-light g c =
    let light = shown_light c.args.self.now.unit (Some (c.in-Some.data.now, c.in-Some.weight)) c.used_weight-weight.ensures.valid c.in-Some.ensures in
    omega (arith, light, c.args.self.now.capped)
