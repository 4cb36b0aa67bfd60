use Rattle.std.proofs.Common.{◌≡◌, ◌∙◌, subst}
use Rattle.lru_shared_order.specs.Batches.{AdmitsEach}
use Rattle.lru_shared_order.proofs.lru.Lru.admit_each.Goals as goal

pub returns : goal.returns
returns g c =
    let locked = c.deref_mut.result.now in
    let here : locked.number ≡ c.args.shard = (λ j. (c.deref_mut.ensures.value j).number) ∙ c.unit_at-unit.ensures in
    record {
      old = locked.unit;
      new = c.admit_each.new.self.unit;
      cap = locked.capped;
      asked = subst (λ s. AdmitsEach g.row.N s locked.unit c.args.batch.now.items c.admit_each.new.batch.items c.admit_each.new.self.unit) here c.admit_each.ensures;
    }
