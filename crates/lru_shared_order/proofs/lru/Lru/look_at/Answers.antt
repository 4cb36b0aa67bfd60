use Rattle.std.proofs.Common.{◌≡◌, ◌∙◌, subst}
use Rattle.lru_shard.specs.Shards.{AreAtHome}
use Rattle.lru_shared_order.proofs.lru.Lru.look_at.Goals as goal

pub returns : goal.returns
returns g c =
    let locked = c.deref.result.now in
    let here : locked.number ≡ c.args.shard = (λ j. (c.deref.ensures j).number) ∙ c.unit_at.ensures in
    record {
      seen = locked.unit;
      valid = c.look_at.ensures.valid;
      cap = locked.capped;
      home = subst (λ s. AreAtHome g.row.N s locked.unit.rows) here locked.home;
      told = c.look_at.ensures.told;
    }
