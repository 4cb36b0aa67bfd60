use Rattle.std.proofs.Common.{ℕ, refl, ap, inl}
use Rattle.lru_actors.proofs.Done.{done_reply, told}
use Rattle.lru_actors.proofs.state.ShardState.query_weight.Goals as goal

pub returns : goal.returns
returns g c =
    inl (done_reply _ _ _ _ _ _ (record {
      allowed = refl;
      left = refl;
      base_is = told _ _ _ _ _ c.effect-effect.ensures c.measure-before.ensures.value;
    }) refl refl refl (ap (λ (m : ℕ × ℕ). m.0) c.measure-before.ensures.value))
