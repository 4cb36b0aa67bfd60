use Rattle.std.proofs.Common.{refl, inl}
use Rattle.lru_actors.proofs.Done.{done_reply, told}
use Rattle.lru_actors.proofs.state.ShardState.peek_lru.Goals as goal

pub returns : goal.returns
returns g c =
    inl (done_reply _ _ _ _ _ _ (record {
      allowed = refl;
      left = refl;
      base_is = told _ _ _ _ _ c.effect-effect.ensures c.measure-before.ensures.value;
    }) refl refl refl c.last_pair.ensures)
