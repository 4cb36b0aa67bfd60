use Rattle.std.proofs.Common.{refl, ap, ◌∙◌, inl}
use Rattle.lru_shard.specs.Shard.{Shard, shard}
use Rattle.lru_actors.specs.declared.message.LruMsg.TheVariants.{Promote}
use Rattle.lru_actors.specs.Messages.{State, state_of, consumed}
use Rattle.lru_actors.proofs.Done.{done_quiet, told}
use Rattle.lru_actors.proofs.state.ShardState.promote.Goals as goal

pub returns : goal.returns
returns g c =
    inl (done_quiet _ _ _ _ _ (record {
      allowed = refl;
      left = ap (λ (u : Shard g.row.K.Denot). state_of u c.self.inside.refused) c.access-held.ensures.rows
          ∙ ap (λ (s : State g.row.K.Denot). state_of (shard (consumed s.shard.rows (Promote c.args.hash)) s.shard.cap) s.refused) c.self.view_is;
      base_is = told _ _ _ _ _ c.effect.ensures c.measure-before.ensures.value;
    }) refl refl refl refl)
