use Rattle.std.proofs.Common.{refl, ap, ◌∙◌, inl}
use Rattle.lru_shard.specs.Shard.{Shard, shard}
use Rattle.lru_actors.specs.declared.message.LruMsg.TheVariants.{Remove}
use Rattle.lru_actors.specs.Messages.{State, state_of, consumed, cleared_of}
use Rattle.lru_actors.proofs.Done.{done_quiet, done_cleared, told}
use Rattle.lru_actors.proofs.Rows.{there, absent}
use Rattle.lru_actors.proofs.state.ShardState.remove.Goals as goal

pub returns : goal.returns
returns g c =
    inl (done_cleared _ _ _ _ _ _ (record {
      allowed = refl;
      left = ap (λ (u : Shard g.row.K.Denot). state_of u c.self.inside.refused) (c.remove.ensures.rows)
          ∙ ap (λ (s : State g.row.K.Denot). state_of (shard (consumed s.shard.rows (Remove c.args.hash)) s.shard.cap) s.refused) c.self.view_is;
      base_is = told _ _ _ _ _ c.effect-effect.ensures c.measure-before.ensures.value;
    }) refl
    (there c.args.hash _ c.in-Some._row c.in-Some.ensures.answer ∙ ap (λ (s : State g.row.K.Denot). cleared_of s.shard.rows (Remove c.args.hash)) c.self.view_is) refl refl)

pub returns-in_default : goal.returns-in_default
returns-in_default g c =
    inl (done_quiet _ _ _ _ _ (record {
      allowed = refl;
      left = ap (λ (u : Shard g.row.K.Denot). state_of u c.self.inside.refused) (c.remove.ensures.rows)
          ∙ ap (λ (s : State g.row.K.Denot). state_of (shard (consumed s.shard.rows (Remove c.args.hash)) s.shard.cap) s.refused) c.self.view_is;
      base_is = told _ _ _ _ _ c.effect.ensures c.measure-before.ensures.value;
    }) refl
    (absent c.args.hash _ c.in_default.ensures.answer ∙ ap (λ (s : State g.row.K.Denot). cleared_of s.shard.rows (Remove c.args.hash)) c.self.view_is) refl refl)
