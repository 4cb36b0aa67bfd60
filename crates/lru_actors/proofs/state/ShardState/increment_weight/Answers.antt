use Rattle.std.proofs.Common.{Some, refl, sym, ap, ◌∙◌, inl, inr, rules}
use Rattle.lru_shard.specs.Shard.{Shard, shard}
use Rattle.lru_actors.specs.declared.message.LruMsg.TheVariants.{IncrementWeight}
use Rattle.lru_actors.specs.Messages.{State, state_of, consumed, refusal_of, put_of}
use Rattle.lru_actors.proofs.Done.{done_put, declined_unit, told}
use Rattle.lru_actors.proofs.Rows.{increments, stops}
use Rattle.lru_actors.proofs.state.ShardState.increment_weight.Goals as goal

pub returns : goal.returns
returns g c =
    let x = increments _ c.self.inside.unit c.increment_weight.new.self c.args.hash c.args.key c.args.delta c.args.max_weight (λ m h. search rules) (c.in-Ok.field-0-0, c.in-Ok.weight, c.in-Ok.field-0-2) c.in-Ok.ensures in
    inl (done_put _ _ _ _ _ _ (record {
      allowed = ap (λ (s : State g.row.K.Denot). refusal_of s.shard (IncrementWeight c.args.hash c.args.key c.args.delta c.args.max_weight)) (sym c.self.view_is) ∙ x.1.allowed;
      left = ap (λ (u : Shard g.row.K.Denot). state_of u c.self.inside.refused) (x.1.left)
          ∙ ap (λ (s : State g.row.K.Denot). state_of (shard (consumed s.shard.rows (IncrementWeight c.args.hash c.args.key c.args.delta c.args.max_weight)) s.shard.cap) s.refused) c.self.view_is;
      base_is = told _ _ _ _ _ c.effect-effect.ensures c.measure-before.ensures.value;
    }) (ap (λ w. Some (c.args.hash, w)) x.0 ∙ ap (λ (s : State g.row.K.Denot). put_of s.shard.rows (IncrementWeight c.args.hash c.args.key c.args.delta c.args.max_weight)) c.self.view_is) refl refl refl)

pub returns-in_default : goal.returns-in_default
returns-in_default g c =
    let x = stops _ c.self.inside.unit c.increment_weight.new.self c.args.hash c.args.key c.args.delta c.args.max_weight (λ m h. search rules) c.in_default.field-0 c.in_default.ensures in
    inr (declined_unit _ _ _ _ c.self.view_is x.0 _ _ _ _ c.refuse.ensures.state c.refuse.ensures.effect refl x.1)
