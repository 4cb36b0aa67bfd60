use Rattle.std.proofs.Common.{refl, sym, ap, ◌∙◌, inl, inr}
use Rattle.lru_shard.specs.Shard.{Shard, shard}
use Rattle.lru_actors.specs.declared.message.LruMsg.TheVariants.{InsertTail}
use Rattle.lru_actors.specs.Messages.{State, state_of, consumed, refusal_of, put_of}
use Rattle.lru_actors.proofs.Done.{done_quiet, done_put, declined_unit, told}
use Rattle.lru_actors.proofs.Rows.{tail_put, tail_none}
use Rattle.lru_actors.proofs.state.ShardState.insert_tail.Goals as goal

pub returns : goal.returns
returns g c =
    let x = c.in-Ok.ensures in
    inl (done_put _ _ _ _ _ _ (record {
      allowed = ap (λ (s : State g.row.K.Denot). refusal_of s.shard (InsertTail c.args.hash c.args.key c.args.weight)) (sym c.self.view_is) ∙ x.1.allowed;
      left = ap (λ (u : Shard g.row.K.Denot). state_of u c.self.inside.refused) (x.1.left)
          ∙ ap (λ (s : State g.row.K.Denot). state_of (shard (consumed s.shard.rows (InsertTail c.args.hash c.args.key c.args.weight)) s.shard.cap) s.refused) c.self.view_is;
      base_is = told _ _ _ _ _ c.effect-effect.ensures c.measure-before.ensures.value;
    }) (tail_put _ _ _ _ x.0 c.if-not-added.false ∙ ap (λ (s : State g.row.K.Denot). put_of s.shard.rows (InsertTail c.args.hash c.args.key c.args.weight)) c.self.view_is) refl refl refl)

pub returns-in_default : goal.returns-in_default
returns-in_default g c =
    let x = c.in_default.ensures in
    inr (declined_unit _ _ _ _ c.self.view_is x.declines.left _ _ _ _ c.refuse.ensures.state c.refuse.ensures.effect refl (c.in_default.field-0.cause, x.declines.may))

pub returns-then-not-added : goal.returns-then-not-added
returns-then-not-added g c =
    let x = c.in-Ok.ensures in
    inl (done_quiet _ _ _ _ _ (record {
      allowed = ap (λ (s : State g.row.K.Denot). refusal_of s.shard (InsertTail c.args.hash c.args.key c.args.weight)) (sym c.self.view_is) ∙ x.1.allowed;
      left = ap (λ (u : Shard g.row.K.Denot). state_of u c.self.inside.refused) (x.1.left)
          ∙ ap (λ (s : State g.row.K.Denot). state_of (shard (consumed s.shard.rows (InsertTail c.args.hash c.args.key c.args.weight)) s.shard.cap) s.refused) c.self.view_is;
      base_is = told _ _ _ _ _ c.effect.ensures c.measure-before.ensures.value;
    }) (tail_none _ _ _ _ x.0 c.if-not-added.true ∙ ap (λ (s : State g.row.K.Denot). put_of s.shard.rows (InsertTail c.args.hash c.args.key c.args.weight)) c.self.view_is) refl refl refl)
