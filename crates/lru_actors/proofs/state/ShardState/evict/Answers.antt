use Rattle.std.proofs.Common.{refl, sym, ap, ◌∙◌, inl, List}
use Rattle.std.specs.Prelude.{option_map}
use Rattle.lru_shard.specs.Row.{Row, pair_of}
use Rattle.lru_shard.specs.Shard.{Shard, shard}
use Rattle.lru_actors.specs.declared.message.LruMsg.TheVariants.{Evict}
use Rattle.lru_actors.specs.Messages.{State, state_of, consumed, cleared_of, evicted_of}
use Rattle.lru_actors.proofs.Done.{done_quiet, done_evicted, told}
use Rattle.lru_actors.proofs.Rows.{no_last}
use Rattle.lru_actors.proofs.state.ShardState.evict.Goals as goal

pub returns : goal.returns
returns g c =
    inl (done_evicted _ _ _ _ _ _ _ (record {
      allowed = refl;
      left = ap (λ (u : Shard g.row.K.Denot). state_of u c.self.inside.refused) (c.evict-evicted.ensures.rows)
          ∙ ap (λ (s : State g.row.K.Denot). state_of (shard (consumed s.shard.rows (Evict)) s.shard.cap) s.refused) c.self.view_is;
      base_is = told _ _ _ _ _ c.effect-effect.ensures c.measure-before.ensures.value;
    }) refl
    (c.in-Some.ensures ∙ ap (λ (s : State g.row.K.Denot). cleared_of s.shard.rows Evict) c.self.view_is)
    (c.evict-evicted.ensures.answer ∙ ap (λ (s : State g.row.K.Denot). evicted_of s.shard.rows Evict) c.self.view_is) refl)

pub returns-in_default : goal.returns-in_default
returns-in_default g c =
    let s = c.args.self.now in
    let none = c.in_default.ensures ∙ ap (λ (z : State g.row.K.Denot). cleared_of z.shard.rows Evict) c.self.view_is in
    let same = no_last s.shard.rows none in
    inl (done_quiet _ _ _ _ _ (record {
      allowed = refl;
      left = sym (ap (λ (rows : List (Row g.row.K.Denot)). state_of (shard rows s.shard.cap) s.refused) same.0);
      base_is = told _ _ _ _ _ c.effect.ensures c.measure-before.ensures.value;
    }) refl none (sym (ap (option_map pair_of) same.1)) refl)
