use Rattle.std.proofs.Common.{◌∙◌}
use Rattle.lru_shard.proofs.Views.{no_last, is_last, last_key}
use Rattle.lru_shard.proofs.unit.LruUnit.lru_key.Goals as goal

pub returns-in_err-place : goal.returns-in_err-place
returns-in_err-place g c = c.from_residual.ensures ∙ no_last c.self.inside.rows c.self.inside.used_weight c.self.inside.cap c.self.invariant c.args.self.now c.self.view_is (λ x. x.key) c.in_err-place.ensures.place

pub key_at-requires : goal.key_at-requires
key_at-requires g c = is_last c.self.inside.rows c.self.inside.used_weight c.self.inside.cap c.self.invariant c.args.self.now c.self.view_is c.in_ok-place.ensures.valid c.in_ok-place.place c.in_ok-place.ensures.place

pub returns : goal.returns
returns g c = last_key c.self.inside.rows c.self.inside.used_weight c.self.inside.cap c.self.invariant c.args.self.now c.self.view_is c.in_ok-place.ensures.valid c.in_ok-place.place c.in_ok-place.ensures.place c.key_at.result.now c.key_at.ensures
