use Rattle.std.proofs.Common.{◌∙◌}
use Rattle.lru_shard.proofs.PresentRows.{at_place, weight_found}
use Rattle.lru_shard.proofs.Views.{nothing_found}
use Rattle.lru_shard.proofs.unit.LruUnit.peek_weight.Goals as goal

pub returns-in_err-place : goal.returns-in_err-place
returns-in_err-place g c = c.from_residual.ensures ∙ nothing_found c.self.inside.rows c.self.inside.used_weight c.self.inside.cap c.self.invariant c.args.self.now c.self.view_is (λ x. x.weight) c.args.key c.in_err-place.ensures.finds

pub weight_at-requires : goal.weight_at-requires
weight_at-requires g c = at_place c.self.inside.rows c.self.inside.used_weight c.self.inside.cap c.self.invariant c.args.self.now c.self.view_is c.in_ok-place.ensures.valid c.args.key c.in_ok-place.place c.in_ok-place.ensures.finds

pub returns : goal.returns
returns g c = weight_found c.self.inside.rows c.self.inside.used_weight c.self.inside.cap c.self.invariant c.args.self.now c.self.view_is c.in_ok-place.ensures.valid c.args.key c.in_ok-place.place c.in_ok-place.ensures.finds c.weight_at.result c.weight_at.ensures
