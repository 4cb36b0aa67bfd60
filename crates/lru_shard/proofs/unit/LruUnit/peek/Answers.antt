use Rattle.std.proofs.Common.{ap, ◌∙◌}
use Rattle.std.specs.Option.{option_copied}
use Rattle.lru_shard.proofs.PresentRows.{at_place, value_found}
use Rattle.lru_shard.proofs.Views.{nothing_found}
use Rattle.lru_shard.proofs.unit.LruUnit.peek.Goals as goal

pub returns-in_err-place : goal.returns-in_err-place
returns-in_err-place g c = ap option_copied c.from_residual.ensures ∙ nothing_found c.self.inside.rows c.self.inside.used_weight c.self.inside.cap c.self.invariant c.args.self.now c.self.view_is (λ x. x.value) c.args.key c.in_err-place.ensures.finds

pub value_at-requires : goal.value_at-requires
value_at-requires g c = at_place c.self.inside.rows c.self.inside.used_weight c.self.inside.cap c.self.invariant c.args.self.now c.self.view_is c.in_ok-place.ensures.valid c.args.key c.in_ok-place.place c.in_ok-place.ensures.finds

pub returns : goal.returns
returns g c = value_found c.self.inside.rows c.self.inside.used_weight c.self.inside.cap c.self.invariant c.args.self.now c.self.view_is c.in_ok-place.ensures.valid c.args.key c.in_ok-place.place c.in_ok-place.ensures.finds c.value_at.result.now c.value_at.ensures
