use Rattle.std.proofs.Common.{ap, ◌∙◌}
use Rattle.std.specs.Option.{option_map}
use Rattle.lru_shard.specs.Row.{pair_of}
use Rattle.lru_shard.specs.Unit.{shown}
use Rattle.lru_shard.proofs.Views.{no_last, is_last, last_pair}
use Rattle.lru_shard.proofs.unit.LruUnit.peek_lru.Goals as goal

pub returns-in_err-place : goal.returns-in_err-place
returns-in_err-place g c = ap (option_map shown) c.from_residual.ensures ∙ no_last c.self.inside.rows c.self.inside.used_weight c.self.inside.cap c.self.invariant c.args.self.now c.self.view_is pair_of c.in_err-place.ensures.place

pub value_at-requires : goal.value_at-requires
value_at-requires g c = is_last c.self.inside.rows c.self.inside.used_weight c.self.inside.cap c.self.invariant c.args.self.now c.self.view_is c.in_ok-place.ensures.valid c.in_ok-place.place c.in_ok-place.ensures.place

pub weight_at-requires : goal.weight_at-requires
weight_at-requires g c = is_last c.self.inside.rows c.self.inside.used_weight c.self.inside.cap c.self.invariant c.args.self.now c.self.view_is c.in_ok-place.ensures.valid c.in_ok-place.place c.in_ok-place.ensures.place

pub returns : goal.returns
returns g c = last_pair c.self.inside.rows c.self.inside.used_weight c.self.inside.cap c.self.invariant c.args.self.now c.self.view_is c.in_ok-place.ensures.valid c.in_ok-place.place c.in_ok-place.ensures.place c.value_at.result.now c.weight_at.result c.value_at.ensures c.weight_at.ensures
