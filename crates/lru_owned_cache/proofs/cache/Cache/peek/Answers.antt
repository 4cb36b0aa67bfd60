use Rattle.std.proofs.Common.{ap, ◌∙◌}
use Rattle.std.specs.Option.{option_copied}
use Rattle.lru_owned_cache.proofs.Views.{nothing_found, is_at, value_found}
use Rattle.lru_owned_cache.proofs.cache.Cache.peek.Goals as goal

pub returns-in_err-place : goal.returns-in_err-place
returns-in_err-place g c = ap option_copied c.from_residual.ensures ∙ nothing_found g.K.PartialEq.eq c.self.inside.rows.held c.self.inside.rows.hashes c.self.inside.weight c.self.inside.most_weight c.self.inside.most_entries c.self.invariant c.args.self.now c.self.view_is c.args.key.now (λ e. e.value) c.in_err-place.ensures.finds

pub value_at-requires : goal.value_at-requires
value_at-requires g c = is_at g.K.PartialEq.eq c.self.inside.rows.held c.self.inside.rows.hashes c.self.inside.weight c.self.inside.most_weight c.self.inside.most_entries c.self.invariant c.args.self.now c.self.view_is c.args.key.now c.in_ok-place.place c.in_ok-place.ensures.finds

pub returns : goal.returns
returns g c = value_found g.K.PartialEq.eq c.self.inside.rows.held c.self.inside.rows.hashes c.self.inside.weight c.self.inside.most_weight c.self.inside.most_entries c.self.invariant c.args.self.now c.self.view_is c.args.key.now c.in_ok-place.place c.value_at.result.now c.in_ok-place.ensures.finds c.value_at.ensures
