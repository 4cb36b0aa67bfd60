use Rattle.std.proofs.Common.{◌∙◌}
use Rattle.lru_owned_cache.proofs.Views.{nothing_found, is_at, weight_found}
use Rattle.lru_owned_cache.proofs.cache.Cache.weight_of.Goals as goal

pub returns-in_err-place : goal.returns-in_err-place
returns-in_err-place g c = c.from_residual.ensures ∙ nothing_found g.K.PartialEq.eq c.self.inside.rows.held c.self.inside.rows.hashes c.self.inside.weight c.self.inside.most_weight c.self.inside.most_entries c.self.invariant c.args.self.now c.self.view_is c.args.key.now (λ e. e.weight) c.in_err-place.ensures.finds

pub weight_at-requires : goal.weight_at-requires
weight_at-requires g c = is_at g.K.PartialEq.eq c.self.inside.rows.held c.self.inside.rows.hashes c.self.inside.weight c.self.inside.most_weight c.self.inside.most_entries c.self.invariant c.args.self.now c.self.view_is c.args.key.now c.in_ok-place.place c.in_ok-place.ensures.finds

pub returns : goal.returns
returns g c = weight_found g.K.PartialEq.eq c.self.inside.rows.held c.self.inside.rows.hashes c.self.inside.weight c.self.inside.most_weight c.self.inside.most_entries c.self.invariant c.args.self.now c.self.view_is c.args.key.now c.in_ok-place.place c.weight_at.result c.in_ok-place.ensures.finds c.weight_at.ensures
