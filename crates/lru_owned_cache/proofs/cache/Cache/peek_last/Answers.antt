use Rattle.lru_owned_cache.proofs.Views.{last_stands, last_shown, last_missing}
use Rattle.lru_owned_cache.proofs.cache.Cache.peek_last.Goals as goal

pub returns-in_err-place : goal.returns-in_err-place
returns-in_err-place g c = rw c.from_residual.ensures (last_missing g.K.PartialEq.eq c.self.inside.rows.held c.self.inside.rows.hashes c.self.inside.weight c.self.inside.most_weight c.self.inside.most_entries c.self.invariant c.args.self.now c.self.view_is c.in_err-place.ensures.place)

pub key_at-key-requires : goal.key_at-key-requires
key_at-key-requires g c = last_stands g.K.PartialEq.eq c.self.inside.rows.held c.self.inside.rows.hashes c.self.inside.weight c.self.inside.most_weight c.self.inside.most_entries c.self.invariant c.args.self.now c.self.view_is c.in_ok-place.ensures.valid c.in_ok-place.place c.in_ok-place.ensures.place

pub returns : goal.returns
returns g c = last_shown g.K.PartialEq.eq c.self.inside.rows.held c.self.inside.rows.hashes c.self.inside.weight c.self.inside.most_weight c.self.inside.most_entries c.self.invariant c.args.self.now c.self.view_is c.in_ok-place.ensures.valid c.in_ok-place.place c.in_ok-place.ensures.place c.key_at-key.result.now c.value_at-value.result.now c.weight_at.result c.key_at-key.ensures c.value_at-value.ensures c.weight_at.ensures
