use Rattle.std.proofs.Common.{subst, sym}
use Rattle.lru_owned_cache.specs.Cache.{Limits}
use Rattle.lru_owned_cache.specs.Representation.{cached_in}
use Rattle.lru_owned_cache.proofs.Placing.{limits_set}
use Rattle.lru_owned_cache.proofs.cache.Cache.set_limits.Goals as goal

pub returns : goal.returns
returns g c =
    subst (λ h. Limits (λ p x q. goal.F-step g p x tt q) c.args.visit c.args.self.now c.args.most_weight c.args.most_entries (cached_in c.shrink-self-inside.new.rows.held h c.args.most_weight c.args.most_entries)) (sym (c.shrink-self-inside.ensures.hashes))
    (limits_set (λ p x q. goal.F-step g p x tt q) c.args.visit c.args.most_weight c.args.most_entries c.self.inside.rows.held c.shrink-self-inside.new.rows.held c.shrink-self-inside.ensures.shrinks
    c.self.inside.rows.hashes c.self.inside.weight c.self.inside.most_weight c.self.inside.most_entries c.args.self.now c.self.view_is)
