use Rattle.std.proofs.Common.{subst, sym}
use Rattle.lru_owned_cache.specs.Cache.{Clears}
use Rattle.lru_owned_cache.specs.Representation.{cached_in}
use Rattle.lru_owned_cache.proofs.Placing.{clears}
use Rattle.lru_owned_cache.proofs.cache.Cache.clear.Goals as goal

pub returns : goal.returns
returns g c =
    subst (λ h. Clears (λ p x q. goal.F-step g p x tt q) c.args.visit c.args.self.now (cached_in c.shrink-self-inside.new.rows.held h c.self.inside.most_weight c.self.inside.most_entries)) (sym (c.shrink-self-inside.ensures.hashes))
    (clears (λ p x q. goal.F-step g p x tt q) c.args.visit c.self.inside.rows.held c.shrink-self-inside.new.rows.held c.shrink-self-inside.ensures.shrinks c.self.inside.rows.hashes c.self.inside.most_weight c.self.inside.most_entries c.args.self.now c.self.view_is)
