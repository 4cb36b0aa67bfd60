use Rattle.std.proofs.Common.{subst, sym}
use Rattle.lru_owned_cache.specs.Cache.{Drains}
use Rattle.lru_owned_cache.specs.Representation.{cached_in}
use Rattle.lru_owned_cache.proofs.Drained.{drains}
use Rattle.lru_owned_cache.proofs.cache.Cache.drain.Goals as goal

pub returns : goal.returns
returns g c =
    subst (λ h. Drains (λ p x q. goal.F-step g p x tt q) c.args.visit c.args.self.now (cached_in c.drain.new.rows.held h c.self.inside.most_weight c.self.inside.most_entries)) (sym (c.drain.ensures.hashes))
    (drains (λ p x q. goal.F-step g p x tt q) c.args.visit c.self.inside.rows.held c.drain.new.rows.held c.drain.ensures.drains c.self.inside.rows.hashes c.self.inside.most_weight c.self.inside.most_entries c.args.self.now c.self.view_is)
