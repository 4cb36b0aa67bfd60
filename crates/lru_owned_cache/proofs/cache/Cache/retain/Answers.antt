use Rattle.std.proofs.Common.{subst, sym}
use Rattle.lru_owned_cache.specs.Cache.{Retains}
use Rattle.lru_owned_cache.specs.Representation.{cached_in}
use Rattle.lru_owned_cache.proofs.Retained.{retains, kept_retained}
use Rattle.lru_owned_cache.proofs.cache.Cache.retain.Goals as goal

pub invariant_of-self : goal.invariant_of-self
invariant_of-self g c = kept_retained (λ p k v w b q. goal.F-step g p k v w b q) c.args.keep c.self.inside.rows.held c.retain-self-inside.new.rows.held c.retain-self-inside.ensures.retains c.self.inside.most_weight c.self.inside.most_entries c.self.inside.weight c.retain-self-inside.result c.self.invariant c.retain-self-inside.ensures.used

pub returns : goal.returns
returns g c =
    subst (λ h. Retains (λ p k v w b q. goal.F-step g p k v w b q) c.args.keep c.args.self.now (cached_in c.retain-self-inside.new.rows.held h c.self.inside.most_weight c.self.inside.most_entries)) (sym (c.retain-self-inside.ensures.hashes))
    (retains (λ p k v w b q. goal.F-step g p k v w b q) c.args.keep c.self.inside.rows.held c.retain-self-inside.new.rows.held c.retain-self-inside.ensures.retains c.self.inside.rows.hashes c.self.inside.most_weight c.self.inside.most_entries c.args.self.now c.self.view_is)
