use Rattle.std.proofs.Common.{subst, sym}
use Rattle.lru_owned_cache.specs.Cache.{RetainsLast}
use Rattle.lru_owned_cache.specs.Representation.{cached_in}
use Rattle.lru_owned_cache.proofs.Retained.{retains_last, kept_retained_last}
use Rattle.lru_owned_cache.proofs.cache.Cache.retain_last.Goals as goal

pub invariant_of-self : goal.invariant_of-self
invariant_of-self g c = kept_retained_last (λ p k v w b q. goal.F-step g p k v w b q) c.args.keep (λ p x q. goal.G-step g p x tt q) c.args.visit c.args.most c.self.inside.rows.held c.retain_last-self-inside.new.rows.held c.retain_last-self-inside.ensures.retains c.self.inside.most_weight c.self.inside.most_entries c.self.inside.weight c.retain_last-self-inside.result c.self.invariant c.retain_last-self-inside.ensures.used

pub returns : goal.returns
returns g c =
    subst (λ h. RetainsLast (λ p k v w b q. goal.F-step g p k v w b q) c.args.keep (λ p x q. goal.G-step g p x tt q) c.args.visit c.args.most c.args.self.now (cached_in c.retain_last-self-inside.new.rows.held h c.self.inside.most_weight c.self.inside.most_entries)) (sym (c.retain_last-self-inside.ensures.hashes))
    (retains_last (λ p k v w b q. goal.F-step g p k v w b q) c.args.keep (λ p x q. goal.G-step g p x tt q) c.args.visit c.args.most c.self.inside.rows.held c.retain_last-self-inside.new.rows.held c.retain_last-self-inside.ensures.retains c.self.inside.rows.hashes c.self.inside.most_weight c.self.inside.most_entries c.args.self.now c.self.view_is)
