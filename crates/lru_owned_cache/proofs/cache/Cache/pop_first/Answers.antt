use Rattle.std.proofs.Common.{subst, sym, Some}
use Rattle.lru_owned_cache.specs.Entries.{entry}
use Rattle.lru_owned_cache.specs.Cache.{PopsFirst}
use Rattle.lru_owned_cache.specs.Representation.{cached_in}
use Rattle.lru_owned_cache.proofs.Views.{view_popped_first}
use Rattle.lru_owned_cache.proofs.cache.Cache.pop_first.Goals as goal

pub returns : goal.returns
returns g c =
    subst (λ h. PopsFirst c.args.self.now (Some (entry c.in_ok-row.row.key c.in_ok-row.row.value c.in_ok-row.row.weight)) (cached_in c.pop_first.new.self.held h c.self.inside.most_weight c.self.inside.most_entries)) (sym (c.in_ok-row.ensures.hashes))
    (view_popped_first g.K.PartialEq.eq c.self.inside.rows.held c.self.inside.rows.hashes c.self.inside.weight c.self.inside.most_weight c.self.inside.most_entries c.self.invariant c.args.self.now c.self.view_is c.in_ok-row.row c.pop_first.new.self.held c.in_ok-row.ensures.pops)
