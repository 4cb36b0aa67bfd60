use Rattle.std.proofs.Common.{◌≡◌, ◌%◌, length, sym, ap, ◌∙◌, subst}
use Rattle.lru_cores.specs.Core.{Core}
use Rattle.lru_cores.specs.Eviction.{EvictsFrom}
use Rattle.lru_cores.proofs.Units.{is_core}
use Rattle.lru_cores.proofs.lru_core.LruCore.evict_shard.Goals as goal

pub returns : goal.returns
returns g c =
    let i = c.self.inside in
    let long : length c.args.self.now.lists ≡ g.row.N = ap (λ (s : Core g.row.T.Denot). length s.lists) (sym c.self.view_is) ∙ (is_core g.row.N i.units.items i.totals.weight i.totals.len c.self.invariant i.weight_limit i.watermark i.evicted_weight i.evicted_len).count in
    subst (λ s. EvictsFrom c.args.self.now s c.evict_from.result c.evict_from.new.self) (sym (ap (λ n. c.args.shard % n) long)) c.evict_from.ensures
