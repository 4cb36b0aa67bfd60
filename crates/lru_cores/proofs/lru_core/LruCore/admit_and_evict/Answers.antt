use Rattle.std.proofs.Common.{◌<◌, length, lit<, refl, ap, arith}
use Rattle.std.specs.Prelude.{max}
use Rattle.lru_shard.specs.Row.{row}
use Rattle.lru_cores.specs.Core.{Core}
use Rattle.lru_cores.proofs.Units.{is_core}
use Rattle.lru_cores.proofs.Sparing.{admitted_first}
use Rattle.lru_cores.proofs.lru_core.LruCore.admit_and_evict.Goals as goal

pub evict_sparing-requires : goal.evict_sparing-requires
evict_sparing-requires g c =
    let i = c.self.inside in
    let valid = is_core g.row.N i.units.items i.totals.weight i.totals.len c.self.invariant i.weight_limit i.watermark i.evicted_weight i.evicted_len in
    let some : 0 < length c.args.self.now.lists = omega (arith, valid.some, valid.count, ap (λ (s : Core g.row.T.Denot). length s.lists) c.self.view_is) in
    let stands = admitted_first c.args.self.now c.args.key c.args.«data» c.args.weight c.in_ok-shard.shard c.admit.new.self some c.in_ok-shard.ensures in
    (lit< tt, (record { row = row c.args.key c.args.«data» (max c.args.weight 1); own = refl; first = stands }, c.requires))

pub returns-clause-first : goal.returns-clause-first
returns-clause-first g c =
    let i = c.self.inside in
    let valid = is_core g.row.N i.units.items i.totals.weight i.totals.len c.self.invariant i.weight_limit i.watermark i.evicted_weight i.evicted_len in
    let some : 0 < length c.args.self.now.lists = omega (arith, valid.some, valid.count, ap (λ (s : Core g.row.T.Denot). length s.lists) c.self.view_is) in
    let stands = admitted_first c.args.self.now c.args.key c.args.«data» c.args.weight c.in_ok-shard.shard c.admit.new.self some c.in_ok-shard.ensures in
    c.evict_sparing.ensures.first (row c.args.key c.args.«data» (max c.args.weight 1)) refl stands
