use Rattle.std.proofs.Common.{◌≡◌, ◌++◌, ◌∷◌, [], length, sym, ap, ◌∙◌, subst}
use Rattle.lru_cores.specs.Eviction.{EvictionRun}
use Rattle.lru_cores.specs.Core.{Core}
use Rattle.lru_cores.proofs.Units.{is_core}
use Rattle.lru_cores.proofs.EvictionRuns.{run_push, run_long, longest_front}
use Rattle.lru_cores.proofs.lru_core.LruCore.evict_to_limit.Goals as goal

pub loop-self-preserved : goal.loop-self-preserved
loop-self-preserved g c =
    let i = c.self.inside in
    let long : length c.loop-self.self.lists ≡ g.row.N = ap (λ (s : Core g.row.T.Denot). length s.lists) (sym c.self.view_is) ∙ (is_core g.row.N i.units.items i.totals.weight i.totals.len c.self.invariant i.weight_limit i.watermark i.evicted_weight i.evicted_len).count in
    let pushed = run_push c.args.self.now (g.R.Rng.stream c.args.rng.now) c.loop-self.evicted.items c.loop-self.self (g.R.Rng.stream c.loop-self.rng) g.row.N c.drawn_shards-a.result (g.R.Rng.stream c.drawn_shards-a.new.rng) c.in-Some.pair c.evict_step.new.self
    (sym long) c.drawn_shards-a.ensures.drawn c.loop-self.invariant.run c.in-Some.ensures in
    record {
      run = subst (λ ps. EvictionRun c.args.self.now (g.R.Rng.stream c.args.rng.now) ps c.evict_step.new.self (g.R.Rng.stream c.drawn_shards-a.new.rng)) (ap (λ ps. ps ++ c.in-Some.pair ∷ []) (sym c.reserve.ensures.items) ∙ sym c.in-Ok.ensures.items) pushed;
      undrawn = λ one. c.drawn_shards-a.ensures.undrawn one ∙ c.loop-self.invariant.undrawn one;
    }

pub returns-clause-longest : goal.returns-clause-longest
returns-clause-longest g c one =
    let i = c.self.inside in
    let long : length c.loop-self.self.lists ≡ g.row.N = ap (λ (s : Core g.row.T.Denot). length s.lists) (sym c.self.view_is) ∙ (is_core g.row.N i.units.items i.totals.weight i.totals.len c.self.invariant i.weight_limit i.watermark i.evicted_weight i.evicted_len).count in
    longest_front c.args.self.now (g.R.Rng.stream c.args.rng.now) c.loop-self.evicted.items c.loop-self.self (g.R.Rng.stream c.loop-self.rng)
    (sym (run_long c.args.self.now (g.R.Rng.stream c.args.rng.now) c.loop-self.evicted.items c.loop-self.self (g.R.Rng.stream c.loop-self.rng) c.loop-self.invariant.run) ∙ long ∙ one) c.loop-self.invariant.run
