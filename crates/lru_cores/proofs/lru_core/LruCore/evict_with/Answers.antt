use Rattle.std.proofs.Common.{of_calls, ◌≡◌, ◌++◌, ◌∷◌, [], length, sym, ap, ◌∙◌}
use Rattle.std.proofs.lemmas.Fn.{FoldsTo-push}
use Rattle.lru_cores.specs.Core.{Core}
use Rattle.lru_cores.proofs.Units.{is_core}
use Rattle.lru_cores.proofs.EvictionRuns.{run_push, run_long, longest_front}
use Rattle.lru_cores.proofs.lru_core.LruCore.evict_with.Goals as goal

pub loop-self-preserved : goal.loop-self-preserved
loop-self-preserved g c =
    let inv = c.loop-self.invariant in
    let i = c.self.inside in
    let long : length c.loop-self.self.lists ≡ g.row.N = ap (λ (s : Core g.row.T.Denot). length s.lists) (sym c.self.view_is) ∙ (is_core g.row.N i.units.items i.totals.weight i.totals.len c.self.invariant i.weight_limit i.watermark i.evicted_weight i.evicted_len).count in (
      search of_calls parts 8,
      (
        inv.1.0 ++ c.in-Some.pair ∷ [],
        (
          run_push c.args.self.now (g.R.Rng.stream c.args.rng.now) inv.1.0 c.loop-self.self (g.R.Rng.stream c.loop-self.rng) g.row.N c.drawn_shards-a.result (g.R.Rng.stream c.drawn_shards-a.new.rng) c.in-Some.pair c.evict_step.new.self
              (sym long) c.drawn_shards-a.ensures.drawn inv.1.1.0 c.in-Some.ensures,
          (
            FoldsTo-push (λ p x q. goal.F-step g p x tt q) c.args.hand_over inv.1.0 c.loop-self.hand_over c.in-Some.pair c.hand_over.new.self inv.1.1.1.0 c.hand_over.ensures,
            λ one. c.drawn_shards-a.ensures.undrawn one ∙ inv.1.1.1.1 one,
          ),
        ),
      ),
    )

pub returns-clause-longest : goal.returns-clause-longest
returns-clause-longest g c one =
    let inv = c.loop-self.invariant in
    let i = c.self.inside in
    let long : length c.loop-self.self.lists ≡ g.row.N = ap (λ (s : Core g.row.T.Denot). length s.lists) (sym c.self.view_is) ∙ (is_core g.row.N i.units.items i.totals.weight i.totals.len c.self.invariant i.weight_limit i.watermark i.evicted_weight i.evicted_len).count in
    longest_front c.args.self.now (g.R.Rng.stream c.args.rng.now) inv.1.0 c.loop-self.self (g.R.Rng.stream c.loop-self.rng)
    (sym (run_long c.args.self.now (g.R.Rng.stream c.args.rng.now) inv.1.0 c.loop-self.self (g.R.Rng.stream c.loop-self.rng) inv.1.1.0) ∙ long ∙ one) inv.1.1.0
