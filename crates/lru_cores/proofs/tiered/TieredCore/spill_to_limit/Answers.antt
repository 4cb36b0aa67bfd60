use Rattle.std.proofs.Common.{◌++◌, ◌∷◌, [], sym, ◌∙◌, arith, subst}
use Rattle.lru_cores.specs.Tiers.{AreTiers}
use Rattle.lru_cores.proofs.Spilling.{stops, spills_one, shorter, run_push}
use Rattle.lru_cores.proofs.tiered.TieredCore.spill_to_limit.Goals as goal

pub returns-in-Err-clause-err : goal.returns-in-Err-clause-err
returns-in-Err-clause-err g c =
    let is : AreTiers g.row.N c.loop-self.self = subst (AreTiers g.row.N) c.self.view_is c.self.invariant in
    stops g.row.N c.args.self.now (g.R.Rng.stream c.args.rng.now) c.loop-self.self (g.R.Rng.stream c.loop-self.rng) c.drawn_shards-a.result (g.R.Rng.stream c.drawn_shards-a.new.rng) c.in-Err.cause c.spill_step.new.self
    (sym is.hot.count) c.drawn_shards-a.ensures.drawn c.loop-self.invariant c.in-Err.ensures

pub loop-self-smaller : goal.loop-self-smaller
loop-self-smaller g c =
    let is : AreTiers g.row.N c.loop-self.self = subst (AreTiers g.row.N) c.self.view_is c.self.invariant in
    let one = spills_one c.loop-self.self c.drawn_shards-a.result.0 c.drawn_shards-a.result.1 c.spill_step.result c.spill_step.new.self (sym c.is_hot_over.ensures ∙ c.loop-self-test.true) c.in_default.not-Err c.spill_step.ensures in
    omega (arith, shorter g.row.N c.loop-self.self is c.drawn_shards-a.result.0 c.drawn_shards-a.result.1 one.0 c.spill_step.new.self one.1)

pub loop-self-preserved : goal.loop-self-preserved
loop-self-preserved g c =
    let is : AreTiers g.row.N c.loop-self.self = subst (AreTiers g.row.N) c.self.view_is c.self.invariant in
    let one = spills_one c.loop-self.self c.drawn_shards-a.result.0 c.drawn_shards-a.result.1 c.spill_step.result c.spill_step.new.self (sym c.is_hot_over.ensures ∙ c.loop-self-test.true) c.in_default.not-Err c.spill_step.ensures in (
      c.loop-self.invariant.0 ++ one.0 ∷ [],
      run_push g.row.N c.args.self.now (g.R.Rng.stream c.args.rng.now) c.loop-self.invariant.0 c.loop-self.self (g.R.Rng.stream c.loop-self.rng) c.drawn_shards-a.result (g.R.Rng.stream c.drawn_shards-a.new.rng) one.0 c.spill_step.new.self
          (sym is.hot.count) c.drawn_shards-a.ensures.drawn c.loop-self.invariant.1 one.1,
    )
