use Rattle.std.proofs.Common.{◌∙◌, sym, ap, arith}
use Rattle.lru_shard.specs.Shard.{shard}
use Rattle.trace_player_inside.specs.Traces.{front}
use Rattle.trace_player_inside.proofs.Fronts.{front_all, front_last}
use Rattle.trace_player_inside.proofs.player.shrink.Goals as goal

pub loop-unit-preserved : goal.loop-unit-preserved
loop-unit-preserved c =
    let limit = c.args.limit in (
      ap (λ s. front limit s.rows) c.evict.ensures.rows
          ∙ front_last limit c.loop-unit.unit.rows (omega (arith, c.loop-unit-test.true, c.used_weight.ensures.value))
          ∙ c.loop-unit.invariant.0,
      ap (λ s. s.cap) c.evict.ensures.rows ∙ c.loop-unit.invariant.1,
    )

pub returns : goal.returns
returns c =
    let limit = c.args.limit in
    let left = c.loop-unit.unit in
    ap (λ rows. shard rows left.cap) (sym (front_all limit left.rows (omega (arith, c.loop-unit-test.false, c.used_weight.ensures.value))) ∙ c.loop-unit.invariant.0)
    ∙ ap (λ cap. shard (front limit c.args.unit.now.rows) cap) c.loop-unit.invariant.1
