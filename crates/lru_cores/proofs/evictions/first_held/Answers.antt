use Rattle.std.proofs.Common.{◌≡◌, ◌+◌, ◌%◌, [], length, get_or, sym, ap, ◌∙◌, arith, below_more}
use Rattle.std.proofs.lemmas.List.{get_or-map, nil_from_length, length-map}
use Rattle.lru_shard.specs.Shard.{Shard}
use Rattle.lru_cores.specs.Representation.Units.{lists_of}
use Rattle.lru_cores.proofs.evictions.first_held.Goals as goal

pub loop-steps-preserved : goal.loop-steps-preserved
loop-steps-preserved g c =
    let units = c.args.units.now.items in
    let long = length-map units (λ (u : Shard g.row.T.Denot). u.rows) in
    let at = c.shard_after-at.result in
    let place : (c.args.from + c.loop-steps.steps) % length (lists_of units) ≡ at = ap (λ n. (c.args.from + c.loop-steps.steps) % n) (omega (arith, long)) ∙ sym c.shard_after-at.ensures.place in
    let rows = get_or-map (λ (u : Shard g.row.T.Denot). u.rows) units at c.index.result.now [] (omega (arith, c.shard_after-at.ensures.below)) ∙ ap (λ (u : Shard g.row.T.Denot). u.rows) (sym c.index.ensures) in
    below_more _ _ c.loop-steps.invariant
    (ap (λ i. get_or (lists_of units) i []) place ∙ rows ∙ nil_from_length c.index.result.now.rows (omega arith))

pub returns-then-len-gt0-clause-held : goal.returns-then-len-gt0-clause-held
returns-then-len-gt0-clause-held g c =
    let units = c.args.units.now.items in
    let long = length-map units (λ (u : Shard g.row.T.Denot). u.rows) in
    let at = c.shard_after-at.result in
    let place : (c.args.from + c.loop-steps.steps) % length (lists_of units) ≡ at = ap (λ n. (c.args.from + c.loop-steps.steps) % n) (omega (arith, long)) ∙ sym c.shard_after-at.ensures.place in
    let rows = get_or-map (λ (u : Shard g.row.T.Denot). u.rows) units at c.index.result.now [] (omega (arith, c.shard_after-at.ensures.below)) ∙ ap (λ (u : Shard g.row.T.Denot). u.rows) (sym c.index.ensures) in
    record {
      steps = c.loop-steps.steps;
      near = omega (arith, long);
      place = sym place;
      held = omega (arith, ap length rows);
      empty_before = c.loop-steps.invariant;
    }
