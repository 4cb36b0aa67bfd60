use Rattle.std.proofs.Common.{Some, None, arith, ◌∙◌}
use Rattle.lru_pairs.proofs.Seen.{first_is, first_fits}
use Rattle.lru_pairs.proofs.nodes.Nodes.first.Goals as goal

pub returns-in_err-place : goal.returns-in_err-place
returns-in_err-place g c = c.from_residual.ensures ∙ first_is c.self.inside.weights.items c.self.inside.list c.self.invariant c.args.self.now c.self.view_is None c.in_err-place.ensures.index

pub overflow_cast-result : goal.overflow_cast-result
overflow_cast-result g c = omega (arith, first_fits c.self.inside.weights.items c.self.inside.list c.self.invariant c.args.self.now c.self.view_is c.in_ok-place.place c.in_ok-place.ensures.index)

pub returns : goal.returns
returns g c = first_is c.self.inside.weights.items c.self.inside.list c.self.invariant c.args.self.now c.self.view_is (Some c.in_ok-place.place) c.in_ok-place.ensures.index
