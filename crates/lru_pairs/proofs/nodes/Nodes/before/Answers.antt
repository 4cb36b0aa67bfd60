use Rattle.std.proofs.Common.{arith}
use Rattle.lru_pairs.proofs.Inserted.{is_place, before_none, before_some, before_fits}
use Rattle.lru_pairs.proofs.nodes.Nodes.before.Goals as goal

pub prev_index-prev-requires : goal.prev_index-prev-requires
prev_index-prev-requires g c = is_place c.self.inside.weights.items c.self.inside.list c.self.invariant c.args.self.now c.self.view_is c.args.place c.requires

pub returns-then-prev-eq-BEFORE_ALL : goal.returns-then-prev-eq-BEFORE_ALL
returns-then-prev-eq-BEFORE_ALL g c = before_none c.self.inside.weights.items c.self.inside.list c.self.invariant c.args.self.now c.self.view_is c.args.place c.requires c.prev_index-prev.result c.prev_index-prev.ensures c.if-prev-eq-BEFORE_ALL.true

pub overflow_cast-result : goal.overflow_cast-result
overflow_cast-result g c = omega (arith, before_fits c.self.inside.weights.items c.self.inside.list c.self.invariant c.args.self.now c.self.view_is c.args.place c.requires c.prev_index-prev.result c.prev_index-prev.ensures c.if-prev-eq-BEFORE_ALL.false)

pub returns-else-prev-eq-BEFORE_ALL : goal.returns-else-prev-eq-BEFORE_ALL
returns-else-prev-eq-BEFORE_ALL g c = before_some c.self.inside.weights.items c.self.inside.list c.self.invariant c.args.self.now c.self.view_is c.args.place c.requires c.prev_index-prev.result c.prev_index-prev.ensures c.if-prev-eq-BEFORE_ALL.false
