use Rattle.std.proofs.Common.{arith}
use Rattle.lru_pairs.proofs.Inserted.{is_place, after_none, after_some, after_fits}
use Rattle.lru_pairs.proofs.nodes.Nodes.after.Goals as goal

pub next_index-next-requires : goal.next_index-next-requires
next_index-next-requires g c = is_place c.self.inside.weights.items c.self.inside.list c.self.invariant c.args.self.now c.self.view_is c.args.place c.requires

pub returns-then-next-eq-BEHIND_ALL : goal.returns-then-next-eq-BEHIND_ALL
returns-then-next-eq-BEHIND_ALL g c = after_none c.self.inside.weights.items c.self.inside.list c.self.invariant c.args.self.now c.self.view_is c.args.place c.requires c.next_index-next.result c.next_index-next.ensures c.if-next-eq-BEHIND_ALL.true

pub overflow_cast-result : goal.overflow_cast-result
overflow_cast-result g c = omega (arith, after_fits c.self.inside.weights.items c.self.inside.list c.self.invariant c.args.self.now c.self.view_is c.args.place c.requires c.next_index-next.result c.next_index-next.ensures c.if-next-eq-BEHIND_ALL.false)

pub returns-else-next-eq-BEHIND_ALL : goal.returns-else-next-eq-BEHIND_ALL
returns-else-next-eq-BEHIND_ALL g c = after_some c.self.inside.weights.items c.self.inside.list c.self.invariant c.args.self.now c.self.view_is c.args.place c.requires c.next_index-next.result c.next_index-next.ensures c.if-next-eq-BEHIND_ALL.false
