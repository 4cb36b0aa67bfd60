use Rattle.std.proofs.Common.{List, sym, subst}
use Rattle.lru_list.specs.declared.linked_list.Node.{Node}
use Rattle.lru_list.specs.Linked.{IsNumbered}
use Rattle.lru_list.specs.Representation.Nodes.{linked_of}
use Rattle.lru_list.proofs.LinkedStates.{numbered}
use Rattle.lru_list.proofs.linked_list.LinkedList.reserve.Goals as goal

pub returns-clause-numbered : goal.returns-clause-numbered
returns-clause-numbered g c =
    subst (λ (ns : List (Node g.row.K.Denot)). IsNumbered (linked_of ns c.self.inside.last_freed c.self.inside.len)) (sym c.reserve.ensures.items)
    (numbered c.self.inside.nodes.items c.self.inside.last_freed c.self.inside.len c.self.invariant)
