use Rattle.lru_list.proofs.LinkedLives.{has_freed}
use Rattle.lru_list.proofs.linked_list.LinkedList.has_freed.Goals as goal

pub returns : goal.returns
returns g c = rw (← c.self.view_is) (has_freed c.self.inside.nodes.items c.self.inside.last_freed c.self.inside.len c.self.invariant)
