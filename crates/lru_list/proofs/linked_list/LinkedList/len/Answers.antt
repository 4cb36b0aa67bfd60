use Rattle.std.proofs.Common.{arith, sym}
use Rattle.lru_list.proofs.LinkedStates.{numbered, length-live, few}
use Rattle.lru_list.proofs.linked_list.LinkedList.len.Goals as goal

pub returns : goal.returns
returns g c =
    let room = few c.self.inside.nodes.items c.self.inside.last_freed c.self.inside.len c.self.invariant in
    rw (← c.self.view_is) (record {
      len = sym (length-live c.self.inside.nodes.items c.self.inside.last_freed c.self.inside.len c.self.invariant);
      few = omega (arith, room, c.self.invariant.room);
      numbered = numbered c.self.inside.nodes.items c.self.inside.last_freed c.self.inside.len c.self.invariant;
    })
