use Rattle.std.proofs.Common.{◌+◌, Err, arith, sym, subst, ap, ◌∙◌}
use Rattle.std.proofs.lemmas.List.{get_or-map}
use Rattle.lru_list.specs.declared.linked_list.Node.{Node}
use Rattle.lru_list.specs.Linked.{Linked, Pushes, pushed_head}
use Rattle.lru_list.specs.Representation.Nodes.{linked_of}
use Rattle.lru_list.proofs.LinkedStates.{taken, top_range, place_range, head_range, pushed_head_shown, refused, refused_numbered, numbered, length-live}
use Rattle.lru_list.proofs.linked_list.LinkedList.push_head.Goals as goal

pub take_slot-requires : goal.take_slot-requires
take_slot-requires g c = λ ne. omega (arith, top_range c.self.inside.nodes.items c.self.inside.last_freed c.self.inside.len c.self.invariant ne)

pub returns-in-Err-clause-pushes : goal.returns-in-Err-clause-pushes
returns-in-Err-clause-pushes g c =
    let left = linked_of c.take_slot.new.nodes.items c.take_slot.new.last_freed c.self.inside.len in
    subst (λ (l : Linked g.row.K.Denot). Pushes l (pushed_head l c.args.item) c.args.item (Err c.in-Err.refused) left) c.self.view_is
    (refused c.self.inside.nodes.items c.self.inside.last_freed c.self.inside.len c.self.invariant (pushed_head (linked_of c.self.inside.nodes.items c.self.inside.last_freed c.self.inside.len) c.args.item) c.args.item c.in-Err.refused c.take_slot.new.nodes.items c.take_slot.new.last_freed c.in-Err.ensures)

pub returns-in-Err-clause-numbered : goal.returns-in-Err-clause-numbered
returns-in-Err-clause-numbered g c =
    refused_numbered c.self.inside.nodes.items c.self.inside.last_freed c.self.inside.len c.self.invariant c.args.item c.in-Err.refused c.take_slot.new.nodes.items c.take_slot.new.last_freed c.in-Err.ensures

pub link_between-requires-clause-place : goal.link_between-requires-clause-place
link_between-requires-clause-place g c =
    let t = taken c.self.inside.nodes.items c.self.inside.last_freed c.self.inside.len c.self.invariant c.args.item c.in-Ok.place c.take_slot.new.nodes.items c.take_slot.new.last_freed c.in-Ok.ensures in
    omega (arith, (place_range c.self.inside.nodes.items c.self.inside.last_freed c.self.inside.len c.self.invariant c.args.item c.in-Ok.place c.take_slot.new.nodes.items c.take_slot.new.last_freed t).1)

pub link_between-requires-clause-next : goal.link_between-requires-clause-next
link_between-requires-clause-next g c =
    let t = taken c.self.inside.nodes.items c.self.inside.last_freed c.self.inside.len c.self.invariant c.args.item c.in-Ok.place c.take_slot.new.nodes.items c.take_slot.new.last_freed c.in-Ok.ensures in
    let room = place_range c.self.inside.nodes.items c.self.inside.last_freed c.self.inside.len c.self.invariant c.args.item c.in-Ok.place c.take_slot.new.nodes.items c.take_slot.new.last_freed t in
    let ends = head_range c.self.inside.nodes.items c.self.inside.last_freed c.self.inside.len c.self.invariant c.args.item c.in-Ok.place c.take_slot.new.nodes.items c.take_slot.new.last_freed t in
    let read = get_or-map (λ (n : Node g.row.K.Denot). n.next) c.take_slot.new.nodes.items 0 c.index.result.now 4294967295 (omega (arith, room.0, room.1)) in
    omega (arith, ends, read, ap (λ (n : Node g.row.K.Denot). n.next) c.index.ensures)

pub overflow_add-self : goal.overflow_add-self
overflow_add-self g c =
    let t = taken c.self.inside.nodes.items c.self.inside.last_freed c.self.inside.len c.self.invariant c.args.item c.in-Ok.place c.take_slot.new.nodes.items c.take_slot.new.last_freed c.in-Ok.ensures in
    omega (arith, t.few_are, length-live c.self.inside.nodes.items c.self.inside.last_freed c.self.inside.len c.self.invariant)

pub invariant_of-self-2 : goal.invariant_of-self-2
invariant_of-self-2 g c =
    let t = taken c.self.inside.nodes.items c.self.inside.last_freed c.self.inside.len c.self.invariant c.args.item c.in-Ok.place c.take_slot.new.nodes.items c.take_slot.new.last_freed c.in-Ok.ensures in
    let room = place_range c.self.inside.nodes.items c.self.inside.last_freed c.self.inside.len c.self.invariant c.args.item c.in-Ok.place c.take_slot.new.nodes.items c.take_slot.new.last_freed t in
    let read = get_or-map (λ (n : Node g.row.K.Denot). n.next) c.take_slot.new.nodes.items 0 c.index.result.now 4294967295 (omega (arith, room.0, room.1)) in
    (pushed_head_shown c.self.inside.nodes.items c.self.inside.last_freed c.self.inside.len c.self.invariant c.args.item c.in-Ok.place c.take_slot.new.nodes.items c.take_slot.new.last_freed t
    c.link_between.new.nodes.items c.index.result.now.next (ap (λ (n : Node g.row.K.Denot). n.next) c.index.ensures ∙ sym read)
    c.link_between.ensures.nexts c.link_between.ensures.prevs c.link_between.ensures.items).valid

pub returns-clause-pushes : goal.returns-clause-pushes
returns-clause-pushes g c =
    let t = taken c.self.inside.nodes.items c.self.inside.last_freed c.self.inside.len c.self.invariant c.args.item c.in-Ok.place c.take_slot.new.nodes.items c.take_slot.new.last_freed c.in-Ok.ensures in
    let room = place_range c.self.inside.nodes.items c.self.inside.last_freed c.self.inside.len c.self.invariant c.args.item c.in-Ok.place c.take_slot.new.nodes.items c.take_slot.new.last_freed t in
    let read = get_or-map (λ (n : Node g.row.K.Denot). n.next) c.take_slot.new.nodes.items 0 c.index.result.now 4294967295 (omega (arith, room.0, room.1)) in
    let done = pushed_head_shown c.self.inside.nodes.items c.self.inside.last_freed c.self.inside.len c.self.invariant c.args.item c.in-Ok.place c.take_slot.new.nodes.items c.take_slot.new.last_freed t
    c.link_between.new.nodes.items c.index.result.now.next (ap (λ (n : Node g.row.K.Denot). n.next) c.index.ensures ∙ sym read)
    c.link_between.ensures.nexts c.link_between.ensures.prevs c.link_between.ensures.items in
    rw (← c.self.view_is) (t.few_are, t.slot_is, done.is)

pub returns-clause-numbered : goal.returns-clause-numbered
returns-clause-numbered g c = numbered c.link_between.new.nodes.items c.take_slot.new.last_freed (c.self.inside.len + 1) (invariant_of-self-2 g c)
