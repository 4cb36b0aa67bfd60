use Rattle.std.proofs.Common.{◌+◌, Err, arith, sym, subst, ap, ◌∙◌}
use Rattle.std.specs.Prelude.{◌⊎◌, ◌≡◌}
use Rattle.std.proofs.lemmas.List.{get_or-map}
use Rattle.lru_list.specs.declared.linked_list.Node.{Node}
use Rattle.lru_list.specs.Linked.{Linked, IsLive, Pushes}
use Rattle.lru_list.specs.Insertions.{inserted}
use Rattle.lru_list.specs.Representation.Nodes.{linked_of}
use Rattle.lru_list.proofs.LinkedStates.{taken, top_range, place_range, refused, refused_numbered, numbered, length-live}
use Rattle.lru_list.proofs.Insertions.{index_range, index_fits, before_range, inserted_shown}
use Rattle.lru_list.proofs.linked_list.LinkedList.insert_before.Goals as goal

pub take_slot-requires : goal.take_slot-requires
take_slot-requires g c = λ ne. omega (arith, top_range c.self.inside.nodes.items c.self.inside.last_freed c.self.inside.len c.self.invariant ne)

pub returns-in-Err-clause-pushes : goal.returns-in-Err-clause-pushes
returns-in-Err-clause-pushes g c =
    let left = linked_of c.take_slot.new.nodes.items c.take_slot.new.last_freed c.self.inside.len in
    subst (λ (l : Linked g.row.K.Denot). Pushes l (inserted l c.args.index c.args.item) c.args.item (Err c.in-Err.refused) left) c.self.view_is
    (refused c.self.inside.nodes.items c.self.inside.last_freed c.self.inside.len c.self.invariant (inserted (linked_of c.self.inside.nodes.items c.self.inside.last_freed c.self.inside.len) c.args.index c.args.item) c.args.item c.in-Err.refused c.take_slot.new.nodes.items c.take_slot.new.last_freed c.in-Err.ensures)

pub returns-in-Err-clause-numbered : goal.returns-in-Err-clause-numbered
returns-in-Err-clause-numbered g c =
    refused_numbered c.self.inside.nodes.items c.self.inside.last_freed c.self.inside.len c.self.invariant c.args.item c.in-Err.refused c.take_slot.new.nodes.items c.take_slot.new.last_freed c.in-Err.ensures

pub index-requires : goal.index-requires
index-requires g c =
    let t = taken c.self.inside.nodes.items c.self.inside.last_freed c.self.inside.len c.self.invariant c.args.item c.in-Ok.place c.take_slot.new.nodes.items c.take_slot.new.last_freed c.in-Ok.ensures in
    let there = subst (λ (l : Linked g.row.K.Denot). IsLive l c.args.index ⊎ (c.args.index ≡ 1)) (sym c.self.view_is) c.requires in
    omega (arith, index_range c.self.inside.nodes.items c.self.inside.last_freed c.self.inside.len c.self.invariant c.args.index there c.args.item c.in-Ok.place c.take_slot.new.nodes.items c.take_slot.new.last_freed t)

pub overflow_cast-index : goal.overflow_cast-index
overflow_cast-index g c =
    let t = taken c.self.inside.nodes.items c.self.inside.last_freed c.self.inside.len c.self.invariant c.args.item c.in-Ok.place c.take_slot.new.nodes.items c.take_slot.new.last_freed c.in-Ok.ensures in
    let there = subst (λ (l : Linked g.row.K.Denot). IsLive l c.args.index ⊎ (c.args.index ≡ 1)) (sym c.self.view_is) c.requires in
    omega (arith, index_fits c.self.inside.nodes.items c.self.inside.last_freed c.self.inside.len c.self.invariant c.args.index there c.args.item c.in-Ok.place c.take_slot.new.nodes.items c.take_slot.new.last_freed t)

pub link_between-requires-clause-place : goal.link_between-requires-clause-place
link_between-requires-clause-place g c =
    let t = taken c.self.inside.nodes.items c.self.inside.last_freed c.self.inside.len c.self.invariant c.args.item c.in-Ok.place c.take_slot.new.nodes.items c.take_slot.new.last_freed c.in-Ok.ensures in
    omega (arith, (place_range c.self.inside.nodes.items c.self.inside.last_freed c.self.inside.len c.self.invariant c.args.item c.in-Ok.place c.take_slot.new.nodes.items c.take_slot.new.last_freed t).1)

pub link_between-requires-clause-prev : goal.link_between-requires-clause-prev
link_between-requires-clause-prev g c =
    let t = taken c.self.inside.nodes.items c.self.inside.last_freed c.self.inside.len c.self.invariant c.args.item c.in-Ok.place c.take_slot.new.nodes.items c.take_slot.new.last_freed c.in-Ok.ensures in
    let there = subst (λ (l : Linked g.row.K.Denot). IsLive l c.args.index ⊎ (c.args.index ≡ 1)) (sym c.self.view_is) c.requires in
    let within = index_range c.self.inside.nodes.items c.self.inside.last_freed c.self.inside.len c.self.invariant c.args.index there c.args.item c.in-Ok.place c.take_slot.new.nodes.items c.take_slot.new.last_freed t in
    let behind = before_range c.self.inside.nodes.items c.self.inside.last_freed c.self.inside.len c.self.invariant c.args.index there c.args.item c.in-Ok.place c.take_slot.new.nodes.items c.take_slot.new.last_freed t in
    let read = get_or-map (λ (n : Node g.row.K.Denot). n.prev) c.take_slot.new.nodes.items c.args.index c.index.result.now 4294967295 within in
    omega (arith, behind, read, ap (λ (n : Node g.row.K.Denot). n.prev) c.index.ensures)

pub link_between-requires-clause-next : goal.link_between-requires-clause-next
link_between-requires-clause-next g c =
    let t = taken c.self.inside.nodes.items c.self.inside.last_freed c.self.inside.len c.self.invariant c.args.item c.in-Ok.place c.take_slot.new.nodes.items c.take_slot.new.last_freed c.in-Ok.ensures in
    let there = subst (λ (l : Linked g.row.K.Denot). IsLive l c.args.index ⊎ (c.args.index ≡ 1)) (sym c.self.view_is) c.requires in
    omega (arith, index_range c.self.inside.nodes.items c.self.inside.last_freed c.self.inside.len c.self.invariant c.args.index there c.args.item c.in-Ok.place c.take_slot.new.nodes.items c.take_slot.new.last_freed t)

pub overflow_add-self : goal.overflow_add-self
overflow_add-self g c =
    let t = taken c.self.inside.nodes.items c.self.inside.last_freed c.self.inside.len c.self.invariant c.args.item c.in-Ok.place c.take_slot.new.nodes.items c.take_slot.new.last_freed c.in-Ok.ensures in
    omega (arith, t.few_are, length-live c.self.inside.nodes.items c.self.inside.last_freed c.self.inside.len c.self.invariant)

pub invariant_of-self-2 : goal.invariant_of-self-2
invariant_of-self-2 g c =
    let t = taken c.self.inside.nodes.items c.self.inside.last_freed c.self.inside.len c.self.invariant c.args.item c.in-Ok.place c.take_slot.new.nodes.items c.take_slot.new.last_freed c.in-Ok.ensures in
    let there = subst (λ (l : Linked g.row.K.Denot). IsLive l c.args.index ⊎ (c.args.index ≡ 1)) (sym c.self.view_is) c.requires in
    let within = index_range c.self.inside.nodes.items c.self.inside.last_freed c.self.inside.len c.self.invariant c.args.index there c.args.item c.in-Ok.place c.take_slot.new.nodes.items c.take_slot.new.last_freed t in
    let read = get_or-map (λ (n : Node g.row.K.Denot). n.prev) c.take_slot.new.nodes.items c.args.index c.index.result.now 4294967295 within in
    (inserted_shown c.self.inside.nodes.items c.self.inside.last_freed c.self.inside.len c.self.invariant c.args.index there c.args.item c.in-Ok.place c.take_slot.new.nodes.items c.take_slot.new.last_freed t
    c.link_between.new.nodes.items c.index.result.now.prev (ap (λ (n : Node g.row.K.Denot). n.prev) c.index.ensures ∙ sym read)
    c.link_between.ensures.nexts c.link_between.ensures.prevs c.link_between.ensures.items).valid

pub returns-clause-pushes : goal.returns-clause-pushes
returns-clause-pushes g c =
    let t = taken c.self.inside.nodes.items c.self.inside.last_freed c.self.inside.len c.self.invariant c.args.item c.in-Ok.place c.take_slot.new.nodes.items c.take_slot.new.last_freed c.in-Ok.ensures in
    let there = subst (λ (l : Linked g.row.K.Denot). IsLive l c.args.index ⊎ (c.args.index ≡ 1)) (sym c.self.view_is) c.requires in
    let within = index_range c.self.inside.nodes.items c.self.inside.last_freed c.self.inside.len c.self.invariant c.args.index there c.args.item c.in-Ok.place c.take_slot.new.nodes.items c.take_slot.new.last_freed t in
    let read = get_or-map (λ (n : Node g.row.K.Denot). n.prev) c.take_slot.new.nodes.items c.args.index c.index.result.now 4294967295 within in
    let done = inserted_shown c.self.inside.nodes.items c.self.inside.last_freed c.self.inside.len c.self.invariant c.args.index there c.args.item c.in-Ok.place c.take_slot.new.nodes.items c.take_slot.new.last_freed t
    c.link_between.new.nodes.items c.index.result.now.prev (ap (λ (n : Node g.row.K.Denot). n.prev) c.index.ensures ∙ sym read)
    c.link_between.ensures.nexts c.link_between.ensures.prevs c.link_between.ensures.items in
    rw (← c.self.view_is) (t.few_are, t.slot_is, done.is)

pub returns-clause-numbered : goal.returns-clause-numbered
returns-clause-numbered g c = numbered c.link_between.new.nodes.items c.take_slot.new.last_freed (c.self.inside.len + 1) (invariant_of-self-2 g c)
