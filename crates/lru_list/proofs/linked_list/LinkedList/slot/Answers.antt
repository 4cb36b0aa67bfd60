use Rattle.std.proofs.Common.{◌≡◌, Some, true, arith, sym, subst, ap, ◌∙◌}
use Rattle.std.specs.Prelude.{is_some}
use Rattle.std.proofs.lemmas.List.{get_or-map}
use Rattle.std.proofs.lemmas.Option.{slice_get-get_or}
use Rattle.lru_list.specs.declared.linked_list.Node.{Node}
use Rattle.lru_list.specs.Linked.{Linked, item_at}
use Rattle.lru_list.specs.Representation.Nodes.{items}
use Rattle.lru_list.proofs.LinkedStates.{length-items}
use Rattle.lru_list.proofs.LinkedReads.{item_there}
use Rattle.lru_list.proofs.LinkedWrites.{slot_range}
use Rattle.lru_list.proofs.linked_list.LinkedList.slot.Goals as goal

pub index-requires : goal.index-requires
index-requires g c =
    let there = subst (λ (l : Linked g.row.K.Denot). is_some (item_at l c.args.index) ≡ true) (sym c.self.view_is) c.requires in
    omega (arith, (slot_range c.self.inside.nodes.items c.self.inside.last_freed c.self.inside.len c.self.invariant c.args.index there).1)

pub returns : goal.returns
returns g c =
    let there = subst (λ (l : Linked g.row.K.Denot). is_some (item_at l c.args.index) ≡ true) (sym c.self.view_is) c.requires in
    let r = slot_range c.self.inside.nodes.items c.self.inside.last_freed c.self.inside.len c.self.invariant c.args.index there in
    let item = λ (n : Node g.row.K.Denot). n.item in
    let read = get_or-map item c.self.inside.nodes.items c.args.index c.index.result.now c.index.result.now.item r.1 in
    let found = slice_get-get_or (items c.self.inside.nodes.items) c.args.index c.index.result.now.item (omega (arith, r.1, length-items c.self.inside.nodes.items))
    ∙ ap (λ x. Some x) (read ∙ sym (ap item c.index.ensures)) in
    rw (← c.self.view_is) (item_there c.self.inside.nodes.items c.self.inside.last_freed c.self.inside.len c.self.invariant c.args.index c.index.result.now.item r.0 r.1 found)
