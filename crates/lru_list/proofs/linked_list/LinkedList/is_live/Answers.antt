use Rattle.std.proofs.Common.{nat_eq, not, arith, sym, ap, ◌∙◌}
use Rattle.std.specs.Prelude.{is_some}
use Rattle.std.proofs.lemmas.List.{get_or-map}
use Rattle.lru_list.specs.declared.linked_list.Node.{Node}
use Rattle.lru_list.specs.Linked.{Linked, item_at}
use Rattle.lru_list.proofs.LinkedLives.{dead, lives}
use Rattle.lru_list.proofs.LinkedWrites.{slot_range}
use Rattle.lru_list.proofs.linked_list.LinkedList.is_live.Goals as goal

pub index-requires : goal.index-requires
index-requires g c =
    let slot = ap (λ (l : Linked g.row.K.Denot). is_some (item_at l c.args.index)) c.self.view_is ∙ sym c.has_slot.ensures ∙ c.if-has_slot.true in
    omega (arith, (slot_range c.self.inside.nodes.items c.self.inside.last_freed c.self.inside.len c.self.invariant c.args.index slot).1)

pub returns-then-has_slot : goal.returns-then-has_slot
returns-then-has_slot g c =
    let slot = ap (λ (l : Linked g.row.K.Denot). is_some (item_at l c.args.index)) c.self.view_is ∙ sym c.has_slot.ensures ∙ c.if-has_slot.true in
    let range = slot_range c.self.inside.nodes.items c.self.inside.last_freed c.self.inside.len c.self.invariant c.args.index slot in
    let next = λ (n : Node g.row.K.Denot). n.next in
    let read = get_or-map next c.self.inside.nodes.items c.args.index c.index.result.now 4294967295 range.1 in
    rw (← c.self.view_is) (ap (λ link. not (nat_eq link 4294967295)) (ap next c.index.ensures ∙ sym read)
    ∙ lives c.self.inside.nodes.items c.self.inside.last_freed c.self.inside.len c.self.invariant c.args.index range.0 range.1)

pub returns-else-has_slot : goal.returns-else-has_slot
returns-else-has_slot g c =
    let none = ap (λ (l : Linked g.row.K.Denot). is_some (item_at l c.args.index)) c.self.view_is ∙ sym c.has_slot.ensures ∙ c.if-has_slot.false in
    rw (← c.self.view_is) (c.if-has_slot.false ∙ sym (dead c.self.inside.nodes.items c.self.inside.last_freed c.self.inside.len c.self.invariant c.args.index none))
