use Rattle.std.proofs.Common.{arith, sym, subst, ap, ◌∙◌, inl, inr}
use Rattle.std.proofs.lemmas.List.{get_or-map}
use Rattle.lru_list.specs.declared.linked_list.Node.{Node}
use Rattle.lru_list.specs.Linked.{Linked, IsPlace}
use Rattle.lru_list.proofs.LinkedStates.{made_is}
use Rattle.lru_list.proofs.LinkedReads.{prev_none, prev_is}
use Rattle.lru_list.proofs.linked_list.LinkedList.prev_index.Goals as goal
use Rattle.lru_list.proofs.linked_list.LinkedList.prev_index.Goals.{else-node-via-then-node+else-index, else-node-via-else-node}

pub index-node-requires : goal.index-node-requires
index-node-requires g c =
    let place = subst (λ (l : Linked g.row.K.Denot). IsPlace l c.args.index) (sym c.self.view_is) c.requires in
    omega (arith, place, made_is c.self.inside.nodes.items c.self.inside.last_freed c.self.inside.len c.self.invariant)

pub returns-then-index : goal.returns-then-index
returns-then-index g c =
    let place = subst (λ (l : Linked g.row.K.Denot). IsPlace l c.args.index) (sym c.self.view_is) c.requires in
    let made = made_is c.self.inside.nodes.items c.self.inside.last_freed c.self.inside.len c.self.invariant in
    let next = λ (n : Node g.row.K.Denot). n.next in
    let read = get_or-map next c.self.inside.nodes.items c.args.index c.index-node.result.now 4294967295 (omega (arith, place, made)) in
    rw (← c.self.view_is)
    (sym (prev_none c.self.inside.nodes.items c.self.inside.last_freed c.self.inside.len c.self.invariant c.args.index (read ∙ sym (ap next c.index-node.ensures) ∙ c.if-node.true) c.if-index.true))

pub returns : goal.returns
returns g c =
    let place = subst (λ (l : Linked g.row.K.Denot). IsPlace l c.args.index) (sym c.self.view_is) c.requires in
    let made = made_is c.self.inside.nodes.items c.self.inside.last_freed c.self.inside.len c.self.invariant in
    let next = λ (n : Node g.row.K.Denot). n.next in
    let prev = λ (n : Node g.row.K.Denot). n.prev in
    let read = get_or-map next c.self.inside.nodes.items c.args.index c.index-node.result.now 4294967295 (omega (arith, place, made)) in
    let read_prev = get_or-map prev c.self.inside.nodes.items c.args.index c.index-node.result.now 4294967295 (omega (arith, place, made)) in
    let is = prev_is c.self.inside.nodes.items c.self.inside.last_freed c.self.inside.len c.self.invariant c.args.index (omega (arith, place, made)) in
    rw (← c.self.view_is) (ap prev c.index-node.ensures ∙ sym read_prev ∙ sym (is (elim c.else-node.branch [
      | else-node-via-then-node+else-index w ↦ inr w.if-index.false
      | else-node-via-else-node w ↦ inl (λ e. w.if-node.false (ap next c.index-node.ensures ∙ sym read ∙ e))
    ])))
