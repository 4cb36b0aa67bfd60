use Rattle.std.proofs.Common.{◌≡◌, ◌-◌, length, suc, Some, arith, sym, subst, ap, ◌∙◌}
use Rattle.std.proofs.lemmas.List.{get_or-map, length_push}
use Rattle.std.proofs.lemmas.Option.{slice_get-get_or}
use Rattle.lru_list.specs.declared.linked_list.Node.{Node}
use Rattle.lru_list.specs.Representation.Nodes.{items, rest_of, IsSpan}
use Rattle.lru_list.proofs.LinkedStates.{length-items}
use Rattle.lru_list.proofs.LinkedSpans.{last_within, last_step, last_item}
use Rattle.lru_list.proofs.iter.LinkedListIterDoubleEndedIterator.next_back.Goals as goal

pub offset_bounds-nodes-self-inside : goal.offset_bounds-nodes-self-inside
offset_bounds-nodes-self-inside g c =
    let it = c.self.inside in
    let some : it.left ≡ suc (it.left - 1) = omega (arith, c.if-self-eq0.false) in
    omega (arith, last_within it.nodes.now it.head it.tail (it.left - 1) (subst (IsSpan it.nodes.now it.head it.tail) some c.self.invariant))

pub bounds-nodes-self-inside : goal.bounds-nodes-self-inside
bounds-nodes-self-inside g c =
    let it = c.self.inside in
    let some : it.left ≡ suc (it.left - 1) = omega (arith, c.if-self-eq0.false) in
    last_within it.nodes.now it.head it.tail (it.left - 1) (subst (IsSpan it.nodes.now it.head it.tail) some c.self.invariant)

pub invariant_of-self : goal.invariant_of-self
invariant_of-self g c =
    let it = c.self.inside in
    let some : it.left ≡ suc (it.left - 1) = omega (arith, c.if-self-eq0.false) in
    let span = subst (IsSpan it.nodes.now it.head it.tail) some c.self.invariant in
    let prev = λ (n : Node g.row.K.Denot). n.prev in
    let read = get_or-map prev it.nodes.now it.tail c.index-nodes-self.result 4294967295 (last_within it.nodes.now it.head it.tail (it.left - 1) span) in
    subst (λ i. IsSpan it.nodes.now it.head i (it.left - 1)) (read ∙ sym (ap prev c.index-nodes-self.is)) (last_step it.nodes.now it.head it.tail (it.left - 1) span)

pub returns-clause-steps : goal.returns-clause-steps
returns-clause-steps g c =
    let it = c.self.inside in
    let some : it.left ≡ suc (it.left - 1) = omega (arith, c.if-self-eq0.false) in
    let span = subst (IsSpan it.nodes.now it.head it.tail) some c.self.invariant in
    let within = last_within it.nodes.now it.head it.tail (it.left - 1) span in
    let item = λ (n : Node g.row.K.Denot). n.item in
    let read = get_or-map item it.nodes.now it.tail c.index-nodes-self.result c.index-nodes-self.result.item within in
    let found = slice_get-get_or (items it.nodes.now) it.tail c.index-nodes-self.result.item (omega (arith, within, length-items it.nodes.now))
    ∙ ap (λ x. Some x) (read ∙ sym (ap item c.index-nodes-self.is)) in
    sym c.self.view_is ∙ ap (λ n. rest_of it.nodes.now it.head n) some ∙ last_item it.nodes.now it.head it.tail (it.left - 1) span c.index-nodes-self.result.item found

pub returns-clause-goes : goal.returns-clause-goes
returns-clause-goes g c =
    let it = c.self.inside in
    let fewer = ap length (returns-clause-steps g c) ∙ length_push (rest_of it.nodes.now it.head (it.left - 1)) c.index-nodes-self.result.item in
    record { on = λ _. (tt, tt, omega (arith, fewer)); keeps = tt; rests = λ _. tt }
