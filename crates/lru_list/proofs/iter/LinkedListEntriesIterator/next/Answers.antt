use Rattle.std.proofs.Common.{◌≡◌, ◌-◌, suc, Some, arith, sym, subst, ap, ◌∙◌, ◌∷◌, length}
use Rattle.std.proofs.lemmas.List.{get_or-map}
use Rattle.std.proofs.lemmas.Option.{slice_get-get_or}
use Rattle.lru_list.specs.declared.linked_list.Node.{Node}
use Rattle.lru_list.specs.Representation.Nodes.{items, pairs_of, IsSpan}
use Rattle.lru_list.proofs.LinkedStates.{length-items}
use Rattle.lru_list.proofs.LinkedSpans.{first_within, first_step, first_pair}
use Rattle.lru_list.proofs.iter.LinkedListEntriesIterator.next.Goals as goal

pub offset_bounds-nodes-index : goal.offset_bounds-nodes-index
offset_bounds-nodes-index g c =
    let it = c.self.inside in
    let some : it.left ≡ suc (it.left - 1) = omega (arith, c.if-self-eq0.false) in
    omega (arith, first_within it.nodes.now it.front it.back (it.left - 1) (subst (IsSpan it.nodes.now it.front it.back) some c.self.invariant))

pub bounds-nodes-index : goal.bounds-nodes-index
bounds-nodes-index g c =
    let it = c.self.inside in
    let some : it.left ≡ suc (it.left - 1) = omega (arith, c.if-self-eq0.false) in
    first_within it.nodes.now it.front it.back (it.left - 1) (subst (IsSpan it.nodes.now it.front it.back) some c.self.invariant)

pub invariant_of-self : goal.invariant_of-self
invariant_of-self g c =
    let it = c.self.inside in
    let some : it.left ≡ suc (it.left - 1) = omega (arith, c.if-self-eq0.false) in
    let span = subst (IsSpan it.nodes.now it.front it.back) some c.self.invariant in
    let next = λ (n : Node g.row.K.Denot). n.next in
    let read = get_or-map next it.nodes.now it.front c.index-nodes-index.result 4294967295 (first_within it.nodes.now it.front it.back (it.left - 1) span) in
    subst (λ i. IsSpan it.nodes.now i it.back (it.left - 1)) (read ∙ sym (ap next c.index-nodes-index.is)) (first_step it.nodes.now it.front it.back (it.left - 1) span)

pub returns-clause-steps : goal.returns-clause-steps
returns-clause-steps g c =
    let it = c.self.inside in
    let some : it.left ≡ suc (it.left - 1) = omega (arith, c.if-self-eq0.false) in
    let span = subst (IsSpan it.nodes.now it.front it.back) some c.self.invariant in
    let within = first_within it.nodes.now it.front it.back (it.left - 1) span in
    let next = λ (n : Node g.row.K.Denot). n.next in
    let item = λ (n : Node g.row.K.Denot). n.item in
    let read = get_or-map next it.nodes.now it.front c.index-nodes-index.result 4294967295 within in
    let read_item = get_or-map item it.nodes.now it.front c.index-nodes-index.result c.index-nodes-index.result.item within in
    let found = slice_get-get_or (items it.nodes.now) it.front c.index-nodes-index.result.item (omega (arith, within, length-items it.nodes.now))
    ∙ ap (λ x. Some x) (read_item ∙ sym (ap item c.index-nodes-index.is)) in
    sym c.self.view_is ∙ ap (λ n. pairs_of it.nodes.now it.front n) some ∙ first_pair it.nodes.now it.front (it.left - 1) c.index-nodes-index.result.item found
    ∙ ap (λ i. (it.front, c.index-nodes-index.result.item) ∷ pairs_of it.nodes.now i (it.left - 1)) (read ∙ sym (ap next c.index-nodes-index.is))

pub returns-clause-goes : goal.returns-clause-goes
returns-clause-goes g c =
    let fewer = ap length (returns-clause-steps g c) in
    record { on = λ _. (tt, tt, omega (arith, fewer)); keeps = tt; rests = λ _. tt }
