use Rattle.std.proofs.Common.{◌≡◌, ◌-◌, length, suc, Some, arith, sym, subst, ap, ◌∙◌}
use Rattle.std.proofs.lemmas.List.{get_or-map, length_push}
use Rattle.std.proofs.lemmas.Option.{slice_get-get_or}
use Rattle.lru_list.specs.declared.linked_list.Node.{Node}
use Rattle.lru_list.specs.Representation.Nodes.{items, pairs_of, IsSpan}
use Rattle.lru_list.proofs.LinkedStates.{length-items}
use Rattle.lru_list.proofs.LinkedSpans.{last_within, last_step, last_pair}
use Rattle.lru_list.proofs.iter.LinkedListEntriesDoubleEndedIterator.next_back.Goals as goal

pub offset_bounds-nodes-place : goal.offset_bounds-nodes-place
offset_bounds-nodes-place g c =
    let it = c.self.inside in
    let some : it.left ≡ suc (it.left - 1) = omega (arith, c.if-self-eq0.false) in
    omega (arith, last_within it.nodes.now it.front it.back (it.left - 1) (subst (IsSpan it.nodes.now it.front it.back) some c.self.invariant))

pub bounds-nodes-place : goal.bounds-nodes-place
bounds-nodes-place g c =
    let it = c.self.inside in
    let some : it.left ≡ suc (it.left - 1) = omega (arith, c.if-self-eq0.false) in
    last_within it.nodes.now it.front it.back (it.left - 1) (subst (IsSpan it.nodes.now it.front it.back) some c.self.invariant)

pub invariant_of-self : goal.invariant_of-self
invariant_of-self g c =
    let it = c.self.inside in
    let some : it.left ≡ suc (it.left - 1) = omega (arith, c.if-self-eq0.false) in
    let span = subst (IsSpan it.nodes.now it.front it.back) some c.self.invariant in
    let prev = λ (n : Node g.row.K.Denot). n.prev in
    let read = get_or-map prev it.nodes.now it.back c.index-nodes-place.result 4294967295 (last_within it.nodes.now it.front it.back (it.left - 1) span) in
    subst (λ i. IsSpan it.nodes.now it.front i (it.left - 1)) (read ∙ sym (ap prev c.index-nodes-place.is)) (last_step it.nodes.now it.front it.back (it.left - 1) span)

pub returns-clause-steps : goal.returns-clause-steps
returns-clause-steps g c =
    let it = c.self.inside in
    let some : it.left ≡ suc (it.left - 1) = omega (arith, c.if-self-eq0.false) in
    let span = subst (IsSpan it.nodes.now it.front it.back) some c.self.invariant in
    let within = last_within it.nodes.now it.front it.back (it.left - 1) span in
    let item = λ (n : Node g.row.K.Denot). n.item in
    let read = get_or-map item it.nodes.now it.back c.index-nodes-place.result c.index-nodes-place.result.item within in
    let found = slice_get-get_or (items it.nodes.now) it.back c.index-nodes-place.result.item (omega (arith, within, length-items it.nodes.now))
    ∙ ap (λ x. Some x) (read ∙ sym (ap item c.index-nodes-place.is)) in
    sym c.self.view_is ∙ ap (λ n. pairs_of it.nodes.now it.front n) some ∙ last_pair it.nodes.now it.front it.back (it.left - 1) span c.index-nodes-place.result.item found

pub returns-clause-goes : goal.returns-clause-goes
returns-clause-goes g c =
    let it = c.self.inside in
    let fewer = ap length (returns-clause-steps g c) ∙ length_push (pairs_of it.nodes.now it.front (it.left - 1)) (it.back, c.index-nodes-place.result.item) in
    record { on = λ _. (tt, tt, omega (arith, fewer)); keeps = tt; rests = λ _. tt }
