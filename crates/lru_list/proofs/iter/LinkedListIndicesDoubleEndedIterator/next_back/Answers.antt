use Rattle.std.proofs.Common.{◌≡◌, ◌-◌, length, suc, arith, sym, subst, ap, ◌∙◌}
use Rattle.std.proofs.lemmas.List.{get_or-map, length_push}
use Rattle.lru_list.specs.declared.linked_list.Node.{Node}
use Rattle.lru_list.specs.Representation.Nodes.{places_of, IsSpan}
use Rattle.lru_list.proofs.LinkedSpans.{last_within, last_step, last_place}
use Rattle.lru_list.proofs.iter.LinkedListIndicesDoubleEndedIterator.next_back.Goals as goal

pub offset_bounds-nodes-place : goal.offset_bounds-nodes-place
offset_bounds-nodes-place g c =
    let it = c.self.inside in
    let some : it.count ≡ suc (it.count - 1) = omega (arith, c.if-self-eq0.false) in
    omega (arith, last_within it.nodes.now it.first it.last (it.count - 1) (subst (IsSpan it.nodes.now it.first it.last) some c.self.invariant))

pub bounds-nodes-place : goal.bounds-nodes-place
bounds-nodes-place g c =
    let it = c.self.inside in
    let some : it.count ≡ suc (it.count - 1) = omega (arith, c.if-self-eq0.false) in
    last_within it.nodes.now it.first it.last (it.count - 1) (subst (IsSpan it.nodes.now it.first it.last) some c.self.invariant)

pub invariant_of-self : goal.invariant_of-self
invariant_of-self g c =
    let it = c.self.inside in
    let some : it.count ≡ suc (it.count - 1) = omega (arith, c.if-self-eq0.false) in
    let span = subst (IsSpan it.nodes.now it.first it.last) some c.self.invariant in
    let prev = λ (n : Node g.row.K.Denot). n.prev in
    let read = get_or-map prev it.nodes.now it.last c.index-nodes-place.result 4294967295 (last_within it.nodes.now it.first it.last (it.count - 1) span) in
    subst (λ i. IsSpan it.nodes.now it.first i (it.count - 1)) (read ∙ sym (ap prev c.index-nodes-place.is)) (last_step it.nodes.now it.first it.last (it.count - 1) span)

pub returns-clause-steps : goal.returns-clause-steps
returns-clause-steps g c =
    let it = c.self.inside in
    let some : it.count ≡ suc (it.count - 1) = omega (arith, c.if-self-eq0.false) in
    let span = subst (IsSpan it.nodes.now it.first it.last) some c.self.invariant in
    sym c.self.view_is ∙ ap (λ n. places_of it.nodes.now it.first n) some ∙ last_place it.nodes.now it.first it.last (it.count - 1) span

pub returns-clause-goes : goal.returns-clause-goes
returns-clause-goes g c =
    let it = c.self.inside in
    let fewer = ap length (returns-clause-steps g c) ∙ length_push (places_of it.nodes.now it.first (it.count - 1)) it.last in
    record { on = λ _. (tt, tt, omega (arith, fewer)); keeps = tt; rests = λ _. tt }
