use Rattle.std.proofs.Common.{◌≡◌, ◌-◌, suc, arith, sym, subst, ap, ◌∙◌, ◌∷◌, length}
use Rattle.std.proofs.lemmas.List.{get_or-map}
use Rattle.lru_list.specs.declared.linked_list.Node.{Node}
use Rattle.lru_list.specs.Representation.Nodes.{places_of, IsSpan}
use Rattle.lru_list.proofs.LinkedSpans.{first_within, first_step}
use Rattle.lru_list.proofs.iter.LinkedListIndicesIterator.next.Goals as goal

pub offset_bounds-nodes-index : goal.offset_bounds-nodes-index
offset_bounds-nodes-index g c =
    let it = c.self.inside in
    let some : it.count ≡ suc (it.count - 1) = omega (arith, c.if-self-eq0.false) in
    omega (arith, first_within it.nodes.now it.first it.last (it.count - 1) (subst (IsSpan it.nodes.now it.first it.last) some c.self.invariant))

pub bounds-nodes-index : goal.bounds-nodes-index
bounds-nodes-index g c =
    let it = c.self.inside in
    let some : it.count ≡ suc (it.count - 1) = omega (arith, c.if-self-eq0.false) in
    first_within it.nodes.now it.first it.last (it.count - 1) (subst (IsSpan it.nodes.now it.first it.last) some c.self.invariant)

pub invariant_of-self : goal.invariant_of-self
invariant_of-self g c =
    let it = c.self.inside in
    let some : it.count ≡ suc (it.count - 1) = omega (arith, c.if-self-eq0.false) in
    let span = subst (IsSpan it.nodes.now it.first it.last) some c.self.invariant in
    let next = λ (n : Node g.row.K.Denot). n.next in
    let read = get_or-map next it.nodes.now it.first c.index-nodes-index.result 4294967295 (first_within it.nodes.now it.first it.last (it.count - 1) span) in
    subst (λ i. IsSpan it.nodes.now i it.last (it.count - 1)) (read ∙ sym (ap next c.index-nodes-index.is)) (first_step it.nodes.now it.first it.last (it.count - 1) span)

pub returns-clause-steps : goal.returns-clause-steps
returns-clause-steps g c =
    let it = c.self.inside in
    let some : it.count ≡ suc (it.count - 1) = omega (arith, c.if-self-eq0.false) in
    let span = subst (IsSpan it.nodes.now it.first it.last) some c.self.invariant in
    let next = λ (n : Node g.row.K.Denot). n.next in
    let read = get_or-map next it.nodes.now it.first c.index-nodes-index.result 4294967295 (first_within it.nodes.now it.first it.last (it.count - 1) span) in
    sym c.self.view_is ∙ ap (λ n. places_of it.nodes.now it.first n) some
    ∙ ap (λ i. it.first ∷ places_of it.nodes.now i (it.count - 1)) (read ∙ sym (ap next c.index-nodes-index.is))

pub returns-clause-goes : goal.returns-clause-goes
returns-clause-goes g c =
    let fewer = ap length (returns-clause-steps g c) in
    record { on = λ _. (tt, tt, omega (arith, fewer)); keeps = tt; rests = λ _. tt }
