use Rattle.std.proofs.Common.{Some, arith, sym, ap, ◌∙◌, inl, inr}
use Rattle.std.proofs.lemmas.List.{get_or-map}
use Rattle.lru_list.specs.declared.linked_list.Node.{Node}
use Rattle.lru_list.proofs.LinkedReads.{head_is}
use Rattle.lru_list.proofs.LinkedStates.{numbered}
use Rattle.lru_list.proofs.linked_list.LinkedList.head.Goals as goal

pub returns-then-first-eq-TAIL : goal.returns-then-first-eq-TAIL
returns-then-first-eq-TAIL g c =
    let read = get_or-map (λ (n : Node g.row.K.Denot). n.next) c.self.inside.nodes.items 0 c.index.result.now 4294967295 (omega (arith, c.self.invariant.room)) in
    let link = ap (λ (n : Node g.row.K.Denot). n.next) c.index.ensures in
    rw (← c.self.view_is) (record {
      index = elim (head_is c.self.inside.nodes.items c.self.inside.last_freed c.self.inside.len c.self.invariant) [
        | inl e ↦ sym e.1
        | inr e ↦ absurd (omega (arith, e.0, read, link, c.if-first-eq-TAIL.true))
      ];
      numbered = numbered c.self.inside.nodes.items c.self.inside.last_freed c.self.inside.len c.self.invariant;
    })

pub returns-else-first-eq-TAIL : goal.returns-else-first-eq-TAIL
returns-else-first-eq-TAIL g c =
    let read = get_or-map (λ (n : Node g.row.K.Denot). n.next) c.self.inside.nodes.items 0 c.index.result.now 4294967295 (omega (arith, c.self.invariant.room)) in
    let link = ap (λ (n : Node g.row.K.Denot). n.next) c.index.ensures in
    rw (← c.self.view_is) (record {
      index = elim (head_is c.self.inside.nodes.items c.self.inside.last_freed c.self.inside.len c.self.invariant) [
        | inl e ↦ absurd (c.if-first-eq-TAIL.false (link ∙ sym read ∙ e.0))
        | inr e ↦ ap (λ i. Some i) (link ∙ sym read) ∙ sym e.1
      ];
      numbered = numbered c.self.inside.nodes.items c.self.inside.last_freed c.self.inside.len c.self.invariant;
    })
