use Rattle.std.proofs.Common.{List, get_or, arith, sym, subst, ap, ◌∙◌}
use Rattle.std.proofs.lemmas.List.{get_or-map}
use Rattle.lru_list.specs.declared.linked_list.Node.{Node}
use Rattle.lru_list.specs.Representation.Nodes.{pairs, at, nexts, items, order_of, pairs_of, IsSpan, IsList}
use Rattle.lru_list.proofs.LinkedSpans.{whole_span}
use Rattle.lru_list.proofs.linked_list.LinkedList.entries.Goals as goal

pub invariant_of-result : goal.invariant_of-result
invariant_of-result g c =
    let ns = c.as_slice-nodes.result.now in
    let valid = subst (λ (zs : List (Node g.row.K.Denot)). IsList zs c.self.inside.last_freed c.self.inside.len) (sym c.as_slice-nodes.ensures.value) c.self.invariant in
    let next = get_or-map (λ (n : Node g.row.K.Denot). n.next) ns 0 c.index-nodes.result 4294967295 (omega (arith, valid.room)) in
    let prev = get_or-map (λ (n : Node g.row.K.Denot). n.prev) ns 1 c.index-nodes-2.result 4294967295 (omega (arith, valid.room)) in
    subst (λ i. IsSpan ns i (get_or ns 1 c.index-nodes-2.result).prev c.self.inside.len) next
    (subst (λ i. IsSpan ns (at (nexts ns) 0) i c.self.inside.len) prev (whole_span ns c.self.inside.last_freed c.self.inside.len valid))

pub returns : goal.returns
returns g c =
    let i = c.self.inside in
    let ns = c.as_slice-nodes.result.now in
    let valid = subst (λ (zs : List (Node g.row.K.Denot)). IsList zs i.last_freed i.len) (sym c.as_slice-nodes.ensures.value) c.self.invariant in
    let next = get_or-map (λ (n : Node g.row.K.Denot). n.next) ns 0 c.index-nodes.result 4294967295 (omega (arith, valid.room)) in
    rw (← c.self.view_is) (record {
      rest = ap (λ first. pairs_of ns first i.len) (sym next)
          ∙ ap (λ (zs : List (Node g.row.K.Denot)). pairs (items zs) (order_of zs i.len)) c.as_slice-nodes.ensures.value;
    })
