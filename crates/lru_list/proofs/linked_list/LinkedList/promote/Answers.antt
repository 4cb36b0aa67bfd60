use Rattle.std.proofs.Common.{arith, sym, subst, ap, ◌∙◌}
use Rattle.std.proofs.lemmas.List.{get_or-map}
use Rattle.lru_list.specs.declared.linked_list.Node.{Node}
use Rattle.lru_list.specs.Linked.{Linked, IsLive}
use Rattle.lru_list.proofs.LinkedStates.{ranges, first_range, promoted_shown, promoted_first, numbered}
use Rattle.lru_list.proofs.linked_list.LinkedList.promote.Goals as goal

pub overflow_cast-place : goal.overflow_cast-place
overflow_cast-place g c =
    let live = subst (λ (l : Linked g.row.K.Denot). IsLive l c.args.index) (sym c.self.view_is) c.requires in
    omega (arith, (ranges c.self.inside.nodes.items c.self.inside.last_freed c.self.inside.len c.self.invariant c.args.index live).high)

pub unlink-requires : goal.unlink-requires
unlink-requires g c =
    let live = subst (λ (l : Linked g.row.K.Denot). IsLive l c.args.index) (sym c.self.view_is) c.requires in
    let r = ranges c.self.inside.nodes.items c.self.inside.last_freed c.self.inside.len c.self.invariant c.args.index live in
    record { place = omega (arith, r.place); prev = omega (arith, r.prev); next = omega (arith, r.next) }

pub link_between-requires : goal.link_between-requires
link_between-requires g c =
    let live = subst (λ (l : Linked g.row.K.Denot). IsLive l c.args.index) (sym c.self.view_is) c.requires in
    let r = ranges c.self.inside.nodes.items c.self.inside.last_freed c.self.inside.len c.self.invariant c.args.index live in
    let first = first_range c.self.inside.nodes.items c.self.inside.last_freed c.self.inside.len c.self.invariant c.args.index live c.unlink.new.nodes.items
    (record { nexts_are = c.unlink.ensures.nexts; prevs_are = c.unlink.ensures.prevs; items_are = c.unlink.ensures.items }) in
    let read = get_or-map (λ (n : Node g.row.K.Denot). n.next) c.unlink.new.nodes.items 0 c.index-2.result.now 4294967295 (omega (arith, r.place)) in
    record { place = omega (arith, r.place); prev = omega (arith, r.place); next = omega (arith, first, read, ap (λ (n : Node g.row.K.Denot). n.next) c.index-2.ensures) }

pub invariant_of-self : goal.invariant_of-self
invariant_of-self g c =
    let live = subst (λ (l : Linked g.row.K.Denot). IsLive l c.args.index) (sym c.self.view_is) c.requires in
    let r = ranges c.self.inside.nodes.items c.self.inside.last_freed c.self.inside.len c.self.invariant c.args.index live in
    let read = get_or-map (λ (n : Node g.row.K.Denot). n.next) c.unlink.new.nodes.items 0 c.index-2.result.now 4294967295 (omega (arith, r.place)) in
    (promoted_shown c.self.inside.nodes.items c.self.inside.last_freed c.self.inside.len c.self.invariant c.args.index live c.unlink.new.nodes.items
    (record { nexts_are = c.unlink.ensures.nexts; prevs_are = c.unlink.ensures.prevs; items_are = c.unlink.ensures.items })
    c.link_between.new.nodes.items c.index-2.result.now.next (ap (λ (n : Node g.row.K.Denot). n.next) c.index-2.ensures ∙ sym read)
    c.link_between.ensures.nexts c.link_between.ensures.prevs c.link_between.ensures.items).valid

pub returns : goal.returns
returns g c =
    let live = subst (λ (l : Linked g.row.K.Denot). IsLive l c.args.index) (sym c.self.view_is) c.requires in
    let r = ranges c.self.inside.nodes.items c.self.inside.last_freed c.self.inside.len c.self.invariant c.args.index live in
    let read = get_or-map (λ (n : Node g.row.K.Denot). n.next) c.unlink.new.nodes.items 0 c.index-2.result.now 4294967295 (omega (arith, r.place)) in
    let done = promoted_shown c.self.inside.nodes.items c.self.inside.last_freed c.self.inside.len c.self.invariant c.args.index live c.unlink.new.nodes.items
    (record { nexts_are = c.unlink.ensures.nexts; prevs_are = c.unlink.ensures.prevs; items_are = c.unlink.ensures.items })
    c.link_between.new.nodes.items c.index-2.result.now.next (ap (λ (n : Node g.row.K.Denot). n.next) c.index-2.ensures ∙ sym read)
    c.link_between.ensures.nexts c.link_between.ensures.prevs c.link_between.ensures.items in
    rw (← c.self.view_is) (record { promotes = done.is; numbered = numbered c.link_between.new.nodes.items c.self.inside.last_freed c.self.inside.len done.valid })

pub returns-then-index : goal.returns-then-index
returns-then-index g c =
    let live = subst (λ (l : Linked g.row.K.Denot). IsLive l c.args.index) (sym c.self.view_is) c.requires in
    let r = ranges c.self.inside.nodes.items c.self.inside.last_freed c.self.inside.len c.self.invariant c.args.index live in
    let read = get_or-map (λ (n : Node g.row.K.Denot). n.next) c.self.inside.nodes.items 0 c.index.result.now 4294967295 (omega (arith, r.place)) in
    rw (← c.self.view_is) (record {
      promotes = promoted_first c.self.inside.nodes.items c.self.inside.last_freed c.self.inside.len c.self.invariant c.args.index live
          (read ∙ sym (ap (λ (n : Node g.row.K.Denot). n.next) c.index.ensures) ∙ c.if-index.true);
      numbered = numbered c.self.inside.nodes.items c.self.inside.last_freed c.self.inside.len c.self.invariant;
    })
