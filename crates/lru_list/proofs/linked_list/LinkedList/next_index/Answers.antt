use Rattle.std.proofs.Common.{arith, sym, subst, ap, ◌∙◌}
use Rattle.std.proofs.lemmas.List.{get_or-map}
use Rattle.lru_list.specs.declared.linked_list.Node.{Node}
use Rattle.lru_list.specs.Linked.{Linked, IsPlace}
use Rattle.lru_list.proofs.LinkedStates.{made_is}
use Rattle.lru_list.proofs.LinkedReads.{next_is}
use Rattle.lru_list.proofs.linked_list.LinkedList.next_index.Goals as goal

pub index-requires : goal.index-requires
index-requires g c =
    let place = subst (λ (l : Linked g.row.K.Denot). IsPlace l c.args.index) (sym c.self.view_is) c.requires in
    omega (arith, place, made_is c.self.inside.nodes.items c.self.inside.last_freed c.self.inside.len c.self.invariant)

pub returns : goal.returns
returns g c =
    let place = subst (λ (l : Linked g.row.K.Denot). IsPlace l c.args.index) (sym c.self.view_is) c.requires in
    let made = made_is c.self.inside.nodes.items c.self.inside.last_freed c.self.inside.len c.self.invariant in
    let next = λ (n : Node g.row.K.Denot). n.next in
    let read = get_or-map next c.self.inside.nodes.items c.args.index c.index.result.now 4294967295 (omega (arith, place, made)) in
    let is = next_is c.self.inside.nodes.items c.self.inside.last_freed c.self.inside.len c.self.invariant c.args.index (omega (arith, place, made)) in
    rw (← c.self.view_is) (ap next c.index.ensures ∙ sym read ∙ sym is)
