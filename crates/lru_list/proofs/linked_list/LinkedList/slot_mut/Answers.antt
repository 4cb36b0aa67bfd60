use Rattle.std.proofs.Common.{Some, arith, ap, sym, ◌∙◌, refl, subst}
use Rattle.std.specs.Prelude.{is_some, ◌≡◌, true}
use Rattle.std.proofs.lemmas.List.{get_or-map}
use Rattle.std.proofs.lemmas.Option.{slice_get-get_or}
use Rattle.lru_list.specs.declared.linked_list.Node.{Node}
use Rattle.lru_list.specs.Linked.{Linked, item_at}
use Rattle.lru_list.specs.Representation.Nodes.{items}
use Rattle.lru_list.proofs.LinkedStates.{length-items}
use Rattle.lru_list.proofs.LinkedReads.{item_there}
use Rattle.lru_list.proofs.LinkedWrites.{slot_range, written_shown}
use Rattle.lru_list.proofs.linked_list.LinkedList.slot_mut.Goals as goal

pub index_mut-requires : goal.index_mut-requires
index_mut-requires g c =
    let there = subst (λ (l : Linked g.row.K.Denot). is_some (item_at l c.args.index) ≡ true) (sym c.self.view_is) c.requires in
    omega (arith, (slot_range c.self.inside.nodes.items c.self.inside.last_freed c.self.inside.len c.self.invariant c.args.index there).1)

pub invariant_of-self-lent : goal.invariant_of-self-lent
invariant_of-self-lent g c = λ w.
    let there = subst (λ (l : Linked g.row.K.Denot). is_some (item_at l c.args.index) ≡ true) (sym c.self.view_is) c.requires in
    let r = slot_range c.self.inside.nodes.items c.self.inside.last_freed c.self.inside.len c.self.invariant c.args.index there in
    (written_shown c.self.inside.nodes.items c.self.inside.last_freed c.self.inside.len c.self.invariant c.args.index c.index_mut.result.now w r.1 c.index_mut.ensures.value).valid

pub returns : goal.returns
returns g c =
    let there = subst (λ (l : Linked g.row.K.Denot). is_some (item_at l c.args.index) ≡ true) (sym c.self.view_is) c.requires in
    let r = slot_range c.self.inside.nodes.items c.self.inside.last_freed c.self.inside.len c.self.invariant c.args.index there in
    let item = λ (n : Node g.row.K.Denot). n.item in
    let read = get_or-map item c.self.inside.nodes.items c.args.index c.index_mut.result.now c.item_mut.result.now r.1 in
    let is : items c.self.inside.nodes.items ≡ items c.self.inside.nodes.items = refl in
    let found = slice_get-get_or (items c.self.inside.nodes.items) c.args.index c.item_mut.result.now (omega (arith, r.1, length-items c.self.inside.nodes.items))
    ∙ ap (λ x. Some x) (read ∙ ap item (sym c.index_mut.ensures.value) ∙ sym c.item_mut.ensures.value) in (
      (refl, λ w. rw (← c.self.view_is) ((written_shown c.self.inside.nodes.items c.self.inside.last_freed c.self.inside.len c.self.invariant c.args.index c.index_mut.result.now w r.1 c.index_mut.ensures.value).is)),
      record {
        writes_back = tt;
        value = rw (← c.self.view_is) (item_there c.self.inside.nodes.items c.self.inside.last_freed c.self.inside.len c.self.invariant c.args.index c.item_mut.result.now r.0 r.1 found);
      },
    )
