use Rattle.std.proofs.Common.{ap, sym, get_or, ◌∙◌, Some, refl, ◌≡◌}
use Rattle.std.specs.Prelude.{is_some}
use Rattle.std.specs.Option.{option_map}
use Rattle.std.proofs.lemmas.Bool.{false≢true}
use Rattle.lru_list.specs.Linked.{with_item}
use Rattle.lru_rows.proofs.Listed.{some_of}
use Rattle.lru_pairs.proofs.Laid.{node_there, slot_there}
use Rattle.lru_pairs.proofs.Seen.{node, row, held_entry, view_value}
use Rattle.lru_pairs.proofs.nodes.Nodes.value_mut.Goals as goal

pub slot_mut-requires : goal.slot_mut-requires
slot_mut-requires g c =
    let s = node c.self.inside.weights.items c.self.inside.list c.self.invariant c.args.self.now c.self.view_is c.args.place c.requires in
    slot_there c.self.inside.list c.args.place s.pair s.found

pub unreachable-requires : goal.unreachable-requires
unreachable-requires g c =
    let s = node c.self.inside.weights.items c.self.inside.list c.self.invariant c.args.self.now c.self.view_is c.args.place c.requires in
    false≢true (ap is_some (sym c.in-None.is ∙ node_there c.self.inside.list c.args.place s.pair c.slot_mut.result.now s.found c.slot_mut.ensures.value))

pub invariant_of-self-lent : goal.invariant_of-self-lent
invariant_of-self-lent g c = λ w. rw c.in-Some.is (held_entry c.self.inside.weights.items c.self.inside.list c.self.invariant c.args.self.now c.self.view_is c.args.place c.requires c.in-Some.pair.0 w (get_or c.self.inside.weights.items c.args.place 0) (with_item c.self.inside.list c.args.place (Some (c.in-Some.pair.0, w))) refl c.self.inside.weights.items refl refl (λ q ne. refl))

pub returns : goal.returns
returns g c =
    let s = node c.self.inside.weights.items c.self.inside.list c.self.invariant c.args.self.now c.self.view_is c.args.place c.requires in
    let pair : s.pair ≡ c.in-Some.pair = some_of s.pair c.in-Some.pair (sym (node_there c.self.inside.list c.args.place s.pair c.slot_mut.result.now s.found c.slot_mut.ensures.value) ∙ c.in-Some.is) in (
      (refl, λ w. rw c.in-Some.is (view_value c.self.inside.weights.items c.self.inside.list c.self.invariant c.args.self.now c.self.view_is c.args.place c.requires w (with_item c.self.inside.list c.args.place (Some (c.in-Some.pair.0, w))) (ap (λ x. with_item c.self.inside.list c.args.place (Some (x.0, w))) (sym pair)))),
      record {
        writes_back = tt;
        value = rw c.in-Some.is (ap (option_map (λ r. r.value)) (row c.self.inside.weights.items c.self.inside.list c.self.invariant c.args.self.now c.self.view_is c.args.place c.requires) ∙ ap (λ x. Some x.1) pair);
      },
    )
