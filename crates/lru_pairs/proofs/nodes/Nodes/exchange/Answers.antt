use Rattle.std.proofs.Common.{ap, sym, subst, refl, ◌<◌, ◌∙◌}
use Rattle.std.specs.Prelude.{is_some}
use Rattle.std.proofs.lemmas.Bool.{false≢true}
use Rattle.std.proofs.lemmas.Grind.{get_or_default_zero}
use Rattle.lru_list.specs.Linked.{with_item}
use Rattle.lru_pairs.proofs.Laid.{node_there, slot_there}
use Rattle.lru_pairs.proofs.Seen.{node, weighed, held_entry, view_entry, taken_is, laid_well}
use Rattle.lru_pairs.proofs.nodes.Nodes.exchange.Goals as goal

pub index-weight-requires : goal.index-weight-requires
index-weight-requires g c = subst (λ n. c.args.place < n) (sym c.self.inside.weights.ok.0) (weighed c.self.inside.weights.items c.self.inside.list c.self.invariant c.args.self.now c.self.view_is c.args.place c.requires)

pub slot_mut-requires : goal.slot_mut-requires
slot_mut-requires g c =
    let s = node c.self.inside.weights.items c.self.inside.list c.self.invariant c.args.self.now c.self.view_is c.args.place c.requires in
    slot_there c.self.inside.list c.args.place s.pair s.found

pub unreachable-requires : goal.unreachable-requires
unreachable-requires g c =
    let s = node c.self.inside.weights.items c.self.inside.list c.self.invariant c.args.self.now c.self.view_is c.args.place c.requires in
    false≢true (ap is_some (sym c.in-None.is ∙ c.replace.ensures.value ∙ node_there c.self.inside.list c.args.place s.pair c.slot_mut.result.now s.found c.slot_mut.ensures.value))

pub invariant_of-self : goal.invariant_of-self
invariant_of-self g c = held_entry c.self.inside.weights.items c.self.inside.list c.self.invariant c.args.self.now c.self.view_is c.args.place c.requires c.args.key c.args.value c.index-weight.result.now (with_item c.self.inside.list c.args.place c.replace.new.self) (ap (with_item c.self.inside.list c.args.place) c.replace.ensures.after) c.self.inside.weights.items refl
    (sym (c.index-weight.ensures ∙ get_or_default_zero c.self.inside.weights.items c.args.place c.index-weight.result.now (weighed c.self.inside.weights.items c.self.inside.list c.self.invariant c.args.self.now c.self.view_is c.args.place c.requires))) (λ q ne. refl)

pub returns-clause-taken : goal.returns-clause-taken
returns-clause-taken g c =
    let s = node c.self.inside.weights.items c.self.inside.list c.self.invariant c.args.self.now c.self.view_is c.args.place c.requires in
    taken_is c.self.inside.weights.items c.self.inside.list c.self.invariant c.args.self.now c.self.view_is c.args.place c.requires (c.in-Some.key, c.in-Some.value)
    (sym (c.replace.ensures.value ∙ node_there c.self.inside.list c.args.place s.pair c.slot_mut.result.now s.found c.slot_mut.ensures.value) ∙ c.in-Some.is)
    c.index-weight.result.now (c.index-weight.ensures ∙ get_or_default_zero c.self.inside.weights.items c.args.place c.index-weight.result.now (weighed c.self.inside.weights.items c.self.inside.list c.self.invariant c.args.self.now c.self.view_is c.args.place c.requires))

pub returns-clause-rows : goal.returns-clause-rows
returns-clause-rows g c =
    view_entry c.self.inside.weights.items c.self.inside.list c.self.invariant c.args.self.now c.self.view_is c.args.place c.requires c.args.key c.args.value c.index-weight.result.now (with_item c.self.inside.list c.args.place c.replace.new.self) (ap (with_item c.self.inside.list c.args.place) c.replace.ensures.after) c.self.inside.weights.items refl
    (sym (c.index-weight.ensures ∙ get_or_default_zero c.self.inside.weights.items c.args.place c.index-weight.result.now (weighed c.self.inside.weights.items c.self.inside.list c.self.invariant c.args.self.now c.self.view_is c.args.place c.requires))) (λ q ne. refl)

pub returns-clause-valid : goal.returns-clause-valid
returns-clause-valid g c =
    laid_well c.self.inside.weights.items (with_item c.self.inside.list c.args.place c.replace.new.self)
    (held_entry c.self.inside.weights.items c.self.inside.list c.self.invariant c.args.self.now c.self.view_is c.args.place c.requires c.args.key c.args.value c.index-weight.result.now (with_item c.self.inside.list c.args.place c.replace.new.self) (ap (with_item c.self.inside.list c.args.place) c.replace.ensures.after) c.self.inside.weights.items refl
    (sym (c.index-weight.ensures ∙ get_or_default_zero c.self.inside.weights.items c.args.place c.index-weight.result.now (weighed c.self.inside.weights.items c.self.inside.list c.self.invariant c.args.self.now c.self.view_is c.args.place c.requires))) (λ q ne. refl))
