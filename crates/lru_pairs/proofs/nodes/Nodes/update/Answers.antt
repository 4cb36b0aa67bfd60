use Rattle.std.proofs.Common.{ap, sym, subst, get_or, ◌<◌, ◌∙◌, Some, refl, rules, ◌≡◌}
use Rattle.std.specs.Prelude.{is_some}
use Rattle.std.proofs.lemmas.Bool.{false≢true}
use Rattle.std.proofs.lemmas.Grind.{get_or_default_zero}
use Rattle.lru_list.specs.Linked.{with_item}
use Rattle.lru_rows.specs.Rows.{placed}
use Rattle.lru_rows.proofs.Listed.{some_of}
use Rattle.lru_pairs.specs.Representation.Nodes.{Laid}
use Rattle.lru_pairs.proofs.Laid.{node_there, slot_there}
use Rattle.lru_pairs.proofs.Seen.{node, row, weighed, held_entry, view_value, laid_well}
use Rattle.lru_pairs.proofs.nodes.Nodes.update.Goals as goal

pub index-weight-requires : goal.index-weight-requires
index-weight-requires g c = subst (λ n. c.args.place < n) (sym c.self.inside.weights.ok.0) (weighed c.self.inside.weights.items c.self.inside.list c.self.invariant c.args.self.now c.self.view_is c.args.place c.requires.at)

pub slot_mut-requires : goal.slot_mut-requires
slot_mut-requires g c =
    let s = node c.self.inside.weights.items c.self.inside.list c.self.invariant c.args.self.now c.self.view_is c.args.place c.requires.at in
    slot_there c.self.inside.list c.args.place s.pair s.found

pub unreachable-requires : goal.unreachable-requires
unreachable-requires g c =
    let s = node c.self.inside.weights.items c.self.inside.list c.self.invariant c.args.self.now c.self.view_is c.args.place c.requires.at in
    false≢true (ap is_some (sym c.in-None.is ∙ node_there c.self.inside.list c.args.place s.pair c.slot_mut.result.now s.found c.slot_mut.ensures.value))

pub invariant_of-self : goal.invariant_of-self
invariant_of-self g c = held_entry c.self.inside.weights.items c.self.inside.list c.self.invariant c.args.self.now c.self.view_is c.args.place c.requires.at c.in-Some.pair.0 c.update.new.arg2 (get_or c.self.inside.weights.items c.args.place 0) (with_item c.self.inside.list c.args.place (Some (c.in-Some.pair.0, c.update.new.arg2))) refl c.self.inside.weights.items refl refl (λ q ne. refl)

pub returns-clause-updates : goal.returns-clause-updates
returns-clause-updates g c =
    let s = node c.self.inside.weights.items c.self.inside.list c.self.invariant c.args.self.now c.self.view_is c.args.place c.requires.at in
    let pair : s.pair ≡ c.in-Some.pair = some_of s.pair c.in-Some.pair (sym (node_there c.self.inside.list c.args.place s.pair c.slot_mut.result.now s.found c.slot_mut.ensures.value) ∙ c.in-Some.is) in
    let weight = c.index-weight.ensures ∙ get_or_default_zero c.self.inside.weights.items c.args.place c.index-weight.result.now (weighed c.self.inside.weights.items c.self.inside.list c.self.invariant c.args.self.now c.self.view_is c.args.place c.requires.at) in (
      placed c.args.place c.in-Some.pair.0 c.in-Some.pair.1 c.index-weight.result.now,
      row c.self.inside.weights.items c.self.inside.list c.self.invariant c.args.self.now c.self.view_is c.args.place c.requires.at ∙ ap (λ x. Some (placed c.args.place x.0 x.1 (get_or c.self.inside.weights.items c.args.place 0))) pair
          ∙ ap (λ n. Some (placed c.args.place c.in-Some.pair.0 c.in-Some.pair.1 n)) (sym weight),
      c.update.new.arg2,
      search rules,
      ap (λ (x : Laid g.row.K.Denot g.row.V.Denot). x.held) (view_value c.self.inside.weights.items c.self.inside.list c.self.invariant c.args.self.now c.self.view_is c.args.place c.requires.at c.update.new.arg2 (with_item c.self.inside.list c.args.place (Some (c.in-Some.pair.0, c.update.new.arg2))) (ap (λ x. with_item c.self.inside.list c.args.place (Some (x.0, c.update.new.arg2))) (sym pair))),
    )

pub returns-clause-valid : goal.returns-clause-valid
returns-clause-valid g c = laid_well c.self.inside.weights.items (with_item c.self.inside.list c.args.place (Some (c.in-Some.pair.0, c.update.new.arg2))) (held_entry c.self.inside.weights.items c.self.inside.list c.self.invariant c.args.self.now c.self.view_is c.args.place c.requires.at c.in-Some.pair.0 c.update.new.arg2 (get_or c.self.inside.weights.items c.args.place 0) (with_item c.self.inside.list c.args.place (Some (c.in-Some.pair.0, c.update.new.arg2))) refl c.self.inside.weights.items refl refl (λ q ne. refl))
