use Rattle.std.proofs.Common.{ap, sym, subst, ◌<◌, ◌∙◌}
use Rattle.std.specs.Prelude.{is_some}
use Rattle.std.proofs.lemmas.Bool.{false≢true}
use Rattle.std.proofs.lemmas.Grind.{get_or_default_zero}
use Rattle.lru_pairs.proofs.Seen.{live, weighed, node_is, held_out, view_out, taken_is, laid_well}
use Rattle.lru_pairs.proofs.nodes.Nodes.take.Goals as goal

pub index-weight-requires : goal.index-weight-requires
index-weight-requires g c = subst (λ n. c.args.place < n) (sym c.self.inside.weights.ok.0) (weighed c.self.inside.weights.items c.self.inside.list c.self.invariant c.args.self.now c.self.view_is c.args.place c.requires)

pub remove-requires : goal.remove-requires
remove-requires g c = live c.self.inside.weights.items c.self.inside.list c.self.invariant c.args.self.now c.self.view_is c.args.place c.requires

pub unreachable-requires : goal.unreachable-requires
unreachable-requires g c = false≢true (ap is_some (sym c.in-None.is ∙ node_is c.self.inside.weights.items c.self.inside.list c.self.invariant c.args.self.now c.self.view_is c.args.place c.requires _ c.remove.result c.remove.new.self c.remove.ensures.removes c.remove.ensures.numbered))

pub invariant_of-self : goal.invariant_of-self
invariant_of-self g c = held_out c.self.inside.weights.items c.self.inside.list c.self.invariant c.args.self.now c.self.view_is c.args.place c.requires _ c.remove.result c.remove.new.self c.remove.ensures.removes c.remove.ensures.numbered

pub returns-clause-taken : goal.returns-clause-taken
returns-clause-taken g c =
    taken_is c.self.inside.weights.items c.self.inside.list c.self.invariant c.args.self.now c.self.view_is c.args.place c.requires (c.in-Some.key, c.in-Some.value)
    (sym (node_is c.self.inside.weights.items c.self.inside.list c.self.invariant c.args.self.now c.self.view_is c.args.place c.requires _ c.remove.result c.remove.new.self c.remove.ensures.removes c.remove.ensures.numbered) ∙ c.in-Some.is)
    c.index-weight.result.now (c.index-weight.ensures ∙ get_or_default_zero c.self.inside.weights.items c.args.place c.index-weight.result.now (weighed c.self.inside.weights.items c.self.inside.list c.self.invariant c.args.self.now c.self.view_is c.args.place c.requires))

pub returns-clause-rows : goal.returns-clause-rows
returns-clause-rows g c = view_out c.self.inside.weights.items c.self.inside.list c.self.invariant c.args.self.now c.self.view_is c.args.place c.requires _ c.remove.result c.remove.new.self c.remove.ensures.removes c.remove.ensures.numbered

pub returns-clause-valid : goal.returns-clause-valid
returns-clause-valid g c = laid_well c.self.inside.weights.items c.remove.new.self (held_out c.self.inside.weights.items c.self.inside.list c.self.invariant c.args.self.now c.self.view_is c.args.place c.requires _ c.remove.result c.remove.new.self c.remove.ensures.removes c.remove.ensures.numbered)
