use Rattle.std.proofs.Common.{set, subst, sym, ◌<◌, refl}
use Rattle.lru_pairs.proofs.Seen.{weighed, held_weight, view_weight, laid_well}
use Rattle.lru_pairs.proofs.nodes.Nodes.set_weight.Goals as goal

pub index_mut-requires : goal.index_mut-requires
index_mut-requires g c = subst (λ n. c.args.place < n) (sym c.self.inside.weights.ok.0) (weighed c.self.inside.weights.items c.self.inside.list c.self.invariant c.args.self.now c.self.view_is c.args.place c.requires)

pub returns-clause-rows : goal.returns-clause-rows
returns-clause-rows g c = view_weight c.self.inside.weights.items c.self.inside.list c.self.invariant c.args.self.now c.self.view_is c.args.place c.requires c.args.weight (set c.self.inside.weights.items c.args.place c.args.weight) refl

pub returns-clause-valid : goal.returns-clause-valid
returns-clause-valid g c = laid_well (set c.self.inside.weights.items c.args.place c.args.weight) c.self.inside.list (held_weight c.self.inside.weights.items c.self.inside.list c.self.invariant c.args.self.now c.self.view_is c.args.place c.requires c.args.weight (set c.self.inside.weights.items c.args.place c.args.weight) refl)
