use Rattle.std.proofs.Common.{ap, sym, subst, ◌<◌, ◌∙◌, Some}
use Rattle.std.specs.Option.{option_map}
use Rattle.std.proofs.lemmas.Grind.{get_or_default_zero}
use Rattle.lru_rows.specs.Rows.{Placed}
use Rattle.lru_pairs.proofs.Seen.{weighed, row}
use Rattle.lru_pairs.proofs.nodes.Nodes.weight_at.Goals as goal

pub index-requires : goal.index-requires
index-requires g c = subst (λ n. c.args.place < n) (sym c.self.inside.weights.ok.0) (weighed c.self.inside.weights.items c.self.inside.list c.self.invariant c.args.self.now c.self.view_is c.args.place c.requires)

pub returns : goal.returns
returns g c =
    ap (option_map (λ (r : Placed g.row.K.Denot g.row.V.Denot). r.weight)) (row c.self.inside.weights.items c.self.inside.list c.self.invariant c.args.self.now c.self.view_is c.args.place c.requires)
    ∙ ap Some (sym (c.index.ensures ∙ get_or_default_zero c.self.inside.weights.items c.args.place c.index.result.now (weighed c.self.inside.weights.items c.self.inside.list c.self.invariant c.args.self.now c.self.view_is c.args.place c.requires)))
