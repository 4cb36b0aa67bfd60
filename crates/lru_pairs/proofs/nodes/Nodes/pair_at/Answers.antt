use Rattle.std.proofs.Common.{ap, sym, ◌∙◌}
use Rattle.std.specs.Option.{option_map}
use Rattle.lru_rows.specs.Rows.{Placed}
use Rattle.lru_pairs.proofs.Laid.{node_there, slot_there}
use Rattle.lru_pairs.proofs.Seen.{node, row}
use Rattle.std.proofs.lemmas.Bool.{false≢true}
use Rattle.std.specs.Prelude.{is_some}
use Rattle.lru_pairs.proofs.nodes.Nodes.pair_at.Goals as goal

pub slot-requires : goal.slot-requires
slot-requires g c =
    let s = node c.self.inside.weights.items c.self.inside.list c.self.invariant c.args.self.now c.self.view_is c.args.place c.requires in
    slot_there c.self.inside.list c.args.place s.pair s.found

pub unreachable-requires : goal.unreachable-requires
unreachable-requires g c =
    let s = node c.self.inside.weights.items c.self.inside.list c.self.invariant c.args.self.now c.self.view_is c.args.place c.requires in
    false≢true (ap is_some (sym c.in-None.is ∙ node_there c.self.inside.list c.args.place s.pair c.slot.result.now s.found c.slot.ensures))

pub returns : goal.returns
returns g c =
    let s = node c.self.inside.weights.items c.self.inside.list c.self.invariant c.args.self.now c.self.view_is c.args.place c.requires in
    ap (option_map (λ (r : Placed g.row.K.Denot g.row.V.Denot). (r.key, r.value))) (row c.self.inside.weights.items c.self.inside.list c.self.invariant c.args.self.now c.self.view_is c.args.place c.requires)
    ∙ sym (node_there c.self.inside.list c.args.place s.pair c.slot.result.now s.found c.slot.ensures) ∙ c.in-Some.is
