use Rattle.std.proofs.Common.{ap, ◌+◌, ◌∙◌, length}
use Rattle.std.specs.Prelude.{nat_lt}
use Rattle.lru_pairs.proofs.Seen.{len_is, room_is}
use Rattle.lru_pairs.proofs.nodes.Nodes.has_room.Goals as goal

pub returns : goal.returns
returns g c =
    ap (λ n. nat_lt (n + 2) c.len-2.result) (len_is c.self.inside.weights.items c.self.inside.list c.self.invariant c.args.self.now c.self.view_is c.len.result c.len.ensures.len)
    ∙ ap (λ n. nat_lt (length c.args.self.now.held.rows + 2) n) (c.len-2.ensures ∙ c.self.inside.weights.ok.0 ∙ room_is c.self.inside.weights.items c.self.inside.list c.self.invariant c.args.self.now c.self.view_is)
