use Rattle.std.proofs.Common.{◌-◌, ap, ◌∙◌}
use Rattle.lru_index.proofs.Calls.{room_at}
use Rattle.lru_index.proofs.place_index.PlaceIndex.room.Goals as goal

pub returns : goal.returns
returns g c =
    let i = c.self.inside in
    ap (λ n. n - i.heads) (c.len.ensures ∙ i.cells.ok.0) ∙ room_at i.cells.items i.heads i.shift i.hash_builder c.self.invariant c.args.self.now c.self.view_is
