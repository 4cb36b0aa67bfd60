use Rattle.lru_segmented.proofs.Seated.{seat_stands, value_is}
use Rattle.lru_segmented.proofs.seats.Seats.value_at.Goals as goal

pub value_at-requires : goal.value_at-requires
value_at-requires g c = seat_stands c.self.inside.rows.held c.self.inside.rows.hashes c.self.inside.boundary c.self.inside.weight c.self.inside.upper_weight c.self.inside.upper_len c.self.invariant c.args.self.now c.self.view_is c.args.place c.requires

pub returns : goal.returns
returns g c = value_is c.self.inside.rows.held c.self.inside.rows.hashes c.self.inside.boundary c.self.inside.weight c.self.inside.upper_weight c.self.inside.upper_len c.self.invariant c.args.self.now c.self.view_is c.args.place c.requires c.value_at.result.now c.value_at.ensures
