use Rattle.lru_segmented.proofs.Seated.{seat_stands, weight_is}
use Rattle.lru_segmented.proofs.seats.Seats.weight_at.Goals as goal

pub weight_at-requires : goal.weight_at-requires
weight_at-requires g c = seat_stands c.self.inside.rows.held c.self.inside.rows.hashes c.self.inside.boundary c.self.inside.weight c.self.inside.upper_weight c.self.inside.upper_len c.self.invariant c.args.self.now c.self.view_is c.args.place c.requires

pub returns : goal.returns
returns g c = weight_is c.self.inside.rows.held c.self.inside.rows.hashes c.self.inside.boundary c.self.inside.weight c.self.inside.upper_weight c.self.inside.upper_len c.self.invariant c.args.self.now c.self.view_is c.args.place c.requires c.weight_at.result c.weight_at.ensures
