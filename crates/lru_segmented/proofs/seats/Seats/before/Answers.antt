use Rattle.lru_segmented.proofs.Seated.{seat_stands, before_is}
use Rattle.lru_segmented.proofs.seats.Seats.before.Goals as goal

pub before-found-requires : goal.before-found-requires
before-found-requires g c = seat_stands c.self.inside.rows.held c.self.inside.rows.hashes c.self.inside.boundary c.self.inside.weight c.self.inside.upper_weight c.self.inside.upper_len c.self.invariant c.args.self.now c.self.view_is c.args.place c.requires

pub returns : goal.returns
returns g c = before_is c.self.inside.rows.held c.self.inside.rows.hashes c.self.inside.boundary c.self.inside.weight c.self.inside.upper_weight c.self.inside.upper_len c.self.invariant c.args.self.now c.self.view_is c.args.place c.before-found.result c.before-found.ensures
