use Rattle.lru_segmented.proofs.Seated.{seat_stands, key_is}
use Rattle.lru_segmented.proofs.seats.Seats.key_at.Goals as goal

pub key_at-requires : goal.key_at-requires
key_at-requires g c = seat_stands c.self.inside.rows.held c.self.inside.rows.hashes c.self.inside.boundary c.self.inside.weight c.self.inside.upper_weight c.self.inside.upper_len c.self.invariant c.args.self.now c.self.view_is c.args.place c.requires

pub returns : goal.returns
returns g c = key_is c.self.inside.rows.held c.self.inside.rows.hashes c.self.inside.boundary c.self.inside.weight c.self.inside.upper_weight c.self.inside.upper_len c.self.invariant c.args.self.now c.self.view_is c.args.place c.requires c.key_at.result.now c.key_at.ensures
