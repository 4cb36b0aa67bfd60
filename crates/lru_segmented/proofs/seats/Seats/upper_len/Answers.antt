use Rattle.lru_segmented.proofs.Seated.{upper_long}
use Rattle.lru_segmented.proofs.seats.Seats.upper_len.Goals as goal

pub returns : goal.returns
returns g c = upper_long c.self.inside.rows.held c.self.inside.rows.hashes c.self.inside.boundary c.self.inside.weight c.self.inside.upper_weight c.self.inside.upper_len c.self.invariant c.args.self.now c.self.view_is
