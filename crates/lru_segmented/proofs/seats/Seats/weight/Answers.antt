use Rattle.lru_segmented.proofs.Seated.{weighs}
use Rattle.lru_segmented.proofs.seats.Seats.weight.Goals as goal

pub returns : goal.returns
returns g c = weighs c.self.inside.rows.held c.self.inside.rows.hashes c.self.inside.boundary c.self.inside.weight c.self.inside.upper_weight c.self.inside.upper_len c.self.invariant c.args.self.now c.self.view_is
