use Rattle.lru_segmented.proofs.Seated.{first_is, valid}
use Rattle.lru_segmented.proofs.seats.Seats.first.Goals as goal

pub returns-clause-place : goal.returns-clause-place
returns-clause-place g c = first_is c.self.inside.rows.held c.self.inside.rows.hashes c.self.inside.boundary c.self.inside.weight c.self.inside.upper_weight c.self.inside.upper_len c.self.invariant c.args.self.now c.self.view_is c.first.result c.first.ensures.place

pub returns-clause-valid : goal.returns-clause-valid
returns-clause-valid g c = valid c.self.inside.rows.held c.self.inside.rows.hashes c.self.inside.boundary c.self.inside.weight c.self.inside.upper_weight c.self.inside.upper_len c.self.invariant c.args.self.now c.self.view_is g.K.PartialEq.eq c.first.ensures.valid
