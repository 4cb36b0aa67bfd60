use Rattle.lru_segmented.proofs.Seated.{last_is, valid}
use Rattle.lru_segmented.proofs.seats.Seats.last.Goals as goal

pub returns-clause-place : goal.returns-clause-place
returns-clause-place g c = last_is c.self.inside.rows.held c.self.inside.rows.hashes c.self.inside.boundary c.self.inside.weight c.self.inside.upper_weight c.self.inside.upper_len c.self.invariant c.args.self.now c.self.view_is c.last.result c.last.ensures.place

pub returns-clause-valid : goal.returns-clause-valid
returns-clause-valid g c = valid c.self.inside.rows.held c.self.inside.rows.hashes c.self.inside.boundary c.self.inside.weight c.self.inside.upper_weight c.self.inside.upper_len c.self.invariant c.args.self.now c.self.view_is g.K.PartialEq.eq c.last.ensures.valid
