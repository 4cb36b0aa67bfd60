use Rattle.lru_segmented.proofs.Seated.{finds, valid}
use Rattle.lru_segmented.proofs.seats.Seats.find_hashed.Goals as goal

pub returns-clause-finds : goal.returns-clause-finds
returns-clause-finds g c = finds c.self.inside.rows.held c.self.inside.rows.hashes c.self.inside.boundary c.self.inside.weight c.self.inside.upper_weight c.self.inside.upper_len c.self.invariant c.args.self.now c.self.view_is g.Q.Query.stands_for c.args.query c.find_hashed.result c.find_hashed.ensures.finds

pub returns-clause-valid : goal.returns-clause-valid
returns-clause-valid g c = valid c.self.inside.rows.held c.self.inside.rows.hashes c.self.inside.boundary c.self.inside.weight c.self.inside.upper_weight c.self.inside.upper_len c.self.invariant c.args.self.now c.self.view_is g.K.PartialEq.eq c.find_hashed.ensures.valid
