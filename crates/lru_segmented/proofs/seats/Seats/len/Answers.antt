use Rattle.lru_segmented.proofs.Seated.{len_is, valid}
use Rattle.lru_segmented.proofs.seats.Seats.len.Goals as goal

pub returns-clause-value : goal.returns-clause-value
returns-clause-value g c = len_is c.self.inside.rows.held c.self.inside.rows.hashes c.self.inside.boundary c.self.inside.weight c.self.inside.upper_weight c.self.inside.upper_len c.self.invariant c.args.self.now c.self.view_is c.len.result c.len.ensures.value

pub returns-clause-valid : goal.returns-clause-valid
returns-clause-valid g c = valid c.self.inside.rows.held c.self.inside.rows.hashes c.self.inside.boundary c.self.inside.weight c.self.inside.upper_weight c.self.inside.upper_len c.self.invariant c.args.self.now c.self.view_is g.K.PartialEq.eq c.len.ensures.valid
