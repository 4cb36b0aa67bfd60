use Rattle.std.proofs.Common.{ap, ◌∙◌}
use Rattle.std.specs.Prelude.{map}
use Rattle.lru_segmented.specs.Representation.{bare}
use Rattle.lru_segmented.proofs.Seated.{shown_are}
use Rattle.lru_segmented.proofs.seats.Seats.entries.Goals as goal

pub returns : goal.returns
returns g c = ap (map bare) c.entries.ensures ∙ shown_are c.self.inside.rows.held c.self.inside.rows.hashes c.self.inside.boundary c.self.inside.weight c.self.inside.upper_weight c.self.inside.upper_len c.self.invariant c.args.self.now c.self.view_is
