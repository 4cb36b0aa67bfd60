use Rattle.std.proofs.Common.{◌∙◌}
use Rattle.std.specs.List.{zip}
use Rattle.lru_actors.proofs.Listing.{zip_listed}
use Rattle.lru_actors.proofs.state.ShardState.iter.Goals as goal

pub returns : goal.returns
returns g c = rw (← c.self.view_is) ((λ i. zip (c.keys.ensures i) (c.iter.ensures i)) ∙ zip_listed c.self.inside.unit.rows)
