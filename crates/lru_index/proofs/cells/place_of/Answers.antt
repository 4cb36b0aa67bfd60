use Rattle.lru_index.proofs.Scales.{power_some, masked}
use Rattle.lru_index.proofs.cells.place_of.Goals as goal

pub mask_of-requires-clause-some : goal.mask_of-requires-clause-some
mask_of-requires-clause-some c = power_some c.args.heads c.requires.scale

pub returns : goal.returns
returns c = masked c.args.heads c.requires.scale c.args.cell c.mask_of.result c.mask_of.ensures
