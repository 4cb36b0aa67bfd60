use Rattle.std.proofs.Common.{length}
use Rattle.lru_index.specs.Representation.Cells.{at, places_in, rest_of}
use Rattle.lru_index.specs.Representation.Walks.{Walks}
use Rattle.lru_index.proofs.cells.cell_of.Given as goal

abbrev pub invariant-loop-cell : goal.invariant-loop-cell
invariant-loop-cell g l = Walks g.Q.Query.stands_for (g.T.Keys.key_of l.keys) l.query (places_in l.cells l.heads) l.heads l.home l.cell

abbrev pub decreases-loop-cell : goal.decreases-loop-cell
decreases-loop-cell g l = length (rest_of (places_in l.cells l.heads) l.heads (at (places_in l.cells l.heads) l.cell))
