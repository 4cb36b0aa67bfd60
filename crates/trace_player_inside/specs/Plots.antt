-- What a plot draws.
use Rattle.trace_player_inside.specs.declared.plot.CountedUnit.{CountedUnit}
use Rattle.trace_player_inside.specs.declared.plot.Plot.{Plot}

-- what its limits and sizes count
abbrev pub unit_of : Plot → CountedUnit
unit_of plot = plot.counted
