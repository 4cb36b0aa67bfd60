use Rattle.std.proofs.Common.{◌≡◌, ◌++◌, map, drop}
use Rattle.trace_player_inside.specs.Representation.Windows.{tally_of, summed}
use Rattle.trace_player_inside.proofs.one_pass.tallies_of.Given as goal

-- what is made, and what is to come of the windows from here on
abbrev pub invariant-loop-window : goal.invariant-loop-window
invariant-loop-window l = map (tally_of l.requests) (summed 0 l.windows) ≡ l.tallies.items ++ map (tally_of l.requests) (summed l.hits (drop l.window-index l.windows))
