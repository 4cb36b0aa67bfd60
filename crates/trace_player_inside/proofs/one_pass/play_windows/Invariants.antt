use Rattle.std.proofs.Common.{◌≡◌, ℕ, List, map, take}
use Rattle.std.specs.List.Sorted.{IsNonDecreasing}
use Rattle.trace_player_inside.specs.Representation.Windows.{place_of, empty_window, summed}
use Rattle.trace_player_inside.proofs.Places.{Noted}
use Rattle.trace_player_inside.proofs.Windows.{ServeAll}
use Rattle.trace_player_inside.proofs.Order.{limits_of}
use Rattle.trace_player_inside.proofs.one_pass.play_windows.Given as goal

-- what is known is that of the requests so far
abbrev pub invariant-loop-request : goal.invariant-loop-request
invariant-loop-request l = record {
  noted : Noted (place_of l.places) l.is_last.items (take l.request-index l.requests);
  windows : (limits : List ℕ) → l.fn.windows ≡ map empty_window limits → IsNonDecreasing limits → ServeAll (take l.request-index l.requests) (summed 0 l.windows) × (limits_of l.windows ≡ limits);
}
