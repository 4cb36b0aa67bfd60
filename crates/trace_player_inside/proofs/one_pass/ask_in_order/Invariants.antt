use Rattle.std.proofs.Common.{◌≡◌, ◌++◌, map, take, drop}
use Rattle.trace_player_inside.specs.Representation.Windows.{window_after, asked}
use Rattle.trace_player_inside.proofs.one_pass.ask_in_order.Given as goal

-- those up to here are asked, and what is to come of all is what comes of those from here on
abbrev pub invariant-loop-window : goal.invariant-loop-window
invariant-loop-window l = record {
  now : l.windows ≡ map (window_after l.previous l.is_last) (take l.window-index l.initial.windows) ++ drop l.window-index l.initial.windows;
  asks : asked l.previous l.is_last l.initial.windows ≡ map (window_after l.previous l.is_last) (take l.window-index l.initial.windows) ++ asked l.previous l.is_last (drop l.window-index l.initial.windows);
}
