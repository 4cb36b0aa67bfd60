use Rattle.std.proofs.Common.{◌≡◌, ℕ, ◌<◌, Bool, true, false, List, ◌++◌, length, map, take, drop, ap, ◌∙◌, sym, arith}
use Rattle.std.proofs.lemmas.Bool.{lt-ltb, le-ltb}
use Rattle.std.specs.Prelude.{nat_lt, get_or}
use Rattle.trace_player_inside.specs.declared.one_pass.Window.{Window}
use Rattle.trace_player_inside.specs.Representation.Windows.{window_after}
use Rattle.trace_player_inside.proofs.Windows.{changed_more}
use Rattle.trace_player_inside.proofs.Order.{same_at, asked_on, asked_found}
use Rattle.trace_player_inside.proofs.one_pass.ask_in_order.Goals as goal

abbrev none : Window
none = record { limit = 0; start = 0; held = 0; hits = 0; evictions = 0 }

-- what is known of the window that is asked is so of the one that stood there at first
there : (previous : ℕ) (bs : List Bool) (ws now : List Window) (place : ℕ) (b : Bool) → place < length ws → now ≡ map (window_after previous bs) (take place ws) ++ drop place ws
    → nat_lt (get_or now place none).start previous ≡ b → nat_lt (get_or ws place none).start previous ≡ b
there previous bs ws now place b h is e = ap (λ (w : Window). nat_lt w.start previous) (sym (same_at previous bs ws now place none h is)) ∙ e

pub loop-window-preserved : goal.loop-window-preserved
loop-window-preserved c =
    let ws = c.args.windows.now in
    let now = c.loop-window.windows in
    let place = c.loop-window.window-index in
    let previous = c.args.previous in
    let bs = c.args.is_last.now in
    let in_range : place < length ws = omega (arith, c.loop-window-test.true) in
    let inv = c.loop-window.invariant in
    let miss : nat_lt (get_or now place none).start previous ≡ false = le-ltb (get_or now place none).start previous (omega (arith, c.if-is_found.false)) in
    record {
      now = changed_more (window_after previous bs) ws now place none c.ask.new.self in_range inv.now c.ask.ensures;
      asks = asked_on previous bs ws place none in_range (there previous bs ws now place false in_range inv.now miss) inv.asks;
    }

pub returns-then-is_found : goal.returns-then-is_found
returns-then-is_found c =
    let ws = c.args.windows.now in
    let now = c.loop-window.windows in
    let place = c.loop-window.window-index in
    let previous = c.args.previous in
    let bs = c.args.is_last.now in
    let in_range : place < length ws = omega (arith, c.loop-window-test.true) in
    let inv = c.loop-window.invariant in
    let hit : nat_lt (get_or now place none).start previous ≡ true = lt-ltb (get_or now place none).start previous (omega (arith, c.if-is_found.true)) in
    changed_more (window_after previous bs) ws now place none c.ask.new.self in_range inv.now c.ask.ensures
    ∙ sym (asked_found previous bs ws place none in_range (there previous bs ws now place true in_range inv.now hit) inv.asks)
