use Rattle.std.proofs.Common.{◌≡◌, ℕ, map, take}
use Rattle.trace_player_inside.specs.declared.player.Tally.{Tally}
use Rattle.trace_player_inside.proofs.one_pass.by_place.Given as goal

-- the limits up to here have theirs
abbrev pub invariant-loop-limit : goal.invariant-loop-limit
invariant-loop-limit l = (made : ℕ → Tally) → l.tallies ≡ map made l.sorted → l.answers.items ≡ map made (take l.limit-index l.limits)
