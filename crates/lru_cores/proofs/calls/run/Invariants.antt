use Rattle.std.proofs.Common.{◌≡◌, ◌+◌, ◌≤◌, ◌++◌, List, length}
use Rattle.std.specs.Prelude.{All, vec_len, vec_capacity}
use Rattle.std.specs.Vec.Iter.{into_iter_items, into_iter_len}
use Rattle.lru_cores.specs.declared.calls.Call.{Call}
use Rattle.lru_cores.specs.Calls.{IsAllowed, Run}
use Rattle.lru_cores.proofs.calls.run.Given as goal

-- the calls done so far are a run, and each reply that is still to come has its room
abbrev pub invariant-loop-call : goal.invariant-loop-call
invariant-loop-call g l =
    ((calls : List (Call g.row.T.Denot)) × ((calls ++ into_iter_items l.rest ≡ l.fn.calls.items) × Run l.fn.core (g.R.Rng.stream l.fn.rng) calls l.replies.items l.core (g.R.Rng.stream l.rng)))
    × (All (IsAllowed g.row.N) (into_iter_items l.rest)
    × ((vec_len l.replies + length (into_iter_items l.rest) ≤ vec_capacity l.replies) × (length (into_iter_items l.rest) ≡ into_iter_len l.rest)))

abbrev pub decreases-loop-call : goal.decreases-loop-call
decreases-loop-call g l = length (into_iter_items l.rest)
