-- The hits of a trace are no more than its requests.
use Rattle.std.proofs.Common.{ℕ, ◌+◌, ◌%◌, ◌^◌, ◌≤◌, List, [], ◌∷◌, length, arith}
use Rattle.std.specs.Prelude.{Bool, true, false, if◌then◌else◌}
use Rattle.lru_shard.specs.Row.{is_held}
use Rattle.trace_player_inside.specs.declared.player.Request.{Request}
use Rattle.trace_player_inside.specs.declared.player.Tally.{Tally}
use Rattle.trace_player_inside.specs.Traces.{Rows, kept_after, tally_after, played_on, played, no_tally}

remainder_le : (x : ℕ) → x % 2 ^ 64 ≤ x
remainder_le x = omega arith

hit_le : (t : ℕ) (hit : Bool) → (t + (if hit then 1 else 0)) % 2 ^ 64 ≤ t + 1
hit_le t true = remainder_le (t + 1)
hit_le t false = let small = remainder_le (t + 0) in omega arith

hits_on : (limit : ℕ) (rows : Rows) (t : Tally) (qs : List Request) → (played_on limit rows t qs).hits ≤ t.hits + length qs
hits_on limit rows t [] = omega arith
hits_on limit rows t (q ∷ qs) =
    let rest = hits_on limit (kept_after limit rows q) (tally_after limit rows q t) qs in
    let first = hit_le t.hits (is_held rows q.key) in
    omega (arith, rest, first)

pub hits_within : (limit : ℕ) (qs : List Request) → (played limit qs).hits ≤ length qs
hits_within limit qs = let all = hits_on limit [] no_tally qs in omega (arith, all)
