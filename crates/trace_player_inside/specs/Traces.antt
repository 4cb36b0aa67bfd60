-- What a cache under a limit makes of a trace of requests: which objects it keeps, and the tally.
use Rattle.std.specs.Prelude.{◌≡◌, ◌==◌, ◌≤◌, ℕ, suc, false, Option, Some, None, option_map, ◌+◌, ◌-◌, ◌%◌, ◌^◌, max, List, [], ◌∷◌, length, nat_le, nat_lt, Bool, if◌then◌else◌}
use Rattle.std.specs.List.{All}
use Rattle.lru_list.specs.Linked.{most_items}
use Rattle.lru_shard.specs.Row.{Row, row, is_held, without, with_first}
use Rattle.lru_shard.specs.declared.unit.Cause.{Cause}
use Rattle.lru_shard.specs.declared.unit.Cause.TheVariants.{Memory, Weight, Length}
use Rattle.trace_player_inside.specs.declared.player.Request.{Request}
use Rattle.trace_player_inside.specs.declared.player.Tally.{Tally}

-- objects have no data here
abbrev pub Rows : Type 0
Rows = List (Row (Unit {0}))

-- each object has the size 1
abbrev pub AreOfSizeOne : List Request → Type 0
AreOfSizeOne qs = All (λ q. q.size ≡ 1) qs

-- what an object of a request weighs
abbrev pub load : Request → ℕ
load q = max q.size 1

-- the longest front of a list of rows that weighs no more than the limit
abbrev pub front : ℕ → Rows → Rows
front limit [] = []
front limit (r ∷ rest) = if nat_le r.weight limit then r ∷ front (limit - r.weight) rest else []

-- the rows once the object is let in, most recent first
abbrev pub let_in : Rows → Request → Rows
let_in rows q = with_first rows (row q.key tt (load q))

-- after a request the cache keeps its object and as many of those used before as fit. An object that never fits goes
abbrev pub kept_after : ℕ → Rows → Request → Rows
kept_after limit rows q = if nat_lt limit (load q) then without rows q.key else front limit (let_in rows q)

-- how many it evicts
abbrev pub evicted_by : ℕ → Rows → Request → ℕ
evicted_by limit rows q = if nat_lt limit (load q) then 0 else length (let_in rows q) - length (front limit (let_in rows q))

abbrev pub no_tally : Tally
no_tally = record { requests = 0; hits = 0; bytes = 0; hit_bytes = 0; evictions = 0 }

-- the tally with one request more, that found its object or did not
abbrev pub counted : Tally → Bool → ℕ → ℕ → Tally
counted t hit size gone = record {
  requests = (t.requests + 1) % 2 ^ 64;
  hits = (t.hits + (if hit then 1 else 0)) % 2 ^ 64;
  bytes = (t.bytes + size) % 2 ^ 64;
  hit_bytes = (t.hit_bytes + (if hit then size else 0)) % 2 ^ 64;
  evictions = (t.evictions + gone) % 2 ^ 64;
}

abbrev pub tally_after : ℕ → Rows → Request → Tally → Tally
tally_after limit rows q t = counted t (is_held rows q.key) q.size (evicted_by limit rows q)

-- the tally of a trace, from these rows and this tally on
abbrev pub played_on : ℕ → Rows → Tally → List Request → Tally
played_on limit rows t [] = t
played_on limit rows t (q ∷ qs) = played_on limit (kept_after limit rows q) (tally_after limit rows q t) qs

-- the tally of a trace by a cache that is empty at first
abbrev pub played : ℕ → List Request → Tally
played limit qs = played_on limit [] no_tally qs

-- why a trace may be refused under a limit: want of memory, or a limit that is beyond a shard. For Length that is one of as
-- many objects as a shard has places for, for Weight one that is half of all weights: an object is let in before others go
abbrev pub MayRefuseUnder : ℕ → Cause → Type 0
MayRefuseUnder limit Memory = Unit {0}
MayRefuseUnder limit Weight = 2 ^ 63 ≤ limit
MayRefuseUnder limit Length = most_items ≤ limit

-- Distances. They say what a hit is where every object has the size 1.

-- how many others were used since the last use of a key, where the objects stand in the order of use
abbrev pub distance : Rows → ℕ → Option ℕ
distance [] k = None
distance (r ∷ rows) k = if r.key == k then Some 0 else option_map (λ n. suc n) (distance rows k)

-- whether that is fewer than the limit
abbrev pub is_near : ℕ → Option ℕ → Bool
is_near limit None = false
is_near limit (Some n) = nat_lt n limit

-- of how many requests it is, with the objects used before
abbrev pub near_on : ℕ → Rows → List Request → ℕ
near_on limit rows [] = 0
near_on limit rows (q ∷ qs) = (if is_near limit (distance rows q.key) then 1 else 0) + near_on limit (let_in rows q) qs

-- of how many requests of a trace fewer other objects than the limit were used since the last request for its key
abbrev pub near : ℕ → List Request → ℕ
near limit qs = near_on limit [] qs
