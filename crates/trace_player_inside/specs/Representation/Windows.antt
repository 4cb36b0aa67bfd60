-- Windows over a trace of requests for objects of size 1: each has the requests from a place on, up to the last one.
use Rattle.std.specs.Prelude.{ℕ, ◌+◌, ◌%◌, ◌^◌, ◌==◌, min, not, Bool, true, false, suc, List, [], ◌∷◌, ◌++◌, drop, set, nat_eq, nat_lt, if◌then◌else◌, Option, Some, None, option_map}
use Rattle.std.specs.List.{list_any}
use Rattle.lru_rows.specs.Rows.{Recency, row_of}
use Rattle.trace_player_inside.specs.declared.player.Request.{Request}
use Rattle.trace_player_inside.specs.declared.player.Tally.{Tally}
use Rattle.trace_player_inside.specs.declared.one_pass.Window.{Window}

-- whether a key is asked for
abbrev pub is_asked : ℕ → List Request → Bool
is_asked k qs = list_any (λ q. q.key == k) qs

-- of each request, whether it is the last for its key
abbrev pub last_ones : List Request → List Bool
last_ones [] = []
last_ones (q ∷ qs) = not (is_asked q.key qs) ∷ last_ones qs

-- a place in a list, once something stands before it; and the first place, if there is something
abbrev pub moved_on : Option ℕ → Bool → Option ℕ
moved_on (Some place) here = Some (suc place)
moved_on None here = if here then Some 0 else None

-- the place of the last request for a key
abbrev pub last_place : ℕ → List Request → Option ℕ
last_place k [] = None
last_place k (q ∷ qs) = moved_on (last_place k qs) (q.key == k)

-- the place that is noted under a key
abbrev pub place_of : Recency ℕ ℕ → ℕ → Option ℕ
place_of noted k = option_map (λ r. r.value) (row_of nat_eq noted.rows k)

-- the place behind a place, or 0
abbrev pub after : Option ℕ → ℕ
after (Some place) = place + 1
after None = 0

-- which requests are the last for their keys, with one request more, whose key was asked for at a place before
abbrev pub with_request : Option ℕ → List Bool → List Bool
with_request (Some place) bs = set bs place false ++ true ∷ []
with_request None bs = bs ++ true ∷ []

-- how many stand up to the first that is true
abbrev pub oldest : List Bool → ℕ
oldest [] = 0
oldest (true ∷ bs) = 1
oldest (false ∷ bs) = suc (oldest bs)

abbrev pub empty_window : ℕ → Window
empty_window limit = record { limit = limit; start = 0; held = 0; hits = 0; evictions = 0 }

-- a window after a request more: it has the object already, or has room for it, or gives up the one that was used longest ago
abbrev pub window_after : ℕ → List Bool → Window → Window
window_after previous bs w =
    if nat_lt w.start previous then record w { hits = (w.hits + 1) % 2 ^ 64 }
    else (if nat_lt w.held w.limit then record w { held = w.held + 1 }
    else record w { start = w.start + oldest (drop w.start bs); evictions = (w.evictions + min w.limit 1) % 2 ^ 64 })

-- the tally of so many requests
abbrev pub tally_of : ℕ → Window → Tally
tally_of n w = record { requests = n; hits = w.hits; bytes = n; hit_bytes = w.hits; evictions = w.evictions }

-- windows after a request more, which is played up to the first window that has its object
abbrev pub asked : ℕ → List Bool → List Window → List Window
asked previous bs [] = []
asked previous bs (w ∷ ws) = window_after previous bs w ∷ (if nat_lt w.start previous then ws else asked previous bs ws)

-- windows, each with the hits of those before it too, and so many more
abbrev pub summed : ℕ → List Window → List Window
summed n [] = []
summed n (w ∷ ws) = record w { hits = (n + w.hits) % 2 ^ 64 } ∷ summed ((n + w.hits) % 2 ^ 64) ws
