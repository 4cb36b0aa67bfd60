-- What the rows of a segmented cache stand for.
use Rattle.std.specs.Prelude.{◌≡◌, ℕ, ◌+◌, ◌≤◌, ◌==◌, Bool, true, false, not, List, [], ◌∷◌, ◌++◌, length, map, filter, count_by, Option, None, Some, if◌then◌else◌}
use Rattle.std.specs.Option.{option_map}
use Rattle.lru_rows.specs.Rows.{Placed, placed, Recency, recency, row_at, first_row, last_row, with_value, most_rows}
use Rattle.lru_owned_cache.specs.Entries.{entries_in, weight_in}
use Rattle.lru_owned_cache.specs.Partings.{RowsFit}
use Rattle.lru_pairs.specs.Beside.{row_after, row_before}
use Rattle.lru_segmented.specs.declared.seat.RankedValue.{RankedValue}
use Rattle.lru_segmented.specs.Segmented.{Segmented}
use Rattle.lru_segmented.specs.Seats.{Seated, seated, rows}

-- ---- seats
abbrev pub seat : {V : Type 0} → V → Bool → RankedValue V
seat v upper = record { value = v; upper = upper }

-- where a segment begins behind which a row is put at a place
abbrev pub begun : Option ℕ → ℕ → Option ℕ
begun None p = Some p
begun (Some first) p = Some first

module _ {K V : Type 0} where
  -- the row of a seat
  abbrev pub row_in : Placed K (RankedValue V) → Placed K V
  row_in r = placed r.place r.key r.value.value r.weight

  abbrev pub rows_in : List (Placed K (RankedValue V)) → List (Placed K V)
  rows_in rs = map row_in rs

  -- what an iterator shows of an entry, where its value has a seat
  abbrev pub bare : K × RankedValue V × ℕ → K × V × ℕ
  bare e = (e.0, e.1.value, e.2)

  -- the seats that say that they are of the upper segment, and the others
  abbrev pub seated_in : {S : Type 0} → Recency K (RankedValue V) → S → Seated K V S
  seated_in r hashes = seated (rows_in (filter (λ x. x.value.upper) r.rows)) (rows_in (filter (λ x. not x.value.upper) r.rows)) r.free hashes

  -- each of these seats says the same
  abbrev pub AllSay : Bool → List (Placed K (RankedValue V)) → Type 0
  AllSay b [] = Unit {0}
  AllSay b (r ∷ rs) = (r.value.upper ≡ b) × AllSay b rs

  -- what is kept of seats: no place stands twice, the upper segment stands first, the boundary is the place of the first row behind it, and both segments are weighed
  pub record IsSeated (r : Recency K (RankedValue V)) (boundary : Option ℕ) (weight upper_weight upper_len : ℕ) : Type 0 where
    pub us : List (Placed K (RankedValue V))
    pub ls : List (Placed K (RankedValue V))
    pub parts : r.rows ≡ us ++ ls
    pub once : (p : ℕ) → count_by (λ x. x.place == p) r.rows ≤ 1
    pub short : length r.rows ≤ most_rows
    pub uppers : AllSay true us
    pub lowers : AllSay false ls
    pub boundary_is : boundary ≡ option_map (λ x. x.place) (first_row ls)
    pub weight_is : weight ≡ weight_in r.rows
    pub upper_weight_is : upper_weight ≡ weight_in us
    pub upper_len_is : upper_len ≡ length us

  -- the boundary, where the row at a place goes elsewhere
  abbrev pub passed : List (Placed K (RankedValue V)) → Option ℕ → ℕ → Option ℕ
  passed rs None p = None
  passed rs (Some first) p = if first == p then option_map (λ x. x.place) (row_after rs p) else Some first

  -- the place of the last row before the boundary, if there is one
  abbrev pub upper_end : List (Placed K (RankedValue V)) → Option ℕ → Option ℕ
  upper_end rs None = option_map (λ x. x.place) (last_row rs)
  upper_end rs (Some first) = option_map (λ x. x.place) (row_before rs first)

  -- the seat at a place says another, and what it said is answered
  abbrev pub Marks : Recency K (RankedValue V) → ℕ → Bool → Bool → Recency K (RankedValue V) → Type 0
  Marks old p upper was new =
      (r : Placed K (RankedValue V)) × ((row_at old.rows p ≡ Some r) × ((was ≡ r.value.upper) × (new ≡ recency (with_value old.rows p (seat r.value.value upper)) old.free)))

  -- ---- caches
  -- the cache that these rows are
  abbrev pub segmented_in : {S : Type 0} → Seated K V S → ℕ → ℕ → ℕ → Segmented K V S
  segmented_in s most_weight most_entries most_protected =
      record {
        upper = entries_in s.upper;
        lower = entries_in s.lower;
        places = length (rows s) + s.free;
        most_weight = most_weight;
        most_entries = most_entries;
        most_protected = most_protected;
        hashes = s.hashes;
      }

  -- what is kept of a cache: it is over no limit, and its upper segment is within its share
  pub record IsKept {S : Type 0} (s : Seated K V S) (most_weight most_entries most_protected : ℕ) : Type 0 where
    pub fits : RowsFit most_weight most_entries (rows s)
    pub protected : RowsFit most_protected (if most_protected == 0 then 0 else most_entries) s.upper
