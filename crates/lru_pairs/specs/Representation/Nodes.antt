-- What a list of pairs, and the column of their weights, stand for.
use Rattle.std.specs.Prelude.{ℕ, ◌+◌, ◌<◌, ◌≤◌, ◌==◌, Bool, List, [], ◌∷◌, length, count_by, Option, IsSome, get_or, filter_map, refl}
use Rattle.std.specs.Option.{option_map}
use Rattle.std.specs.Coded.{Coded, code_by, coded×, coded_ℕ}
use Rattle.lru_list.specs.Linked.{Linked, IsNumbered, made}
use Rattle.lru_index.specs.Index.{Index, Indexes, room_of}
use Rattle.lru_rows.specs.Rows.{Placed, placed, Recency, recency, recency_code, row_at, IsAt}

-- the pairs in their order, how many places are free, and how many places the column has
pub record Laid (K V : Type 0) : Type 0 where
  pub held : Recency K V
  pub room : ℕ

abbrev pub laid_code : {K V : Type 0} → Coded K → Coded V → Coded (Laid K V)
laid_code {K} {V} key value =
    code_by (Recency K V × ℕ) (coded× (recency_code key value) coded_ℕ) (λ l. (l.held, l.room)) (λ p. record { held = p.0; room = p.1 }) (λ _. refl)

module _ {K V : Type 0} where
  abbrev pub laid : Recency K V → ℕ → Laid K V
  laid held room = record { held = held; room = room }

  -- other rows at the places
  abbrev pub with_rows : Laid K V → List (Placed K V) → Laid K V
  with_rows l rows = laid (recency rows l.held.free) l.room

  -- the row of a node, where it has a pair
  abbrev pub row_in : List ℕ → ℕ × Option (K × V) → Option (Placed K V)
  row_in weights p = option_map (λ e. placed p.0 e.0 e.1 (get_or weights p.0 0)) p.1

  -- the rows of a list
  abbrev pub rows_in : List ℕ → List (ℕ × Option (K × V)) → List (Placed K V)
  rows_in weights live = filter_map (row_in weights) live

  abbrev pub laid_in : List ℕ → Linked (Option (K × V)) → Laid K V
  laid_in weights list = laid (recency (rows_in weights list.live) (length list.freed)) (length weights)

  -- each node has a pair
  abbrev pub AreHeld : List (ℕ × Option (K × V)) → Type 0
  AreHeld [] = Unit {0}
  AreHeld (p ∷ ps) = IsSome p.1 × AreHeld ps

  -- and each place of them a weight
  abbrev pub AreWeighed : List ℕ → List (ℕ × Option (K × V)) → Type 0
  AreWeighed weights [] = Unit {0}
  AreWeighed weights (p ∷ ps) = IsSome p.1 × ((p.0 < length weights) × AreWeighed weights ps)

  -- items that are pairs, and their keys
  abbrev pub ArePairs : List (Option (K × V)) → Type 0
  ArePairs [] = Unit {0}
  ArePairs (x ∷ xs) = IsSome x × ArePairs xs

  abbrev pub keys_in : List (Option (K × V)) → List K
  keys_in xs = filter_map (option_map (λ e. e.0)) xs

  -- what is kept: each live node has a pair, and each place a weight
  pub record IsHeld (weights : List ℕ) (list : Linked (Option (K × V))) : Type 0 where
    pub numbered : IsNumbered list
    pub held : AreHeld list.live
    pub wide : made list + 2 ≤ length weights
    pub few : length weights ≤ 4294967295

  -- what a caller may know: each place stands once, and within the column
  pub record IsLaid (l : Laid K V) : Type 0 where
    pub once : (p : ℕ) → count_by (λ r. r.place == p) l.held.rows ≤ 1
    pub within : (p : ℕ) → IsAt l.held.rows p → (2 ≤ p) × (p < l.room)
    pub wide : length l.held.rows + l.held.free + 2 ≤ l.room
    pub few : l.room ≤ 4294967295

  -- the key of each place
  abbrev pub keys_at : List (Placed K V) → ℕ → Option K
  keys_at rows p = option_map (λ r. r.key) (row_at rows p)

module _ {K V S : Type 0} (eq : K → K → Bool) (hash : S → K → ℕ) where
  -- what is kept of pairs and their index: it is that of the keys, and has room for each place
  pub record IsKept (nodes : Laid K V) (index : Index S) : Type 0 where
    pub laid : IsLaid nodes
    pub indexed : Indexes eq hash index (keys_at nodes.held.rows)
    pub indexable : nodes.room ≤ room_of index
