-- What an order of keys, and the columns beside it, stand for.
use Rattle.std.specs.Prelude.{◌≡◌, ℕ, ◌+◌, ◌<◌, ◌≤◌, Bool, List, [], ◌∷◌, length, Option, Some, None, IsSome, get_or, set, filter_map}
use Rattle.std.specs.Option.{option_map}
use Rattle.lru_list.specs.Linked.{Linked, IsNumbered, IsLive, item_of, made}
use Rattle.lru_index.specs.Index.{Index, Indexes, room_of}
use Rattle.std.specs.Borrow.{MutBor}
use Rattle.lru_rows.specs.Rows.{Placed, placed, Updates}

module _ {T : Type 0} where
  -- the data at a place, if there are any
  abbrev pub value_at : List (Option T) → ℕ → Option T
  value_at values p = get_or values p None

  -- a closure was lent the data at a place, with their weight, and left what stands there now
  abbrev pub UpdatesValue : {R : Type 0} → (MutBor T → ℕ → R → MutBor T → Type 0) → List ℕ → List (Option T) → ℕ → R → List (Option T) → Type 0
  UpdatesValue post weights old p answer new =
      (d : T) → value_at old p ≡ Some d → (d' : T) × (Updates post d (get_or weights p 0) answer d' × (new ≡ set old p (Some d')))

module _ {T : Type 0} (weights : List ℕ) (values : List (Option T)) where
  -- the data and the weights at these places
  abbrev pub pairs_at : List ℕ → List (T × ℕ)
  pairs_at places = filter_map (λ p. option_map (λ d. (d, get_or weights p 0)) (value_at values p)) places

  -- each place has data, and a weight
  abbrev pub ShowsAll : List ℕ → Type 0
  ShowsAll [] = Unit {0}
  ShowsAll (p ∷ ps) = ((d : T) × (value_at values p ≡ Some d)) × ((p < length weights) × ShowsAll ps)

module _ {K T : Type 0} (weights : List ℕ) (values : List (Option T)) where
  -- the row of a place and its key, where there are data
  abbrev pub row_in : ℕ × K → Option (Placed K T)
  row_in p = option_map (λ d. placed p.0 p.1 d (get_or weights p.0 0)) (value_at values p.0)

  -- the rows of an order
  abbrev pub rows_in : List (ℕ × K) → List (Placed K T)
  rows_in live = filter_map row_in live

-- the columns were made longer at most: all places hold what they held
pub record Lengthens {T : Type 0} (weights : List ℕ) (values : List (Option T)) (weights' : List ℕ) (values' : List (Option T)) : Type 0 where
  pub weights_same : (p : ℕ) → get_or weights' p 0 ≡ get_or weights p 0
  pub values_same : (p : ℕ) → value_at values' p ≡ value_at values p

module _ {K S T : Type 0} (eq : K → K → Bool) (hash : S → K → ℕ) where
  -- what is kept: each key of the order has its data, the index is that of the order's keys, and each place of the order has room in the columns
  pub record IsKept (order : Linked K) (index : Index S) (weights : List ℕ) (values : List (Option T)) : Type 0 where
    pub numbered : IsNumbered order
    pub held : (p : ℕ) → IsLive order p → IsSome (value_at values p)
    pub indexed : Indexes eq hash index (item_of order.live)
    pub wide : made order + 2 ≤ length values
    pub weighed : length values ≤ length weights
    pub indexable : length weights ≤ room_of index
    pub few : length values ≤ 4294967295
