-- What the cells of an index stand for: heads, and behind them a link for each place. A cell holds a place, and above it bits
-- of the hash of that place's key.
use Rattle.std.specs.Prelude.{◌≡◌, ℕ, ◌+◌, ◌-◌, ◌*◌, ◌/◌, ◌%◌, ◌^◌, ◌<◌, ◌≤◌, ◌⊎◌, zero, suc, List, [], ◌∷◌, length, get_or, map, eqb, Option, Some, None, nat_lt, if◌then◌else◌}
use Rattle.std.specs.List.{list_any, range_with_len}
use Rattle.std.specs.Option.{option_map}
use Rattle.lru_index.specs.Index.{Index}

-- a place stands in a list
abbrev pub In : ℕ → List ℕ → Type 0
In p [] = ⊥
In p (q ∷ qs) = (q ≡ p) ⊎ In p qs

-- and stands there once
abbrev pub Apart : List ℕ → Type 0
Apart [] = Unit {0}
Apart (p ∷ ps) = (In p ps → ⊥) × Apart ps

-- what a cell holds
abbrev pub at : List ℕ → ℕ → ℕ
at cells c = get_or cells c 0

-- from place v on, the links lead along these places and end there
abbrev pub IsChain : List ℕ → ℕ → ℕ → List ℕ → Type 0
IsChain cells heads v [] = v ≡ 0
IsChain cells heads v (p ∷ ps) = (v ≡ p) × (0 < p) × (heads + p < length cells) × IsChain cells heads (at cells (heads + p)) ps

-- these are the places of a home, in the order of its chain
pub record Chains (cells : List ℕ) (heads : ℕ) (home : ℕ → Option ℕ) (b : ℕ) (places : List ℕ) : Type 0 where
  pub joined : IsChain cells heads (at cells b) places
  pub apart : Apart places
  pub has : (p : ℕ) → home p ≡ Some b → In p places
  pub only : (p : ℕ) → In p places → home p ≡ Some b

-- each live place stands in exactly the chain of its home
pub record IsTable (cells : List ℕ) (heads : ℕ) (home : ℕ → Option ℕ) : Type 0 where
  pub wide : heads ≤ length cells
  pub chains : (b : ℕ) → b < heads → (places : List ℕ) × Chains cells heads home b places
  pub homes : (p b : ℕ) → home p ≡ Some b → b < heads

-- the place that a cell holds, which is below twice the heads, and the bits above it
abbrev pub place_at : List ℕ → ℕ → ℕ → ℕ
place_at cells heads c = at cells c % (2 * heads)

abbrev pub bits_at : List ℕ → ℕ → ℕ → ℕ
bits_at cells heads c = at cells c / (2 * heads)

-- the cells without the bits
unfoldable pub places_in : List ℕ → ℕ → List ℕ
places_in cells heads = map (λ v. v % (2 * heads)) cells

-- a chain may lead through this cell: it is a head, or the link of a place that has a home
abbrev pub IsUsed : ℕ → (ℕ → Option ℕ) → ℕ → Type 0
IsUsed heads home c = (c < heads) ⊎ ((p b : ℕ) × (c ≡ heads + p) × (home p ≡ Some b))

-- the bits of each place, which each of these cells holds that holds the place
pub record Marks (cells : List ℕ) (heads shift : ℕ) (home : ℕ → Option ℕ) : Type 0 where
  pub bits : ℕ → ℕ
  pub small : (p : ℕ) → bits p < 2 ^ (shift - 33)
  pub marked : (c : ℕ) → IsUsed heads home c → 0 < place_at cells heads c → bits_at cells heads c ≡ bits (place_at cells heads c)

-- the homes of the places below n
abbrev pub below : ℕ → (ℕ → Option ℕ) → ℕ → Option ℕ
below n home p = if nat_lt p n then home p else None

-- the first n places along the links from v on
abbrev pub path : List ℕ → ℕ → ℕ → ℕ → List ℕ
path cells heads zero v = []
path cells heads (suc n) zero = []
path cells heads (suc n) (suc v) = suc v ∷ path cells heads n (at cells (heads + suc v))

-- all places along them
abbrev pub rest_of : List ℕ → ℕ → ℕ → List ℕ
rest_of cells heads v = path cells heads (length cells) v

-- the home below n in whose chain a place stands
abbrev pub holder : List ℕ → ℕ → ℕ → ℕ → Option ℕ
holder cells heads p zero = None
holder cells heads p (suc b) = if list_any (eqb p) (rest_of cells heads (at cells b)) then Some b else holder cells heads p b

-- the home of each place
abbrev pub homes_of : List ℕ → ℕ → List (Option ℕ)
homes_of cells heads = map (λ p. holder cells heads p heads) (range_with_len 0 (length cells - heads))

abbrev pub home_in : List ℕ → ℕ → ℕ → Option ℕ
home_in cells heads p = get_or (homes_of cells heads) p None

-- the bits in the first cell, from cell c on along n links, that holds this place
abbrev pub bits_along : List ℕ → ℕ → ℕ → ℕ → ℕ → ℕ
bits_along cells heads p zero c = 0
bits_along cells heads p (suc n) c = if eqb (place_at cells heads c) p then bits_at cells heads c else bits_along cells heads p n (heads + place_at cells heads c)

-- what is known of a place: its home, and behind it the bits in its chain
abbrev pub known_in : List ℕ → ℕ → ℕ → ℕ → Option ℕ
known_in cells heads shift p = option_map (λ b. b * 2 ^ (shift - 33) + bits_along cells heads p (length cells) b) (home_in (places_in cells heads) heads p)

abbrev pub IsPower : ℕ → Type 0
IsPower heads = (k : ℕ) × (heads ≡ 2 ^ k)

-- a number of heads, and how many bits of a hash do not tell its home
pub record IsScale (heads shift : ℕ) : Type 0 where
  pub power : heads ≡ 2 ^ (64 - shift)
  pub least : 33 ≤ shift
  pub most : shift ≤ 63

-- what an index keeps
pub record IsKept (cells : List ℕ) (heads shift : ℕ) : Type 0 where
  pub table : IsTable (places_in cells heads) heads (home_in (places_in cells heads) heads)
  pub marks : Marks cells heads shift (home_in (places_in cells heads) heads)
  pub scale : IsScale heads shift
  pub some : heads < length cells
  pub few : length cells ≤ heads + 4294967295
  pub narrow : length cells ≤ 3 * heads

-- the index that they are: of each hash it knows all but 33 bits
abbrev pub index_of : {S : Type 0} → List ℕ → ℕ → ℕ → S → Index S
index_of cells heads shift hash_builder = record { homes = map (known_in cells heads shift) (range_with_len 0 (length cells - heads)); shift = 33; hash_builder = hash_builder }

-- the home of a hash, and the bits beneath those that tell it
abbrev pub home_of : ℕ → ℕ → ℕ
home_of shift hash = hash / 2 ^ shift

abbrev pub rest_bits : ℕ → ℕ → ℕ
rest_bits shift hash = hash / 2 ^ 33 % 2 ^ (shift - 33)

-- the homes of keys
abbrev pub homes_by : {K : Type 0} → (K → ℕ) → ℕ → (ℕ → Option K) → ℕ → Option ℕ
homes_by hash shift keys p = option_map (λ k. home_of shift (hash k)) (keys p)

-- the cells are those of the keys of the places below n
pub record IsFilled {K : Type 0} (hash : K → ℕ) (heads shift n : ℕ) (keys : ℕ → Option K) (cells : List ℕ) : Type 0 where
  pub table : IsTable (places_in cells heads) heads (below n (homes_by hash shift keys))
  pub marks : Marks cells heads shift (below n (homes_by hash shift keys))
  pub right : (p : ℕ) (k : K) → p < n → keys p ≡ Some k → marks.bits p ≡ rest_bits shift (hash k)

-- the cell behind these places of a chain, from cell c on
abbrev pub end_cell : ℕ → ℕ → List ℕ → ℕ
end_cell heads c [] = c
end_cell heads c (p ∷ ps) = end_cell heads (heads + p) ps
