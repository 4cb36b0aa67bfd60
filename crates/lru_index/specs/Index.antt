-- An index of places: what it knows of each place, and which keys it is the index of.
use Rattle.std.specs.Prelude.{◌≡◌, ℕ, ◌/◌, ◌^◌, Bool, false, List, length, get_or, Option, Some, None, IsTrue, ◌==◌, if◌then◌else◌, refl}
use Rattle.std.specs.Option.{option_map}
use Rattle.std.specs.Coded.{Coded, code_by, coded×, coded_ℕ, coded_list, coded_option}

-- for each place, what is known of its key's hash, if it has a key: all but the `shift` lowest bits
pub record Index (S : Type 0) : Type 0 where
  pub homes : List (Option ℕ)
  pub shift : ℕ
  pub hash_builder : S

abbrev pub index_code : {S : Type 0} → Coded S → Coded (Index S)
index_code {S} code =
    code_by (List (Option ℕ) × (ℕ × S)) (coded× (coded_list (coded_option coded_ℕ)) (coded× coded_ℕ code))
    (λ i. (i.homes, (i.shift, i.hash_builder))) (λ p. record { homes = p.0; shift = p.1.0; hash_builder = p.1.1 }) (λ _. refl)

module _ {S : Type 0} where
  -- how many places there is room for
  abbrev pub room_of : Index S → ℕ
  room_of index = length index.homes

  abbrev pub home_at : Index S → ℕ → Option ℕ
  home_at index p = get_or index.homes p None

  -- the index has nothing at this place
  abbrev pub IsFree : Index S → ℕ → Type 0
  IsFree index p = home_at index p ≡ None

  -- nor at any
  abbrev pub IsEmpty : Index S → Type 0
  IsEmpty index = (p : ℕ) → IsFree index p

module _ {K : Type 0} where
  -- keys by their places, with a key at this place
  abbrev pub put : (ℕ → Option K) → ℕ → K → ℕ → Option K
  put keys p k q = if q == p then Some k else keys q

  -- without this place's
  abbrev pub gone : (ℕ → Option K) → ℕ → ℕ → Option K
  gone keys p q = if q == p then None else keys q

  -- the same for a place that may be none
  abbrev pub gone_at : (ℕ → Option K) → Option ℕ → ℕ → Option K
  gone_at keys None = keys
  gone_at keys (Some p) = gone keys p

  -- what an index knows of each place, where it leaves `shift` bits out
  abbrev pub known_of : (K → ℕ) → ℕ → (ℕ → Option K) → ℕ → Option ℕ
  known_of hash shift keys p = option_map (λ k. hash k / 2 ^ shift) (keys p)

  -- the index knows a place by the hash of this key
  abbrev pub Knows : {S : Type 0} → (S → K → ℕ) → Index S → K → ℕ → Type 0
  Knows hash index key p = home_at index p ≡ Some (hash index.hash_builder key / 2 ^ index.shift)

  -- by what stands for a key: a key that equals it, or what a query matches
  module _ {Q : Type 0} (eq : K → Q → Bool) where
    -- a place has this key
    abbrev pub HasKey : (ℕ → Option K) → Q → ℕ → Type 0
    HasKey keys key p = (k : K) × (keys p ≡ Some k) × IsTrue (eq k key)

    -- a place has another key, or none
    abbrev pub Differs : (ℕ → Option K) → Q → ℕ → Type 0
    Differs keys key p = (k : K) → keys p ≡ Some k → eq k key ≡ false

    -- no place has this key
    abbrev pub IsAbsent : (ℕ → Option K) → Q → Type 0
    IsAbsent keys key = (p : ℕ) → Differs keys key p

    -- what is found of a key: its place, if it has one
    abbrev pub Finds : (ℕ → Option K) → Q → Option ℕ → Type 0
    Finds keys key None = IsAbsent keys key
    Finds keys key (Some p) = HasKey keys key p

  module _ (eq : K → K → Bool) where
    -- no two places have equal keys
    abbrev pub IsOneEach : (ℕ → Option K) → Type 0
    IsOneEach keys = (p q : ℕ) (j k : K) → keys p ≡ Some j → keys q ≡ Some k → IsTrue (eq j k) → p ≡ q

    -- the index is that of these keys: it knows of each place what the hash of its key is, and no key stands twice
    pub record Indexes {S : Type 0} (hash : S → K → ℕ) (index : Index S) (keys : ℕ → Option K) : Type 0 where
      pub known : (p : ℕ) → home_at index p ≡ known_of (hash index.hash_builder) index.shift keys p
      pub once : IsOneEach keys

    -- a key that had no place gets this one, whatever the others are
    abbrev pub Inserts : {S : Type 0} → (S → K → ℕ) → Index S → K → ℕ → Index S → Type 0
    Inserts hash old key p new = (keys : ℕ → Option K) → IsAbsent eq keys key → Indexes hash old keys → Indexes hash new (put keys p key)

    -- a place is taken out, whatever the others are
    abbrev pub Drops : {S : Type 0} → (S → K → ℕ) → Index S → ℕ → Index S → Type 0
    Drops hash old p new = (keys : ℕ → Option K) → Indexes hash old keys → Indexes hash new (gone keys p)
