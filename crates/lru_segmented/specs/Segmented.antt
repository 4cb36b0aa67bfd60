-- A cache in two segments: an entry stands in the lower one until it is used, and what has to go goes from there first.
use Rattle.std.specs.Prelude.{◌≡◌, ℕ, ◌+◌, ◌-◌, ◌<◌, ◌≤◌, ◌==◌, ◌⊎◌, max, Bool, true, false, List, [], ◌∷◌, ◌++◌, length, count_by, Option, Some, None, Result, Ok, Err, refl, if◌then◌else◌}
use Rattle.std.specs.Option.{option_map_or}
use Rattle.std.specs.List.{FoldsTo}
use Rattle.std.specs.Coded.{Coded, code_by, coded×, coded_ℕ, coded_list}
use Rattle.std.specs.Borrow.{MutBor}
use Rattle.lru_rows.specs.Rows.{most_rows, Updates}
use Rattle.lru_owned_cache.specs.declared.entry.Entry.{Entry}
use Rattle.lru_owned_cache.specs.Entries.{entry_code, entry, IsShown}
use Rattle.lru_owned_cache.specs.declared.cache.Refused.{Refused}
use Rattle.lru_owned_cache.specs.declared.cache.NotPut.{NotPut}
use Rattle.lru_owned_cache.specs.declared.cache.NotPut.TheVariants.{Unmade, Refused as EntryRefused}
use Rattle.lru_owned_cache.specs.declared.cache.Cause.{Cause}
use Rattle.lru_owned_cache.specs.declared.cache.Cause.TheVariants.{TooHeavy, Full, Memory}
use Rattle.lru_owned_cache.specs.Cache.{Cached, Fit, Leaves, MayRefuse, entry_of, without}

-- the entries of both segments, most recent first; for how many there is memory; how heavy and how many they may be; and how heavy those of the upper segment
pub record Segmented (K V S : Type 0) : Type 0 where
  pub upper : List (Entry K V)
  pub lower : List (Entry K V)
  pub places : ℕ
  pub most_weight : ℕ
  pub most_entries : ℕ
  pub most_protected : ℕ
  pub hashes : S

abbrev pub segmented_code : {K V S : Type 0} → Coded K → Coded V → Coded S → Coded (Segmented K V S)
segmented_code {K} {V} {S} key value hashes =
    code_by (List (Entry K V) × (List (Entry K V) × (ℕ × (ℕ × (ℕ × (ℕ × S))))))
    (coded× (coded_list (entry_code key value)) (coded× (coded_list (entry_code key value)) (coded× coded_ℕ (coded× coded_ℕ (coded× coded_ℕ (coded× coded_ℕ hashes))))))
    (λ c. (c.upper, (c.lower, (c.places, (c.most_weight, (c.most_entries, (c.most_protected, c.hashes)))))))
    (λ p. record { upper = p.0; lower = p.1.0; places = p.1.1.0; most_weight = p.1.1.1.0; most_entries = p.1.1.1.1.0; most_protected = p.1.1.1.1.1.0; hashes = p.1.1.1.1.1.1 }) (λ _. refl)

module _ {K V : Type 0} where
  -- no entries
  abbrev pub empty : {S : Type 0} → S → ℕ → ℕ → ℕ → Segmented K V S
  empty hashes most_weight most_entries most_protected =
      record { upper = []; lower = []; places = 0; most_weight = most_weight; most_entries = most_entries; most_protected = most_protected; hashes = hashes }

  -- all entries: those of the upper segment stand before those of the lower one
  abbrev pub entries : {S : Type 0} → Segmented K V S → List (Entry K V)
  entries c = c.upper ++ c.lower

  -- the same cache with one order, and no segments
  abbrev pub plain : {S : Type 0} → Segmented K V S → Cached K V S
  plain c = record { entries = entries c; places = c.places; most_weight = c.most_weight; most_entries = c.most_entries; hashes = c.hashes }

  -- the cache with other segments
  abbrev pub with_segments : {S : Type 0} → Segmented K V S → List (Entry K V) → List (Entry K V) → Segmented K V S
  with_segments c us ls =
      record { upper = us; lower = ls; places = c.places; most_weight = c.most_weight; most_entries = c.most_entries; most_protected = c.most_protected; hashes = c.hashes }

  -- the same with one entry more, for which a place is made only where none is free
  abbrev pub with_more : {S : Type 0} → Segmented K V S → List (Entry K V) → List (Entry K V) → Segmented K V S
  with_more c us ls =
      record { upper = us; lower = ls; places = max c.places (length us + length ls); most_weight = c.most_weight; most_entries = c.most_entries; most_protected = c.most_protected; hashes = c.hashes }

  -- how many entries the upper segment may have: where its share is nothing, none
  abbrev pub most_upper : {S : Type 0} → Segmented K V S → ℕ
  most_upper c = if c.most_protected == 0 then 0 else c.most_entries

  -- the upper segment is brought within its share: the shortest end of it that has to goes, and stands first in the lower one
  pub record Balances {S : Type 0} (c : Segmented K V S) (us ls us' ls' : List (Entry K V)) : Type 0 where
    pub back : List (Entry K V)
    pub leaves : Leaves c.most_protected (most_upper c) us us' back
    pub lower_is : ls' ≡ back ++ ls

  -- the shortest end of both segments goes that has to, and the upper one loses an entry only where the lower one has none left
  pub record Recedes (w n : ℕ) (us ls us' ls' gone : List (Entry K V)) : Type 0 where
    pub upper_gone : List (Entry K V)
    pub lower_gone : List (Entry K V)
    pub upper_parts : us ≡ us' ++ upper_gone
    pub lower_parts : ls ≡ ls' ++ lower_gone
    pub lower_first : (upper_gone ≡ []) ⊎ (ls' ≡ [])
    pub gone_is : gone ≡ upper_gone ++ lower_gone
    pub fits : Fit w n (us' ++ ls')
    pub needed : (e : Entry K V) (rest : List (Entry K V)) → gone ≡ e ∷ rest → Fit w n ((us' ++ ls') ++ e ∷ []) → ⊥

  -- the same of a cache, and each entry that goes is shown
  pub record LetsGo {F S : Type 0} (Step : F → Entry K V → F → Type 0) (visit : F) (w n : ℕ) (old new : Segmented K V S) : Type 0 where
    pub gone : List (Entry K V)
    pub recedes : Recedes w n old.upper old.lower new.upper new.lower gone
    pub shown : IsShown Step visit gone
    pub same : new ≡ with_segments old new.upper new.lower

  -- the cache under other limits
  abbrev pub with_limits : {S : Type 0} → Segmented K V S → ℕ → ℕ → ℕ → Segmented K V S
  with_limits c w n p = record { upper = c.upper; lower = c.lower; places = c.places; most_weight = w; most_entries = n; most_protected = p; hashes = c.hashes }

  -- the limits are others, the shortest end goes that has to, and the upper segment is brought within its share
  abbrev pub Limits : {F S : Type 0} → (F → Entry K V → F → Type 0) → F → Segmented K V S → ℕ → ℕ → ℕ → Segmented K V S → Type 0
  Limits {F} {S} Step visit old w n p new =
      (mid : Segmented K V S) × (LetsGo Step visit w n old mid × ((us : List (Entry K V)) × ((ls : List (Entry K V))
      × (Balances (with_limits mid w n p) mid.upper mid.lower us ls × (new ≡ with_segments (with_limits mid w n p) us ls)))))

  -- the last entry of all is taken out, if there is one
  abbrev pub PopsLast : {S : Type 0} → Segmented K V S → Option (Entry K V) → Segmented K V S → Type 0
  PopsLast old None new = (old.upper ≡ []) × ((old.lower ≡ []) × (new ≡ old))
  PopsLast old (Some e) new =
      ((front : List (Entry K V)) × ((old.lower ≡ front ++ e ∷ []) × (new ≡ with_segments old old.upper front)))
      ⊎ ((front : List (Entry K V)) × ((old.lower ≡ []) × ((old.upper ≡ front ++ e ∷ []) × (new ≡ with_segments old front []))))

  -- the same for the first entry of all
  abbrev pub PopsFirst : {S : Type 0} → Segmented K V S → Option (Entry K V) → Segmented K V S → Type 0
  PopsFirst old None new = (old.upper ≡ []) × ((old.lower ≡ []) × (new ≡ old))
  PopsFirst old (Some e) new =
      ((rest : List (Entry K V)) × ((old.upper ≡ e ∷ rest) × (new ≡ with_segments old rest old.lower)))
      ⊎ ((rest : List (Entry K V)) × ((old.upper ≡ []) × ((old.lower ≡ e ∷ rest) × (new ≡ with_segments old [] rest))))

  -- all entries go, the first first, and each is shown
  abbrev pub Drains : {F S : Type 0} → (F → Entry K V → F → Type 0) → F → Segmented K V S → Segmented K V S → Type 0
  Drains {F} Step visit old new = ((left : F) × FoldsTo Step visit (entries old) left) × (new ≡ with_segments old [] [])

  -- why there is no place for an entry more
  abbrev pub LacksPlace : {S : Type 0} → Segmented K V S → Cause → Type 0
  LacksPlace c TooHeavy = ⊥
  LacksPlace c Full = length (entries c) ≡ most_rows
  LacksPlace c Memory = (length (entries c) < most_rows) × (c.places ≡ length (entries c))

  -- an entry goes first in the lower segment, or there is no place for it: it is handed back, and nothing has changed
  abbrev pub Enters : {S : Type 0} → Segmented K V S → K → V → ℕ → Result (Unit {0}) (Refused K V) → Segmented K V S → Type 0
  Enters old k v w (Ok _) new = new ≡ with_more old old.upper (entry k v w ∷ old.lower)
  Enters old k v w (Err r) new = LacksPlace old r.cause × ((r.key ≡ k) × ((r.value ≡ v) × (new ≡ old)))

  -- an entry goes first in the upper segment, which is brought within its share
  abbrev pub Rejoins : {S : Type 0} → Segmented K V S → Entry K V → Segmented K V S → Type 0
  Rejoins old e new = (us : List (Entry K V)) × ((ls : List (Entry K V)) × (Balances old (e ∷ old.upper) old.lower us ls × (new ≡ with_segments old us ls)))

  -- by what stands for a key: a key that equals it, or what a query matches
  module _ {Q : Type 0} (eq : K → Q → Bool) where
    -- this entry, which stood for the key, goes first in the upper segment, which is brought within its share
    abbrev pub Raises : {S : Type 0} → Segmented K V S → Q → Entry K V → Segmented K V S → Type 0
    Raises old key e new =
        (us : List (Entry K V)) × ((ls : List (Entry K V)) × (Balances old (e ∷ without eq old.upper key) (without eq old.lower key) us ls × (new ≡ with_segments old us ls)))

    -- a key is used, if it has an entry
    abbrev pub Uses : {S : Type 0} → Segmented K V S → Q → Bool → Segmented K V S → Type 0
    Uses old key false new = (entry_of eq (entries old) key ≡ None) × (new ≡ old)
    Uses old key true new = (e : Entry K V) × ((entry_of eq (entries old) key ≡ Some e) × Raises old key e new)

    -- a key is used, and its value is lent to a closure, which may change it; where it has no entry, nothing is called
    abbrev pub UpdatesEntry : {R S : Type 0} → (MutBor V → ℕ → R → MutBor V → Type 0) → Segmented K V S → Q → Option R → Segmented K V S → Type 0
    UpdatesEntry post old key None new = (entry_of eq (entries old) key ≡ None) × (new ≡ old)
    UpdatesEntry post old key (Some answer) new =
        (e : Entry K V) × ((entry_of eq (entries old) key ≡ Some e) × ((v : V) × (Updates post e.value e.weight answer v × Raises old key (entry e.key v e.weight) new)))

    -- a key's entry goes last in the lower segment, if it has one
    abbrev pub demoted : {S : Type 0} → Segmented K V S → Q → Segmented K V S
    demoted c key = option_map_or (λ e. with_segments c (without eq c.upper key) (without eq c.lower key ++ e ∷ [])) (entry_of eq (entries c) key) c

    -- a key's entry is taken out of its segment
    abbrev pub removed : {S : Type 0} → Segmented K V S → Q → Segmented K V S
    removed c key = with_segments c (without eq c.upper key) (without eq c.lower key)

  module _ (eq : K → K → Bool) where
    -- what holds of every cache: no key has two entries, it is over no limit, and the upper segment is within its share
    pub record IsSegmented {S : Type 0} (c : Segmented K V S) : Type 0 where
      pub keys : (k : K) → count_by (λ e. eq e.key k) (entries c) ≤ 1
      pub fits : Fit c.most_weight c.most_entries (entries c)
      pub protected : Fit c.most_protected (most_upper c) c.upper
      pub placed : length (entries c) ≤ c.places
      pub short : length (entries c) ≤ most_rows

    -- an entry that fits by itself is put. One whose key has none stands first in the lower segment; else it is a use with another value and another weight, and the entry of before is answered.
    -- The shortest end of the others goes that has to. Or it is refused as by a cache with one order: key and value are handed back, and nothing has changed
    abbrev pub Puts : {F S : Type 0} → (F → Entry K V → F → Type 0) → F → Segmented K V S → K → V → ℕ → Result (Option (Entry K V)) (Refused K V) → Segmented K V S → Type 0
    Puts {F} {S} Step visit old k v w (Ok None) new =
        ((w ≤ old.most_weight) × (0 < old.most_entries)) × ((entry_of eq (entries old) k ≡ None) × ((mid : Segmented K V S)
        × (LetsGo Step visit (old.most_weight - w) (old.most_entries - 1) old mid × (new ≡ with_more mid mid.upper (entry k v w ∷ mid.lower)))))
    Puts {F} {S} Step visit old k v w (Ok (Some was)) new =
        ((w ≤ old.most_weight) × (0 < old.most_entries)) × ((entry_of eq (entries old) k ≡ Some was) × ((mid : Segmented K V S)
        × (LetsGo Step visit (old.most_weight - w) (old.most_entries - 1) (removed eq old k) mid × Rejoins mid (entry k v w) new)))
    Puts {F} {S} Step visit old k v w (Err r) new = MayRefuse eq (plain old) k w r.cause × ((r.key ≡ k) × ((r.value ≡ v) × (new ≡ old)))

    -- a key is used; or, where it has no entry, one is put of a value and a weight that `Makes` allows, or none is made
    abbrev pub UsesOrPuts : {E F S : Type 0} → (Result (V × ℕ) E → Type 0) → (F → Entry K V → F → Type 0) → F → Segmented K V S → K → Result Bool (NotPut K V E) → Segmented K V S → Type 0
    UsesOrPuts Makes Step visit old key (Ok true) new = Uses eq old key true new
    UsesOrPuts Makes Step visit old key (Ok false) new = (made : V × ℕ) × (Makes (Ok made) × Puts Step visit old key made.0 made.1 (Ok None) new)
    UsesOrPuts Makes Step visit old key (Err (Unmade k e)) new = (entry_of eq (entries old) key ≡ None) × (Makes (Err e) × ((k ≡ key) × (new ≡ old)))
    UsesOrPuts Makes Step visit old key (Err (EntryRefused r)) new = (entry_of eq (entries old) key ≡ None) × ((made : V × ℕ) × (Makes (Ok made) × Puts Step visit old key made.0 made.1 (Err r) new))
