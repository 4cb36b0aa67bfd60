-- A cache: its entries, most recent first, under two limits.
use Rattle.std.specs.Prelude.{◌≡◌, ℕ, ◌-◌, ◌<◌, ◌≤◌, ◌⊎◌, max, min, not, Bool, true, false, List, [], ◌∷◌, ◌++◌, length, map, filter, find, reverse, count_by, Option, Some, None, Result, Ok, Err, refl, IsSome}
use Rattle.std.specs.Option.{option_map_or}
use Rattle.std.specs.List.{FoldsTo}
use Rattle.std.specs.Coded.{Coded, code_by, coded×, coded_ℕ, coded_list}
use Rattle.std.specs.Borrow.{Bor, MutBor}
use Rattle.lru_index.specs.declared.hashing.SeededHasher.{SeededHasher}
use Rattle.lru_index.specs.declared.hashing.SeededHashes.{SeededHashes}
use Rattle.lru_rows.specs.declared.rows.NoPlace.{NoPlace}
use Rattle.lru_rows.specs.declared.rows.NoPlace.TheVariants.{Memory as NoMemory, Full as NoMore}
use Rattle.lru_rows.specs.Rows.{most_rows, Updates}
use Rattle.lru_owned_cache.specs.declared.entry.Entry.{Entry}
use Rattle.lru_owned_cache.specs.Entries.{entry_code, entry, weight_of, IsShown, Asks, kept_of, gone_of}
use Rattle.lru_owned_cache.specs.declared.cache.Refused.{Refused}
use Rattle.lru_owned_cache.specs.declared.cache.NotPut.{NotPut}
use Rattle.lru_owned_cache.specs.declared.cache.NotPut.TheVariants.{Unmade, Refused as EntryRefused}
use Rattle.lru_owned_cache.specs.declared.cache.Cause.{Cause}
use Rattle.lru_owned_cache.specs.declared.cache.Cause.TheVariants.{TooHeavy, Full, Memory}

-- why an entry is refused for which there is no place
abbrev pub cause_of : NoPlace → Cause
cause_of NoMemory = Memory
cause_of NoMore = Full

-- what makes its hashers from this one
abbrev pub hashes_from : SeededHasher → SeededHashes
hashes_from hasher = record { initial = hasher }

-- the entries, most recent first; for how many there is memory; and how heavy and how many they may be
pub record Cached (K V S : Type 0) : Type 0 where
  pub entries : List (Entry K V)
  pub places : ℕ
  pub most_weight : ℕ
  pub most_entries : ℕ
  pub hashes : S

abbrev pub cached_code : {K V S : Type 0} → Coded K → Coded V → Coded S → Coded (Cached K V S)
cached_code {K} {V} {S} key value hashes =
    code_by (List (Entry K V) × (ℕ × (ℕ × (ℕ × S)))) (coded× (coded_list (entry_code key value)) (coded× coded_ℕ (coded× coded_ℕ (coded× coded_ℕ hashes))))
    (λ c. (c.entries, (c.places, (c.most_weight, (c.most_entries, c.hashes)))))
    (λ p. record { entries = p.0; places = p.1.0; most_weight = p.1.1.0; most_entries = p.1.1.1.0; hashes = p.1.1.1.1 }) (λ _. refl)

module _ {K V : Type 0} where
  -- no entries
  abbrev pub empty : {S : Type 0} → S → ℕ → ℕ → Cached K V S
  empty hashes most_weight most_entries = record { entries = []; places = 0; most_weight = most_weight; most_entries = most_entries; hashes = hashes }

  -- entries of at most this weight, and of at most this number
  abbrev pub Fit : ℕ → ℕ → List (Entry K V) → Type 0
  Fit w n es = (weight_of es ≤ w) × (length es ≤ n)

  -- the cache with other entries. It gives no place back, and makes one only where it needs one more
  abbrev pub with_entries : {S : Type 0} → Cached K V S → List (Entry K V) → Cached K V S
  with_entries c es = record { entries = es; places = max c.places (length es); most_weight = c.most_weight; most_entries = c.most_entries; hashes = c.hashes }

  -- the last entry is taken out, if there is one
  abbrev pub PopsLast : {S : Type 0} → Cached K V S → Option (Entry K V) → Cached K V S → Type 0
  PopsLast old None new = (old.entries ≡ []) × (new ≡ old)
  PopsLast old (Some e) new = (front : List (Entry K V)) × ((old.entries ≡ front ++ e ∷ []) × (new ≡ with_entries old front))

  -- the same for the first
  abbrev pub PopsFirst : {S : Type 0} → Cached K V S → Option (Entry K V) → Cached K V S → Type 0
  PopsFirst old None new = (old.entries ≡ []) × (new ≡ old)
  PopsFirst old (Some e) new = (rest : List (Entry K V)) × ((old.entries ≡ e ∷ rest) × (new ≡ with_entries old rest))

  -- what an iterator shows of an entry
  abbrev pub parts_of : Entry K V → K × V × ℕ
  parts_of e = (e.key, e.value, e.weight)

  -- these entries stay and those go, so that what stays fits: no more go than have to
  pub record Leaves (w n : ℕ) (es front gone : List (Entry K V)) : Type 0 where
    pub parts : es ≡ front ++ gone
    pub fits : Fit w n front
    pub needed : (e : Entry K V) (rest : List (Entry K V)) → gone ≡ e ∷ rest → Fit w n (front ++ e ∷ []) → ⊥

  -- the limits are others, and the shortest end of the entries goes that has to
  abbrev pub Limits : {F S : Type 0} → (F → Entry K V → F → Type 0) → F → Cached K V S → ℕ → ℕ → Cached K V S → Type 0
  Limits Step visit old most_weight most_entries new =
      (front : List (Entry K V)) × ((gone : List (Entry K V)) × (Leaves most_weight most_entries old.entries front gone × (IsShown Step visit gone
      × (new ≡ record { entries = front; places = old.places; most_weight = most_weight; most_entries = most_entries; hashes = old.hashes }))))

  -- all entries go, and each is shown
  abbrev pub Clears : {F S : Type 0} → (F → Entry K V → F → Type 0) → F → Cached K V S → Cached K V S → Type 0
  Clears Step visit old new = IsShown Step visit old.entries × (new ≡ with_entries old [])

  -- the same where the first goes first
  abbrev pub Drains : {F S : Type 0} → (F → Entry K V → F → Type 0) → F → Cached K V S → Cached K V S → Type 0
  Drains {F} Step visit old new = ((left : F) × FoldsTo Step visit old.entries left) × (new ≡ with_entries old [])

  -- the first entry has another weight, and the shortest end of the others goes that has to
  abbrev pub Settles : {F S : Type 0} → (F → Entry K V → F → Type 0) → F → Cached K V S → ℕ → Cached K V S → Type 0
  Settles Step visit old w new =
      (e : Entry K V) × ((rest : List (Entry K V)) × ((old.entries ≡ e ∷ rest) × ((front : List (Entry K V)) × ((gone : List (Entry K V))
      × (Leaves (old.most_weight - w) (old.most_entries - 1) rest front gone × (IsShown Step visit gone × (new ≡ with_entries old (entry e.key e.value w ∷ front))))))))

  -- a closure that was shown a key and a value may answer this weight. `post` is the closure's own relation
  pub record Weighs (post : Bor K → Bor V → ℕ → Type 0) (k : K) (v : V) (w : ℕ) : Type 0 where
    pub key : Bor K
    pub value : Bor V
    pub shows_key : key.now ≡ k
    pub shows_value : value.now ≡ v
    pub called : post key value w

  -- the entry that stands last, if there is one
  abbrev pub IsLast : List (Entry K V) → Option (Entry K V) → Type 0
  IsLast es None = es ≡ []
  IsLast es (Some e) = (front : List (Entry K V)) × (es ≡ front ++ e ∷ [])

  -- a test was asked of each entry, the last first, and those stay of which it answered true
  pub record Retains {F S : Type 0} (step : F → Bor K → Bor V → ℕ → Bool → F → Type 0) (keep : F) (old new : Cached K V S) : Type 0 where
    pub asked : List (Entry K V × Bool)
    pub left : F
    pub all : map (λ a. a.0) asked ≡ old.entries
    pub called : FoldsTo (λ p a q. Asks step p a.0 a.1 q) keep (reverse asked) left
    pub kept : new ≡ with_entries old (kept_of asked)

  -- a test was asked of so many of the last entries, or of all, the last first. Those stay of which it answered true, and the others were shown to a closure, in that order
  pub record RetainsLast {F G S : Type 0} (step : F → Bor K → Bor V → ℕ → Bool → F → Type 0) (keep : F) (Step : G → Entry K V → G → Type 0) (visit : G) (most : ℕ) (old new : Cached K V S) : Type 0 where
    pub front : List (Entry K V)
    pub asked : List (Entry K V × Bool)
    pub left : F
    pub all : old.entries ≡ front ++ map (λ a. a.0) asked
    pub many : length asked ≡ min most (length old.entries)
    pub called : FoldsTo (λ p a q. Asks step p a.0 a.1 q) keep (reverse asked) left
    pub shown : IsShown Step visit (gone_of asked)
    pub kept : new ≡ with_entries old (front ++ kept_of asked)

  -- by what stands for a key: a key that equals it, or what a query matches
  module _ {Q : Type 0} (eq : K → Q → Bool) where
    -- the entry of a key, if there is one
    abbrev pub entry_of : List (Entry K V) → Q → Option (Entry K V)
    entry_of es key = find (λ e. eq e.key key) es

    -- the entries without that key's
    abbrev pub without : List (Entry K V) → Q → List (Entry K V)
    without es key = filter (λ e. not (eq e.key key)) es

    -- a key's entry goes first, if it has one
    abbrev pub used : List (Entry K V) → Q → List (Entry K V)
    used es key = option_map_or (λ e. e ∷ without es key) (entry_of es key) es

    -- a key's entry goes first with this value, if it has one
    abbrev pub used_with : List (Entry K V) → Q → V → List (Entry K V)
    used_with es key v = option_map_or (λ e. entry e.key v e.weight ∷ without es key) (entry_of es key) es

    -- a key's entry goes last, if it has one
    abbrev pub demoted : List (Entry K V) → Q → List (Entry K V)
    demoted es key = option_map_or (λ e. without es key ++ e ∷ []) (entry_of es key) es

    -- a key's entry goes first, and its value is lent to a closure, which may change it; where it has none, nothing is called
    abbrev pub UpdatesEntry : {R S : Type 0} → (MutBor V → ℕ → R → MutBor V → Type 0) → Cached K V S → Q → Option R → Cached K V S → Type 0
    UpdatesEntry post old key None new = (entry_of old.entries key ≡ None) × (new ≡ old)
    UpdatesEntry post old key (Some answer) new =
        (e : Entry K V) × ((entry_of old.entries key ≡ Some e) × ((v : V) × (Updates post e.value e.weight answer v × (new ≡ with_entries old (entry e.key v e.weight ∷ without old.entries key)))))

  module _ (eq : K → K → Bool) where
    -- what holds of every cache: no key has two entries, and it is over no limit
    pub record IsCache {S : Type 0} (c : Cached K V S) : Type 0 where
      pub keys : (k : K) → count_by (λ e. eq e.key k) c.entries ≤ 1
      pub fits : Fit c.most_weight c.most_entries c.entries
      pub placed : length c.entries ≤ c.places
      pub short : length c.entries ≤ most_rows

    -- why an entry may be refused: it is too heavy by itself, or there may be none; or its key has no entry, nothing has to go for it, and there is no place for it
    abbrev pub MayRefuse : {S : Type 0} → Cached K V S → K → ℕ → Cause → Type 0
    MayRefuse old k w TooHeavy = (old.most_weight < w) ⊎ (old.most_entries ≡ 0)
    MayRefuse old k w Full = (entry_of eq old.entries k ≡ None) × (Fit (old.most_weight - w) (old.most_entries - 1) old.entries × (length old.entries ≡ most_rows))
    MayRefuse old k w Memory = (entry_of eq old.entries k ≡ None) × (Fit (old.most_weight - w) (old.most_entries - 1) old.entries × ((length old.entries < most_rows) × (old.places ≡ length old.entries)))

    -- an entry that fits by itself is put first in place of its key's, which is answered, and the shortest end of the others goes that has to. Or it is refused: key and value are handed back, and nothing has changed
    abbrev pub Puts : {F S : Type 0} → (F → Entry K V → F → Type 0) → F → Cached K V S → K → V → ℕ → Result (Option (Entry K V)) (Refused K V) → Cached K V S → Type 0
    Puts Step visit old k v w (Ok was) new =
        ((w ≤ old.most_weight) × (0 < old.most_entries)) × ((was ≡ entry_of eq old.entries k) × ((front : List (Entry K V)) × ((gone : List (Entry K V))
        × (Leaves (old.most_weight - w) (old.most_entries - 1) (without eq old.entries k) front gone × (IsShown Step visit gone × (new ≡ with_entries old (entry k v w ∷ front)))))))
    Puts Step visit old k v w (Err r) new = MayRefuse old k w r.cause × ((r.key ≡ k) × ((r.value ≡ v) × (new ≡ old)))

    -- a key is used; or, where it has no entry, one is put of a value and a weight that `Makes` allows, or none is made
    abbrev pub UsesOrPuts : {E F S : Type 0} → (Result (V × ℕ) E → Type 0) → (F → Entry K V → F → Type 0) → F → Cached K V S → K → Result Bool (NotPut K V E) → Cached K V S → Type 0
    UsesOrPuts Makes Step visit old key (Ok true) new = IsSome (entry_of eq old.entries key) × (new ≡ with_entries old (used eq old.entries key))
    UsesOrPuts Makes Step visit old key (Ok false) new = (made : V × ℕ) × (Makes (Ok made) × Puts Step visit old key made.0 made.1 (Ok None) new)
    UsesOrPuts Makes Step visit old key (Err (Unmade k e)) new = (entry_of eq old.entries key ≡ None) × (Makes (Err e) × ((k ≡ key) × (new ≡ old)))
    UsesOrPuts Makes Step visit old key (Err (EntryRefused r)) new = (entry_of eq old.entries key ≡ None) × ((made : V × ℕ) × (Makes (Ok made) × Puts Step visit old key made.0 made.1 (Err r) new))

    -- an entry is put whose weight a closure answers
    abbrev pub PutsWeighed : {F S : Type 0} → (Bor K → Bor V → ℕ → Type 0) → (F → Entry K V → F → Type 0) → F → Cached K V S → K → V → Result (Option (Entry K V)) (Refused K V) → Cached K V S → Type 0
    PutsWeighed post Step visit old k v result new = (w : ℕ) × (Weighs post k v w × Puts Step visit old k v w result new)

    -- a key's entry goes first, and its value is lent to a closure, which may change it and answers the weight from then on. The shortest end of the others goes that has to.
    -- An entry that is too heavy by itself then goes alone, and is handed back. Where the key has none, nothing is called
    abbrev pub Reweighs : {F S : Type 0} → (MutBor V → ℕ → ℕ → MutBor V → Type 0) → (F → Entry K V → F → Type 0) → F → Cached K V S → K → Result Bool (Entry K V) → Cached K V S → Type 0
    Reweighs post Step visit old key (Ok false) new = (entry_of eq old.entries key ≡ None) × (new ≡ old)
    Reweighs post Step visit old key (Ok true) new =
        (e : Entry K V) × ((entry_of eq old.entries key ≡ Some e) × ((v : V) × ((w : ℕ) × (Updates post e.value e.weight w v × ((w ≤ old.most_weight)
        × ((front : List (Entry K V)) × ((gone : List (Entry K V)) × (Leaves (old.most_weight - w) (old.most_entries - 1) (without eq old.entries key) front gone
        × (IsShown Step visit gone × (new ≡ with_entries old (entry e.key v w ∷ front)))))))))))
    Reweighs post Step visit old key (Err back) new =
        (e : Entry K V) × ((entry_of eq old.entries key ≡ Some e) × ((back.key ≡ e.key) × (Updates post e.value e.weight back.weight back.value
        × ((old.most_weight < back.weight) × (new ≡ with_entries old (without eq old.entries key))))))
