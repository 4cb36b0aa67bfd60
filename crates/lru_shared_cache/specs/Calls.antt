-- What is answered of keys and values that stand in shards, and what is left there.
use Rattle.std.specs.Prelude.{◌≡◌, ℕ, ◌⊎◌, Bool, true, false, List, map, Option, Some, None, Result, Ok, Err, IfOk, is_some}
use Rattle.std.specs.List.{FoldsTo}
use Rattle.std.specs.Borrow.{Bor, MutBor}
use Rattle.std.specs.declared.alloc.AllocError.{AllocError}
use Rattle.lru_owned_cache.specs.declared.entry.Entry.{Entry}
use Rattle.lru_owned_cache.specs.declared.cache.Cause.TheVariants.{Memory as NoMemory}
use Rattle.lru_owned_cache.specs.declared.cache.Refused as cached
use Rattle.lru_owned_cache.specs.Cache.{Cached, entry_of, used, with_entries, parts_of, UpdatesEntry, Retains}
use Rattle.lru_shared_cache.specs.declared.calls.NotGot.{NotGot}
use Rattle.lru_shared_cache.specs.declared.calls.NotGot.TheVariants.{Memory, Unmade, Refused as Unput}
use Rattle.lru_shared_cache.specs.declared.counts.Why.TheVariants.{Removed}
use Rattle.lru_shared_cache.specs.Counts.{looked, fewer}
use Rattle.lru_shared_cache.specs.Counting.{ShardOf, size_of, PutsCounted}

module _ {K V : Type 0} where
  -- by a key that equals it, or what stands for one: the value of its entry was shown to a closure, which answered this; or there is no entry, and nothing was called
  abbrev pub ShowsEntry : {R Q : Type 0} → (K → Q → Bool) → (Bor V → R → Type 0) → List (Entry K V) → Q → Option R → Type 0
  ShowsEntry eq post es key None = entry_of eq es key ≡ None
  ShowsEntry eq post es key (Some answer) = (e : Entry K V) × ((entry_of eq es key ≡ Some e) × ((lent : Bor V) × ((lent.now ≡ e.value) × post lent answer)))

  -- what a closure was shown of an entry: its key, its value and its weight
  abbrev pub shown : Bor K × Bor V × ℕ → K × V × ℕ
  shown item = (item.0.now, item.1.now, item.2)

  -- a closure was called with each of these entries, in order
  abbrev pub VisitsEach : {F : Type 0} → (F → Bor K × Bor V × ℕ → F → Type 0) → F → List (Entry K V) → Type 0
  VisitsEach {F} Step visit es = (items : List (Bor K × Bor V × ℕ)) × ((left : F) × ((map shown items ≡ map parts_of es) × FoldsTo Step visit items left))

  -- the same, and the closure is left so
  abbrev pub VisitsEachTo : {F : Type 0} → (F → Bor K × Bor V × ℕ → F → Type 0) → F → List (Entry K V) → F → Type 0
  VisitsEachTo Step visit es left = (items : List (Bor K × Bor V × ℕ)) × ((map shown items ≡ map parts_of es) × FoldsTo Step visit items left)

  -- a clone of an entry's value, or nothing where there is no entry
  abbrev pub IsCloned : (V → V → Type 0) → Option (Entry K V) → Option V → Type 0
  IsCloned clones None None = Unit {0}
  IsCloned clones None (Some v) = ⊥
  IsCloned clones (Some e) None = ⊥
  IsCloned clones (Some e) (Some v) = clones e.value v

  -- a key that has an entry is used, and a clone of its value is answered, unless there is no memory for one
  abbrev pub GetsClone : {S Q : Type 0} → (K → Q → Bool) → (V → V → Type 0) → Cached K V S → Q → Result (Option V) AllocError → Cached K V S → Type 0
  GetsClone eq clones old key answer new = IfOk answer (λ found. IsCloned clones (entry_of eq old.entries key) found) × (new ≡ with_entries old (used eq old.entries key))

  -- the same, and it is counted whether there was an entry
  abbrev pub Gets : {S Q : Type 0} → (K → Q → Bool) → (V → V → Type 0) → ShardOf K V S → Q → Result (Option V) AllocError → ShardOf K V S → Type 0
  Gets eq clones before key answer after = GetsClone eq clones before.cache key answer after.cache × (after.counts ≡ looked before.counts (is_some (entry_of eq before.cache.entries key)))

  -- a key is used, and its value is lent to a closure, which may change it; where it has no entry, nothing is called. It is counted which
  abbrev pub Lends : {R S Q : Type 0} → (K → Q → Bool) → (MutBor V → ℕ → R → MutBor V → Type 0) → ShardOf K V S → Q → Option R → ShardOf K V S → Type 0
  Lends eq post before key answer after = UpdatesEntry eq post before.cache key answer after.cache × (after.counts ≡ looked before.counts (is_some answer))

  -- a test was asked of each entry, and those stay of which it answered true; the others count as taken out
  abbrev pub RetainsShard : {F S : Type 0} → (F → Bor K → Bor V → ℕ → Bool → F → Type 0) → F → ShardOf K V S → ShardOf K V S → Type 0
  RetainsShard step keep before after = Retains step keep before.cache after.cache × (after.counts ≡ fewer before.counts Removed (size_of before.cache) (size_of after.cache))

-- an entry is put of a key that had none, unless it has one by now, which is newer, and stays
abbrev pub PutsMissing : {K V S F : Type 0} → (K → K → Bool) → (F → Entry K V → F → Type 0) → F → ShardOf K V S → K → V → ℕ → Result (Unit {0}) (cached.Refused K V) → ShardOf K V S → Type 0
PutsMissing {K} {V} eq Step visit before k v w (Ok told) after =
    ((is_some (entry_of eq before.cache.entries k) ≡ true) × (after ≡ before))
    ⊎ ((is_some (entry_of eq before.cache.entries k) ≡ false) × ((was : Option (Entry K V)) × PutsCounted Step visit eq before k v w (Ok was) after))
PutsMissing eq Step visit before k v w (Err r) after = (is_some (entry_of eq before.cache.entries k) ≡ false) × PutsCounted Step visit eq before k v w (Err r) after

-- ---- a value that is made where its key has none. `does` says what is known of all shards where that of the key is changed so, and `MayEnd` whether others may end a making
module _ {K V S E F T : Type 0} (MayEnd : Type 0) (eq : K → K → Bool) (clones : V → V → Type 0) (Makes : Result (V × ℕ) E → Type 0) (Step : F → Entry K V → F → Type 0) (visit : F)
    (does : T → (ShardOf K V S → ShardOf K V S → Type 0) → T → Type 0) (key : K) where
  -- an entry of what was made is put, unless there is a newer one, and a clone of its value is answered
  abbrev pub PutsMade : V × ℕ → V → ShardOf K V S → ShardOf K V S → Type 0
  PutsMade made v before after = clones made.0 v × PutsMissing eq Step visit before key made.0 made.1 (Ok tt) after

  -- it is refused, or there was no memory for the clone, and nothing changes; it is handed back
  abbrev pub RefusesMade : V × ℕ → cached.Refused K V → ShardOf K V S → ShardOf K V S → Type 0
  RefusesMade made r before after = PutsMissing eq Step visit before key made.0 made.1 (Err r) after ⊎ ((r.cause ≡ NoMemory) × ((r.key ≡ key) × ((r.value ≡ made.0) × (after ≡ before))))

  -- what follows where a value was made, or none, for a key that had no entry
  abbrev pub EndsMaking : T → Result (V × ℕ) E → Result V (NotGot K V E) → T → Type 0
  EndsMaking old (Ok made) (Ok v) new = does old (PutsMade made v) new ⊎ (MayEnd × (clones made.0 v × does old (λ before after. after ≡ before) new))
  EndsMaking old (Ok made) (Err (Unput r)) new = does old (RefusesMade made r) new
  EndsMaking old (Ok made) (Err (Unmade k e)) new = ⊥
  EndsMaking old (Ok made) (Err (Memory k)) new = ⊥
  EndsMaking old (Err error) (Err (Unmade k e)) new = (k ≡ key) × ((e ≡ error) × does old (λ before after. after ≡ before) new)
  EndsMaking old (Err error) (Ok v) new = ⊥
  EndsMaking old (Err error) (Err (Unput r)) new = ⊥
  EndsMaking old (Err error) (Err (Memory k)) new = ⊥

  -- a key that has an entry is used, and a clone of its value is answered
  abbrev pub Answers : Result V (NotGot K V E) → ShardOf K V S → ShardOf K V S → Type 0
  Answers (Ok v) before after = Gets eq clones before key (Ok (Some v)) after
  Answers (Err (Memory k)) before after = (k ≡ key) × (((e : AllocError) × Gets eq clones before key (Err e) after) ⊎ Gets eq clones before key (Ok None) after)
  Answers (Err (Unmade k e)) before after = ⊥
  Answers (Err (Unput r)) before after = ⊥

  -- that; or it has none, and one is made, under no lock, and put
  abbrev pub GetsOrPuts : T → Result V (NotGot K V E) → T → Type 0
  GetsOrPuts old answer new =
      does old (Answers answer) new
      ⊎ ((mid : T) × (does old (λ before after. Gets eq clones before key (Ok None) after) mid
      × ((made : Result (V × ℕ) E) × (Makes made × EndsMaking mid made answer new))))
