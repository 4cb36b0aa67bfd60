-- What is answered of keys and values that end, in one shard and in many, and what is left there.
use Rattle.std.specs.Prelude.{◌≡◌, ℕ, ◌⊎◌, Bool, true, false, List, ◌∷◌, map, Option, Some, None, Result, Ok, Err, is_some}
use Rattle.std.specs.List.{FoldsTo}
use Rattle.std.specs.Borrow.{Bor, MutBor}
use Rattle.std.specs.declared.alloc.AllocError.{AllocError}
use Rattle.lru_rows.specs.Rows.{Updates}
use Rattle.lru_owned_cache.specs.declared.entry.Entry.{Entry}
use Rattle.lru_owned_cache.specs.Entries.{entry}
use Rattle.lru_owned_cache.specs.declared.cache.Refused.{Refused}
use Rattle.lru_owned_cache.specs.declared.cache.Cause.TheVariants.{Memory as NoMemory}
use Rattle.lru_owned_cache.specs.Cache.{Cached, without, with_entries, parts_of}
use Rattle.lru_deadlines.specs.declared.deadlines.Until.{Until}
use Rattle.lru_deadlines.specs.Deadlines.{living, MakesRoom, Sweeps}
use Rattle.lru_shared_cache.specs.declared.counts.Counted.{Counted}
use Rattle.lru_shared_cache.specs.declared.counts.Why.TheVariants.{Past}
use Rattle.lru_shared_cache.specs.declared.calls.NotGot.{NotGot}
use Rattle.lru_shared_cache.specs.declared.calls.NotGot.TheVariants.{Memory, Unmade, Refused as Unput}
use Rattle.lru_shared_cache.specs.Counts.{looked, fewer}
use Rattle.lru_shared_cache.specs.Counting.{size_of, PutsCounted}
use Rattle.lru_shared_deadlines.specs.declared.ages.Aged.{Aged}
use Rattle.lru_shared_deadlines.specs.declared.ages.Moment.{Moment}
use Rattle.lru_shared_deadlines.specs.Ages.{kept_until, begun}

-- a shard: its entries, and what its calls met
abbrev pub ShardOf : Type 0 → Type 0 → Type 0 → Type 0
ShardOf K V S = Counted (Cached K (Until (Aged V)) S)

abbrev pub Ends : Type 0 → Type 0 → Type 0
Ends K V = Entry K (Until (Aged V))

module _ {K V : Type 0} where
  -- a refused entry, as it was to be put
  abbrev pub as_begun : Moment → Refused K V → Refused K (Until (Aged V))
  as_begun m r = record { cause = r.cause; key = r.key; value = begun m r.value }

  -- what a closure was shown of an entry: its key, its value with its deadline, and its weight
  abbrev pub shown : Bor K × Bor (Until (Aged V)) × ℕ → K × Until (Aged V) × ℕ
  shown item = (item.0.now, item.1.now, item.2)

  -- a closure was called with each of these entries, in order
  abbrev pub VisitsEach : {F : Type 0} → (F → Bor K × Bor (Until (Aged V)) × ℕ → F → Type 0) → F → List (Ends K V) → Type 0
  VisitsEach {F} Step visit es = (items : List (Bor K × Bor (Until (Aged V)) × ℕ)) × ((left : F) × ((map shown items ≡ map parts_of es) × FoldsTo Step visit items left))

  -- ---- by what stands for a key: a key that equals it, or what a query matches
  module _ {Q : Type 0} (eq : K → Q → Bool) where
    -- the value of a key's entry that is in its time was shown to a closure, which answered this; or there is none, and nothing was called
    abbrev pub ShowsLiving : {R : Type 0} → (Bor V → R → Type 0) → ℕ → List (Ends K V) → Q → Option R → Type 0
    ShowsLiving post time es key None = living eq time es key ≡ None
    ShowsLiving post time es key (Some answer) = (e : Ends K V) × ((living eq time es key ≡ Some e) × ((lent : Bor V) × ((lent.now ≡ e.value.value.value) × post lent answer)))

    -- a key's entry that is in its time goes first with this value, until it is due again; it is a hit
    abbrev pub Hits : {S : Type 0} → Moment → ShardOf K V S → Q → Ends K V → V → ShardOf K V S → Type 0
    Hits m before key e v after =
        (living eq m.time before.cache.entries key ≡ Some e)
        × ((after.cache ≡ with_entries before.cache (entry e.key (kept_until m v e.value.value.ends) e.weight ∷ without eq before.cache.entries key)) × (after.counts ≡ looked before.counts true))

    -- a key has no entry that is in its time, and all entries stay; it is a miss
    abbrev pub Misses : {S : Type 0} → Moment → ShardOf K V S → Q → ShardOf K V S → Type 0
    Misses m before key after = (living eq m.time before.cache.entries key ≡ None) × ((after.cache ≡ before.cache) × (after.counts ≡ looked before.counts false))

    -- a key is used, and its value is lent to a closure, which may change it; or it has no entry that is in its time, and nothing is called
    abbrev pub Lends : {R S : Type 0} → (MutBor V → ℕ → R → MutBor V → Type 0) → Moment → ShardOf K V S → Q → Option R → ShardOf K V S → Type 0
    Lends post m before key None after = Misses m before key after
    Lends post m before key (Some answer) after = (e : Ends K V) × ((v : V) × (Hits m before key e v after × Updates post e.value.value.value e.weight answer v))

    -- a key is used, and a clone of its value is answered, unless there is no memory for one; or it has no entry that is in its time
    abbrev pub Gets : {S : Type 0} → (V → V → Type 0) → Moment → ShardOf K V S → Q → Result (Option V) AllocError → ShardOf K V S → Type 0
    Gets clones m before key (Ok None) after = Misses m before key after
    Gets clones m before key (Ok (Some v)) after = (e : Ends K V) × (Hits m before key e e.value.value.value after × clones e.value.value.value v)
    Gets clones m before key (Err error) after = (e : Ends K V) × Hits m before key e e.value.value.value after

  -- ---- what a closure is shown
  -- an entry was handed to a closure, if there was one
  abbrev pub HandsOver : {F : Type 0} → (F → Ends K V → F → Type 0) → Option (Ends K V) → Type 0
  HandsOver Step None = Unit {0}
  HandsOver {F} Step (Some e) = (p : F) × ((q : F) × Step p e q)

  module _ {F S : Type 0} (Step : F → Ends K V → F → Type 0) where
    -- of so many of the last entries those go that are past their deadline, and are counted so
    abbrev pub SweepsShard : F → ℕ → ℕ → ShardOf K V S → ShardOf K V S → Type 0
    SweepsShard visit time most before after =
        Sweeps Step visit time most before.cache after.cache × (after.counts ≡ fewer before.counts Past (size_of before.cache) (size_of after.cache))

    -- room is made for an entry of this weight by what is past, and that is counted so
    abbrev pub MakesShardRoom : F → ℕ → ℕ → ShardOf K V S → ShardOf K V S → Type 0
    MakesShardRoom visit time w before after =
        MakesRoom Step visit time w before.cache after.cache × (after.counts ≡ fewer before.counts Past (size_of before.cache) (size_of after.cache))

    -- an entry of what begins at a time is put, as in a cache, or refused, and that is counted
    abbrev pub Places : F → (K → K → Bool) → Moment → ShardOf K V S → K → V → ℕ → Result (Option (Ends K V)) (Refused K V) → ShardOf K V S → Type 0
    Places visit eq m before k v w (Ok was) after = PutsCounted Step visit eq before k (begun m v) w (Ok was) after
    Places visit eq m before k v w (Err r) after = PutsCounted Step visit eq before k (begun m v) w (Err (as_begun m r)) after

    -- the same once there is room by what is past. Of the closure is not said in which state the first calls leave it
    abbrev pub PutsIn : F → (K → K → Bool) → Moment → ShardOf K V S → K → V → ℕ → Result (Option (Ends K V)) (Refused K V) → ShardOf K V S → Type 0
    PutsIn visit eq m before k v w result after = (mid : ShardOf K V S) × (MakesShardRoom visit m.time w before mid × ((seen : F) × Places seen eq m mid k v w result after))

    -- the same for a value that was made where the key had none, unless it has one by now, which is newer, and stays
    abbrev pub PutsMissing : F → (K → K → Bool) → Moment → ShardOf K V S → K → V → ℕ → Result (Unit {0}) (Refused K V) → ShardOf K V S → Type 0
    PutsMissing visit eq m before k v w (Ok told) after =
        ((is_some (living eq m.time before.cache.entries k) ≡ true) × (after ≡ before))
        ⊎ ((is_some (living eq m.time before.cache.entries k) ≡ false) × ((was : Option (Ends K V)) × (PutsIn visit eq m before k v w (Ok was) after × HandsOver Step was)))
    PutsMissing visit eq m before k v w (Err r) after = (is_some (living eq m.time before.cache.entries k) ≡ false) × PutsIn visit eq m before k v w (Err r) after

-- ---- a value that is made where its key has none. `does` says what is known of all shards where that of the key is changed so, and `MayEnd` whether others may end a making
module _ {K V S E F T : Type 0} (MayEnd : Type 0) (eq : K → K → Bool) (clones : V → V → Type 0) (Makes : Result (V × ℕ) E → Type 0) (Step : F → Ends K V → F → Type 0) (visit : F)
    (does : T → (ShardOf K V S → ShardOf K V S → Type 0) → T → Type 0) (m : Moment) (key : K) where
  -- a clone of what was made is answered, and it is put
  abbrev pub PutsMade : V × ℕ → V → ShardOf K V S → ShardOf K V S → Type 0
  PutsMade made v before after = clones made.0 v × PutsMissing Step visit eq m before key made.0 made.1 (Ok tt) after

  -- it is refused, or there was no memory for the clone, and nothing changes; it is handed back
  abbrev pub RefusesMade : V × ℕ → Refused K V → ShardOf K V S → ShardOf K V S → Type 0
  RefusesMade made r before after = PutsMissing Step visit eq m before key made.0 made.1 (Err r) after ⊎ ((r.cause ≡ NoMemory) × ((r.key ≡ key) × ((r.value ≡ made.0) × (after ≡ before))))

  -- what follows where a value was made, or none, for a key that had no entry
  abbrev pub EndsMaking : T → Result (V × ℕ) E → Result V (NotGot K V E) → T → Type 0
  EndsMaking old (Ok made) (Ok v) new = does old (PutsMade made v) new ⊎ (MayEnd × (clones made.0 v × does old (λ before after. after ≡ before) new))
  EndsMaking old (Ok made) (Err (Unput r)) new = does old (RefusesMade made r) new
  EndsMaking old (Ok made) (Err (Unmade k e)) new = ⊥
  EndsMaking old (Ok made) (Err (Memory k)) new = ⊥
  EndsMaking old (Err error) (Err (Unmade k e)) new = (k ≡ key) × ((e ≡ error) × does old (λ before after. after ≡ before) new)
  EndsMaking old (Err error) (Ok v) new = ⊥
  EndsMaking old (Err error) (Err (Unput r)) new = ⊥
  EndsMaking old (Err error) (Err (Memory k)) new = ⊥

  -- a key that has an entry in its time is used, and a clone of its value is answered
  abbrev pub Answers : Result V (NotGot K V E) → ShardOf K V S → ShardOf K V S → Type 0
  Answers (Ok v) before after = Gets eq clones m before key (Ok (Some v)) after
  Answers (Err (Memory k)) before after = (k ≡ key) × (((e : AllocError) × Gets eq clones m before key (Err e) after) ⊎ Gets eq clones m before key (Ok None) after)
  Answers (Err (Unmade k e)) before after = ⊥
  Answers (Err (Unput r)) before after = ⊥

  -- that; or it has none, and one is made, under no lock, and put
  abbrev pub GetsOrPuts : T → Result V (NotGot K V E) → T → Type 0
  GetsOrPuts old answer new =
      does old (Answers answer) new
      ⊎ ((mid : T) × (does old (λ before after. Gets eq clones m before key (Ok None) after) mid
      × ((made : Result (V × ℕ) E) × (Makes made × EndsMaking mid made answer new))))
