-- A value that is made where its key has none, and is put over nothing newer.
use Rattle.std.specs.Prelude.{◌≡◌, ℕ, ◌⊎◌, Bool, true, false, Option, Some, None, Result, Ok, Err, is_some}
use Rattle.std.specs.declared.alloc.AllocError.{AllocError}
use Rattle.lru_owned_cache.specs.declared.entry.Entry.{Entry}
use Rattle.lru_owned_cache.specs.declared.cache.Refused.{Refused}
use Rattle.lru_owned_cache.specs.declared.cache.Cause.TheVariants.{Memory as NoMemory}
use Rattle.lru_owned_cache.specs.Cache.{entry_of}
use Rattle.lru_segmented.specs.Segmented.{entries}
use Rattle.lru_shared_cache.specs.declared.calls.NotGot.{NotGot}
use Rattle.lru_shared_cache.specs.declared.calls.NotGot.TheVariants.{Memory, Unmade, Refused as Unput}
use Rattle.lru_shared_segmented.specs.Calls.{ShardOf, Gets, PutsCounted}

-- an entry is put of a key that had none, unless it has one by now, which is newer, and stays
abbrev pub PutsMissing : {K V S F : Type 0} → (F → Entry K V → F → Type 0) → F → (K → K → Bool) → ShardOf K V S → K → V → ℕ → Result (Unit {0}) (Refused K V) → ShardOf K V S → Type 0
PutsMissing {K} {V} Step visit eq before k v w (Ok told) after =
    ((is_some (entry_of eq (entries before.cache) k) ≡ true) × (after ≡ before))
    ⊎ ((is_some (entry_of eq (entries before.cache) k) ≡ false) × ((was : Option (Entry K V)) × PutsCounted Step visit eq before k v w (Ok was) after))
PutsMissing Step visit eq before k v w (Err r) after = (is_some (entry_of eq (entries before.cache) k) ≡ false) × PutsCounted Step visit eq before k v w (Err r) after

-- `does` says what is known of all shards where that of the key is changed so, and `MayEnd` whether others may end a making
module _ {K V S E F T : Type 0} (MayEnd : Type 0) (eq : K → K → Bool) (clones : V → V → Type 0) (Makes : Result (V × ℕ) E → Type 0) (Step : F → Entry K V → F → Type 0) (visit : F)
    (does : T → (ShardOf K V S → ShardOf K V S → Type 0) → T → Type 0) (key : K) where
  -- a clone of what was made is answered, and it is put, unless there is a newer one
  abbrev pub PutsMade : V × ℕ → V → ShardOf K V S → ShardOf K V S → Type 0
  PutsMade made v before after = clones made.0 v × PutsMissing Step visit eq before key made.0 made.1 (Ok tt) after

  -- it is refused, or there was no memory for the clone, and nothing changes; it is handed back
  abbrev pub RefusesMade : V × ℕ → Refused K V → ShardOf K V S → ShardOf K V S → Type 0
  RefusesMade made r before after = PutsMissing Step visit eq before key made.0 made.1 (Err r) after ⊎ ((r.cause ≡ NoMemory) × ((r.key ≡ key) × ((r.value ≡ made.0) × (after ≡ before))))

  -- what follows where a value was made, or none, for a key that had no entry
  abbrev pub EndsMaking : T → Result (V × ℕ) E → Result V (NotGot K V E) → T → Type 0
  EndsMaking old (Ok made) (Ok v) new = does old (PutsMade made v) new ⊎ (MayEnd × (clones made.0 v × does old (λ before after. after ≡ before) new))
  EndsMaking old (Ok made) (Err (Unput r)) new = does old (RefusesMade made r) new
  EndsMaking old (Ok made) (Err (Unmade k e)) new = ⊥
  EndsMaking old (Ok made) (Err (Memory k)) new = ⊥
  EndsMaking old (Err error) (Err (Unmade k e)) new = (k ≡ key) × ((e ≡ error) × does old (λ before after. after ≡ before) new)
  EndsMaking old (Err error) (Ok v) new = ⊥
  EndsMaking old (Err error) (Err (Unput r)) new = ⊥
  EndsMaking old (Err error) (Err (Memory k)) new = ⊥

  -- a key that has an entry is used, and a clone of its value is answered
  abbrev pub Answers : Result V (NotGot K V E) → ShardOf K V S → ShardOf K V S → Type 0
  Answers (Ok v) before after = Gets eq clones before key (Ok (Some v)) after
  Answers (Err (Memory k)) before after = (k ≡ key) × (((e : AllocError) × Gets eq clones before key (Err e) after) ⊎ Gets eq clones before key (Ok None) after)
  Answers (Err (Unmade k e)) before after = ⊥
  Answers (Err (Unput r)) before after = ⊥

  -- that; or it has none, and one is made, under no lock, and put
  abbrev pub GetsOrPuts : T → Result V (NotGot K V E) → T → Type 0
  GetsOrPuts old answer new =
      does old (Answers answer) new
      ⊎ ((mid : T) × (does old (λ before after. Gets eq clones before key (Ok None) after) mid
      × ((made : Result (V × ℕ) E) × (Makes made × EndsMaking mid made answer new))))
