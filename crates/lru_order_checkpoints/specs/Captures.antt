-- Rows copied out of the shards of an order, and put back.
use Rattle.std.specs.Prelude.{◌≡◌, ◌⊎◌, ℕ, suc, Bool, List, [], ◌∷◌, map, Result, Ok, Err, Vec}
use Rattle.std.specs.declared.alloc.Global.{Global}
use Rattle.lru_frames.specs.declared.row.Row.{Row}
use Rattle.lru_frames.specs.Copies.{AreEach}
use Rattle.lru_shard.specs.declared.unit.Refused.{Refused}
use Rattle.lru_shard.specs.Row as order
use Rattle.lru_shard.specs.Shards.{AreAtHome}
use Rattle.lru_shared_order.specs.LruCalls.{MayInsertTail}
use Rattle.lru_cores.specs.Core.{Core, list_at}
use Rattle.lru_cores.specs.CoreCalls.{CoreInsertsTail}

-- a row as the one that is put for it
abbrev pub order_row : {V : Type 0} → Row ℕ V → order.Row (ℕ × V)
order_row row = record { key = row.key; value = (row.key, row.data); weight = row.weight }

module _ {V : Type 0} where
  module _ (IsClone : V → V → Type 0) where
    -- a row with the pair's key, a clone of its value, and the weight
    abbrev pub IsCopy : (ℕ × V) × ℕ → Row ℕ V → Type 0
    IsCopy pair row = (row.key ≡ pair.0.0) × (IsClone pair.0.1 row.data × (row.weight ≡ pair.1))

    -- copies of the rows of one shard
    abbrev pub AreCopies : List (order.Row (ℕ × V)) → List (Row ℕ V) → Type 0
    AreCopies list rows = AreEach IsCopy (map order.pair_of list) rows

  -- rows may be the copies of a shard of n that has this number: there is one of whose rows they are, and their keys are its own
  abbrev pub MayCopy : ℕ → ℕ → (V → V → Type 0) → List (Row ℕ V) → Type 0
  MayCopy n number IsClone rows = (list : List (order.Row (ℕ × V))) × (AreAtHome n number list × AreCopies IsClone list rows)

  -- a row put last in the shard of its key
  abbrev pub PutsRow : Core (ℕ × V) → Row ℕ V → Result Bool (Refused (ℕ × V)) → Core (ℕ × V) → Type 0
  PutsRow old row answer new = CoreInsertsTail old row.key (row.key, row.data) row.weight answer new

  -- rows put one after the other, up to the first that is refused
  abbrev pub PutsEach : Core (ℕ × V) → List (Row ℕ V) → Result (Unit {0}) (Refused (ℕ × V)) → Core (ℕ × V) → Type 0
  PutsEach old [] answer new = (answer ≡ Ok tt) × (new ≡ old)
  PutsEach old (row ∷ rows) answer new = ((mid : Core (ℕ × V)) × ((added : Bool) × (PutsRow old row (Ok added) mid × PutsEach mid rows answer new)))
      ⊎ ((refused : Refused (ℕ × V)) × ((answer ≡ Err refused) × PutsRow old row (Err refused) new))

  -- a row may have been put last in a shard of n, or refused, so: there is one of which it is told
  abbrev pub MayPutRow : ℕ → Row ℕ V → Result Bool (Refused (ℕ × V)) → Type 0
  MayPutRow n row answer = MayInsertTail n row.key (row.key, row.data) row.weight answer

  -- the same of rows one after the other, up to the first that is refused, each at a moment of its own
  abbrev pub MayPutEach : ℕ → List (Row ℕ V) → Result (Unit {0}) (Refused (ℕ × V)) → Type 0
  MayPutEach n [] answer = answer ≡ Ok tt
  MayPutEach n (row ∷ rows) answer = ((added : Bool) × (MayPutRow n row (Ok added) × MayPutEach n rows answer))
      ⊎ ((refused : Refused (ℕ × V)) × ((answer ≡ Err refused) × MayPutRow n row (Err refused)))

  -- the rows of each shard put one after the other, up to the first that is refused
  abbrev pub PutsShards : Core (ℕ × V) → List (Vec (Row ℕ V) Global) → Result (Unit {0}) (Refused (ℕ × V)) → Core (ℕ × V) → Type 0
  PutsShards old [] answer new = (answer ≡ Ok tt) × (new ≡ old)
  PutsShards old (rows ∷ shards) answer new = ((mid : Core (ℕ × V)) × (PutsEach old rows.items (Ok tt) mid × PutsShards mid shards answer new))
      ⊎ ((refused : Refused (ℕ × V)) × ((answer ≡ Err refused) × PutsEach old rows.items (Err refused) new))

  -- the same, each row at a moment of its own
  abbrev pub MayPutShards : ℕ → List (Vec (Row ℕ V) Global) → Result (Unit {0}) (Refused (ℕ × V)) → Type 0
  MayPutShards n [] answer = answer ≡ Ok tt
  MayPutShards n (rows ∷ shards) answer = (MayPutEach n rows.items (Ok tt) × MayPutShards n shards answer)
      ⊎ ((refused : Refused (ℕ × V)) × ((answer ≡ Err refused) × MayPutEach n rows.items (Err refused)))

  -- the shards from this one on have the rows that were put for these, and no others
  abbrev pub ArePlaced : ℕ → List (Vec (Row ℕ V) Global) → Core (ℕ × V) → Type 0
  ArePlaced shard [] core = Unit {0}
  ArePlaced shard (rows ∷ shards) core = (list_at core shard ≡ map order_row rows.items) × ArePlaced (suc shard) shards core
