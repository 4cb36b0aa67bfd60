-- What histories of shards and receipts of seats say of each other.
use Rattle.std.specs.Prelude.{◌≡◌, ℕ, ◌<◌, List, Some, slice_get}
use Rattle.lru_recording.specs.declared.entry.Entry.{Entry}
use Rattle.lru_recording.specs.declared.entry.Receipt.{Receipt}
use Rattle.lru_recording.specs.declared.entry.Stamp.{Stamp}
use Rattle.lru_short_locks.specs.Hands.{Among}
use Rattle.lru_recording.specs.Stamps.{entry, receipt, stamps_in}

-- receipt t of seat i, which names a shard and a place, is the entry at that place of that shard's history, with seat i
-- and turn t
abbrev pub AreKept : List (List Entry) → List (List Receipt) → Type 0
AreKept histories seats =
    (i t : ℕ) (rs : List Receipt) (r : Receipt) → slice_get seats i ≡ Some rs → slice_get rs t ≡ Some r
    → (h : List Entry) × ((slice_get histories r.shard ≡ Some h) × (slice_get h r.place ≡ Some (entry i t r.call r.reply)))

-- each entry has such a receipt
abbrev pub AreHeld : List (List Entry) → List (List Receipt) → Type 0
AreHeld histories seats =
    (s p : ℕ) (h : List Entry) (e : Entry) → slice_get histories s ≡ Some h → slice_get h p ≡ Some e
    → (rs : List Receipt) × ((slice_get seats e.seat ≡ Some rs) × (slice_get rs e.turn ≡ Some (receipt s p e.call e.reply)))

-- the places of one seat in one shard rise with its turns
abbrev pub PlacesRise : List (List Receipt) → Type 0
PlacesRise seats =
    (i t u : ℕ) (rs : List Receipt) (r q : Receipt) → slice_get seats i ≡ Some rs → t < u → slice_get rs t ≡ Some r → slice_get rs u ≡ Some q
    → r.shard ≡ q.shard → r.place < q.place

-- the histories have the receipts' entries, each at its place, and no others
pub record AreTied (histories : List (List Entry)) (seats : List (List Receipt)) : Type 0 where
  pub kept : AreKept histories seats
  pub held : AreHeld histories seats
  pub rise : PlacesRise seats

-- a book that has the entries of these histories of n shards, and no others
pub record IsBook (n : ℕ) (histories : List (List Entry)) (shards : List ℕ) (book : List Stamp) : Type 0 where
  pub named : (s : ℕ) → s < n → Among s shards
  pub to : (x : Stamp) → Among x book → (s : ℕ) × ((h : List Entry) × ((slice_get histories s ≡ Some h) × Among x (stamps_in s 0 h)))
  pub from : (x : Stamp) (s : ℕ) (h : List Entry) → slice_get histories s ≡ Some h → Among x (stamps_in s 0 h) → Among x book
