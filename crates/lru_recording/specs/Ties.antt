-- Stamps that shards keep in books and seats keep as slips. Every stamp in a book is somewhere a slip, and the other way round.
use Rattle.std.specs.Prelude.{◌≡◌, ℕ, zero, suc, ◌+◌, ◌<◌, ◌≤◌, ◌==◌, if◌then◌else◌, List, [], ◌∷◌, ◌++◌, ◌⊎◌}
use mathlib.Core.Option.{Option, some, none}
use lib.ListN.{get_elem?}
use Rattle.atomic_table.specs.Table.{Me, Step}
use Rattle.lru_short_locks.specs.Hands.{total, times, up, Among, Held}
use Rattle.lru_recording.specs.declared.entry.Stamp.{Stamp}
use Rattle.lru_recording.specs.declared.entry.Hand.{Hand}
use Rattle.lru_recording.specs.declared.entry.Names.{Names}

abbrev pub hand : List ℕ → List ℕ → List Stamp → List Stamp → Hand
hand shards seats book slips = record { shards = shards; seats = seats; book = book; slips = slips }

abbrev pub Booked : Stamp → List Hand → Type 0
Booked x vs = Held (λ (v : Hand). v.book) x vs

abbrev pub Slipped : Stamp → List Hand → Type 0
Slipped x vs = Held (λ (v : Hand). v.slips) x vs

-- a hand has stamps of its own shards in its book, and of its own seats among its slips
abbrev pub Owns : Hand → Type 0
Owns v = ((x : Stamp) → Among x v.book → Among x.shard v.shards) × ((x : Stamp) → Among x v.slips → Among x.seat v.seats)

abbrev pub AllOwn : List Hand → Type 0
AllOwn vs = (j : ℕ) (v : Hand) → get_elem? vs j ≡ some v → Owns v

-- each shard and each seat is in one hand, each hand has what is its own, and the books have the stamps that the slips have
pub record Ties (k : Names) (vs : List Hand) : Type 0 where
  pub shards : (x : ℕ) → total (λ v. times x v.shards) vs ≡ times x (up 0 k.shards)
  pub seats : (x : ℕ) → total (λ v. times x v.seats) vs ≡ times x (up 0 k.seats)
  pub own : AllOwn vs
  pub slipped : (x : Stamp) → Booked x vs → Slipped x vs
  pub booked : (x : Stamp) → Slipped x vs → Booked x vs

-- what the book has of the hand's own seats is among its slips
abbrev pub HasSlips : Hand → Type 0
HasSlips v = (x : Stamp) → Among x v.book → Among x.seat v.seats → Among x v.slips

abbrev pub stamped : Option Stamp → Hand → Hand
stamped none v = v
stamped (some x) v = hand v.shards v.seats (v.book ++ x ∷ []) (v.slips ++ x ∷ [])

-- a step that stamps
abbrev pub Stamps : Step Stamp → Me Stamp Hand → ℕ → Me Stamp Hand → Type 0
Stamps st m n m' = (m' ≡ (stamped st.said m.0, m.1)) × HasSlips m.0

-- what a hand shows, where there are so many shards and seats
pub record Shows (shards seats : ℕ) (v : Hand) : Type 0 where
  pub once : (x : ℕ) → times x v.shards ≤ times x (up 0 shards)
  pub slips : HasSlips v
  pub book : (x : Stamp) → Among x v.slips → Among x.shard v.shards → Among x v.book
  pub of_seat : (x : Stamp) → Among x v.book → x.seat < seats
  pub of_shard : (x : Stamp) → Among x v.slips → x.shard < shards

-- a step that looks
abbrev pub Looks : Step Stamp → Me Stamp Hand → ℕ → Me Stamp Hand → Type 0
Looks st m n m' = (m' ≡ m) × Shows st.first st.second m.0

abbrev pub joined : Hand → Hand → Hand
joined v w = hand (v.shards ++ w.shards) (v.seats ++ w.seats) (v.book ++ w.book) (v.slips ++ w.slips)
