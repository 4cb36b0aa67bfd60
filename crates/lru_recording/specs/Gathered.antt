-- Shards taken out of their locks and put by number, and the token that has their books.
use Rattle.std.specs.Prelude.{◌≡◌, ℕ, ◌+◌, List, [], ◌∷◌, length, Option, Some, None, slice_get}
use Rattle.atomic_table.specs.Table.{Me}
use Rattle.lru_recording.specs.declared.entry.Stamp.{Stamp}
use Rattle.lru_recording.specs.declared.entry.Hand.{Hand}
use Rattle.lru_recording.specs.declared.entry.Entry.{Entry}
use Rattle.lru_short_locks.specs.Hands.{Among}
use Rattle.lru_recording.specs.Ties.{hand}
use Rattle.lru_recording.specs.Stamps.{stamps_in, TurnsRise}

-- how many places are empty
abbrev pub empty_in : {A : Type 0} → List (Option A) → ℕ
empty_in [] = 0
empty_in (None ∷ os) = empty_in os + 1
empty_in (Some x ∷ os) = empty_in os

-- what stands at a place has its number
abbrev pub ArePlaced : {A : Type 0} → (A → ℕ) → List (Option A) → Type 0
ArePlaced {A} number slots = (i : ℕ) (k : A) → slice_get slots i ≡ Some (Some k) → number k ≡ i

-- of n places, what stands at a place has its number, and the token has the books of all that stand
pub record IsGathered {A : Type 0} (number : A → ℕ) (history : A → List Entry) (n : ℕ) (slots : List (Option A)) (me : Me Stamp Hand) : Type 0 where
  pub len : length slots ≡ n
  pub shape : me ≡ (hand me.0.shards [] me.0.book [], [])
  pub placed : ArePlaced number slots
  pub named : (i : ℕ) (k : A) → slice_get slots i ≡ Some (Some k) → Among i me.0.shards
  pub book_to : (x : Stamp) → Among x me.0.book → (i : ℕ) × ((k : A) × ((slice_get slots i ≡ Some (Some k)) × Among x (stamps_in i 0 (history k))))
  pub book_from : (x : Stamp) (i : ℕ) (k : A) → slice_get slots i ≡ Some (Some k) → Among x (stamps_in i 0 (history k)) → Among x me.0.book

-- in each of some histories the turns of each seat rise
abbrev pub EachRises : List (List Entry) → Type 0
EachRises histories = (s : ℕ) (h : List Entry) → slice_get histories s ≡ Some h → TurnsRise h
