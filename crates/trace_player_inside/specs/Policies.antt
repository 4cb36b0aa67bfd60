-- What policies make of a trace: a cache is asked for one object after another, and says of each whether it is there.
use Rattle.std.specs.Prelude.{◌≡◌, ℕ, ◌+◌, ◌*◌, ◌/◌, ◌<◌, ◌⊎◌, min, List, Bool, true, false, None, Ok, IsSome, nat_eq, nat_lt, ◌^◌, if◌then◌else◌}
use Rattle.std.specs.List.{FoldsTo}
use Rattle.lru_index.specs.declared.hashing.SeededHashes.{SeededHashes}
use Rattle.lru_owned_cache.specs.Cache.{Cached, Puts, entry_of, used, with_entries}
use Rattle.lru_segmented.specs.Segmented.{Segmented, Uses, entries}
use Rattle.lru_segmented.specs.Segmented.{Puts as PutsLower}
use Rattle.lru_admission.specs.Sketch.{counted}
use Rattle.lru_admission.specs.Admission.{Watched, watched, TurnsAway, PutsIfAsked}
use Rattle.trace_player_inside.specs.declared.player.Request.{Request}
use Rattle.trace_player_inside.specs.Traces.{load}

module _ {C : Type 0} (Asks : C → Request → Bool → C → Type 0) where
  -- a cache that has found so many objects is asked for one more
  abbrev pub Counts : C × ℕ → Request → C × ℕ → Type 0
  Counts old q new = (found : Bool) × (Asks old.0 q found new.0 × (new.1 ≡ old.1 + (if found then 1 else 0)))

  -- asked for all of these objects in turn, this cache finds so many
  abbrev pub Finds : C → List Request → ℕ → Type 0
  Finds first qs hits = (last : C) × FoldsTo Counts (first, 0) qs (last, hits)

-- objects have no values here, and what goes for others is shown to nobody
abbrev pub Plain : Type 0
Plain = Cached ℕ (Unit {0}) SeededHashes

abbrev pub InSegments : Type 0
InSegments = Segmented ℕ (Unit {0}) SeededHashes

abbrev pub Asking : Type 0
Asking = Watched ℕ (Unit {0}) SeededHashes

abbrev pub Unseen : {A : Type 0} → Unit {0} → A → Unit {0} → Type 0
Unseen p x q = Unit {0}

-- an object is too heavy for a cache by itself
abbrev pub NeverFits : ℕ → ℕ → Request → Type 0
NeverFits most_weight most_entries q = (most_weight < load q) ⊎ (most_entries ≡ 0)

-- first come: an object that is there changes nothing. Another one is put, but for one that never fits
abbrev pub AsksFirstCome : Plain → Request → Bool → Plain → Type 0
AsksFirstCome old q true new = IsSome (entry_of nat_eq old.entries q.key) × (new ≡ old)
AsksFirstCome old q false new =
    (entry_of nat_eq old.entries q.key ≡ None) × (Puts nat_eq Unseen tt old q.key tt (load q) (Ok None) new ⊎ (NeverFits old.most_weight old.most_entries q × (new ≡ old)))

-- in two segments: an object that is there is used. Another one is put, but for one that never fits
abbrev pub AsksSegments : InSegments → Request → Bool → InSegments → Type 0
AsksSegments old q true new = Uses nat_eq old q.key true new
AsksSegments old q false new =
    (entry_of nat_eq (entries old) q.key ≡ None) × (PutsLower nat_eq Unseen tt old q.key tt (load q) (Ok None) new ⊎ (NeverFits old.most_weight old.most_entries q × (new ≡ old)))

-- where keys are hashed so, by what a cache hashes with: a use of the object is counted, and if it is there, it is used
abbrev pub after_use : (SeededHashes → ℕ → ℕ) → Asking → Request → Asking
after_use hash old q = watched (with_entries old.cache (used nat_eq old.cache.entries q.key)) (counted old.sketch (hash old.cache.hashes q.key))

-- with a sketch: an object that is not there is put where it is let in; one that is turned away, or never fits, is not
abbrev pub AsksSketch : (SeededHashes → ℕ → ℕ) → Asking → Request → Bool → Asking → Type 0
AsksSketch hash old q true new = IsSome (entry_of nat_eq old.cache.entries q.key) × (new ≡ after_use hash old q)
AsksSketch hash old q false new =
    (entry_of nat_eq old.cache.entries q.key ≡ None) × (PutsIfAsked nat_eq (hash old.cache.hashes) Unseen tt (after_use hash old q) q.key tt (load q) (Ok None) new
    ⊎ ((TurnsAway nat_eq (hash old.cache.hashes) (after_use hash old q) q.key (load q) ⊎ NeverFits old.cache.most_weight old.cache.most_entries q) × (new ≡ after_use hash old q)))

-- so many tenths of a limit, and no more than all of it
abbrev pub tenths_of : ℕ → ℕ → ℕ
tenths_of limit tenths = limit * min tenths 10 / 10

-- a key with this hash is in the sample of one key in so many
abbrev pub is_chosen : ℕ → ℕ → Bool
is_chosen hash rate = nat_lt (hash * rate) (2 ^ 64)
