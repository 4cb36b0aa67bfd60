-- What a shard evicts under its own lock: last rows, while it is past the room that the other shards leave it.
use Rattle.std.specs.Prelude.{◌≡◌, ℕ, ◌<◌, ◌≤◌, ◌==◌, List, ◌++◌, length, take, reverse, map, All, Option, None, Some, MatchOption, MatchBool, Result, Ok, Err, IsTrue, IsFalse}
use Rattle.std.specs.List.{FoldsTo}
use Rattle.lru_shard.specs.declared.unit.Refused.{Refused}
use Rattle.lru_shard.specs.Row.{Row, pair_of, weight_of, last_row, without_last}
use Rattle.lru_shard.specs.Shard.{Shard, shard}
use Rattle.lru_shard.specs.Limits.{is_past}
use Rattle.lru_shard.specs.ShardCalls.{AdmitsRaised}

module _ {T : Type 0} where
  -- the longest front is kept that is within a weight and a length, and never less than the first row; a closure was called with each
  -- row that is gone, the last one first
  pub record Sheds {F : Type 0} (Step : F → T × ℕ → F → Type 0) (visit : F) (old : Shard T) (weight : ℕ) (len : Option ℕ) (new : Shard T) (left : F) : Type 0 where
    pub gone : List (Row T)
    pub split : old.rows ≡ new.rows ++ gone
    pub cap : new.cap ≡ old.cap
    pub some : 0 < length old.rows → 0 < length new.rows
    pub fits : 1 < length new.rows → IsFalse (is_past weight len (weight_of new.rows) (length new.rows))
    pub longest : (n : ℕ) → length new.rows < n → n ≤ length old.rows → IsTrue (is_past weight len (weight_of (take n old.rows)) n)
    pub visited : FoldsTo Step visit (map pair_of (reverse gone)) left

  -- an admission, and then evictions of that shard; or a refusal, and nothing else
  abbrev pub AdmitsAndSheds : {F R : Type 0} → (F → T × ℕ → F → Type 0) → F → Shard T → ℕ → T → ℕ → ℕ → Option ℕ → Result R (Refused T) → Shard T → F → Type 0
  AdmitsAndSheds Step visit old k d w weight len (Ok _) new left =
      (was : ℕ) × ((mid : Shard T) × (AdmitsRaised old k d w (Ok was) mid × Sheds Step visit mid weight len new left))
  AdmitsAndSheds Step visit old k d w weight len (Err r) new left = AdmitsRaised old k d w (Err r) new × (left ≡ visit)

  -- the last row leaves, if there is one, and it is not the row of this key
  abbrev pub EvictsBesides : Shard T → ℕ → Option (T × ℕ) → Shard T → Type 0
  EvictsBesides old k answer new =
      MatchOption (last_row old.rows) ((answer ≡ None) × (new ≡ old))
      (λ r. MatchBool (r.key == k) ((answer ≡ None) × (new ≡ old)) ((answer ≡ Some (pair_of r)) × (new ≡ shard (without_last old.rows) old.cap)))

  -- a closure was called with pairs, none of which weighs more than this
  abbrev pub VisitsLight : {F : Type 0} → (F → T × ℕ → F → Type 0) → F → ℕ → F → Type 0
  VisitsLight Step visit most left = (pairs : List (T × ℕ)) × (All (λ pair. pair.1 ≤ most) pairs × FoldsTo Step visit pairs left)
