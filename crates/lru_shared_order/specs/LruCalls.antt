-- What the answers of an `Lru` say by themselves, where nothing is known of the shard that other threads may change.
use Rattle.std.specs.Prelude.{◌≡◌, ℕ, ◌%◌, Bool, ◌⊎◌, List, Option, Result, IfSome}
use Rattle.lru_shard.specs.declared.unit.Refused.{Refused}
use Rattle.lru_shard.specs.declared.unit.Cause.TheVariants.{Weight}
use Rattle.lru_shard.specs.Shard.{Shard, IsShard}
use Rattle.lru_shard.specs.Row.{is_held}
use Rattle.lru_shard.specs.Unit.{raised, started, InsertsTail}
use Rattle.lru_shard.specs.Limits.{cap_of}
use Rattle.lru_shard.specs.Shards.{AreAtHome}
use Rattle.lru_shared_order.specs.declared.admission.Admission.{Admission}
use Rattle.lru_shared_order.specs.declared.lru.Lru.{Lru}
use Rattle.lru_shared_order.specs.Batches.{AdmitsEach}

-- the length above which an `Lru` is over, if there is one
abbrev pub watermark_of : {T : Type 0} {N : ℕ} → Lru T N → Option ℕ
watermark_of lru = lru.watermark

-- what a refused `update_or_admit` hands back: what was made, where it weighs too much, or nothing
abbrev pub HandsBack : {T : Type 0} → (T × ℕ → Type 0) → Refused (Option (T × ℕ)) → Type 0
HandsBack Makes refused = IfSome refused.held (λ made. Makes made × (refused.cause ≡ Weight))

-- a weight that `increment_weight` may answer: one that was there, raised, or that of a new row
abbrev pub MayAnswer : ℕ → Option ℕ → ℕ → Type 0
MayAnswer delta most w = ((was : ℕ) × (w ≡ raised was delta most)) ⊎ (w ≡ started delta most)

-- a shard of n may have been seen that has this number: there is one of which this is told
pub record MaySee {T A : Type 0} (n number : ℕ) (tells : Shard T → A → Type 0) (answer : A) : Type 0 where
  pub seen : Shard T
  pub valid : IsShard seen
  pub cap : seen.cap ≡ cap_of n
  pub home : AreAtHome n number seen.rows
  pub told : tells seen answer

-- a key may have had a row, or none: there is a shard of n, the key's own, of which this is told
abbrev pub MayHold : (T : Type 0) → ℕ → ℕ → Bool → Type 0
MayHold T n key held = MaySee {T = T} n (key % n) (λ s b. b ≡ is_held s.rows key) held

-- a row may have been put last, or refused, so: there is a shard of n of which it is told
abbrev pub MayInsertTail : {T : Type 0} → ℕ → ℕ → T → ℕ → Result Bool (Refused T) → Type 0
MayInsertTail {T} n key held weight answer = (old : Shard T) × ((new : Shard T) × ((old.cap ≡ cap_of n) × InsertsTail old key held weight answer new))

-- a batch was asked of shard s of n, whatever rows it had
pub record IsAskedOf {T : Type 0} (n s : ℕ) (batch answered : List (Admission T)) : Type 0 where
  pub old : Shard T
  pub new : Shard T
  pub cap : old.cap ≡ cap_of n
  pub asked : AdmitsEach n s old batch answered new
