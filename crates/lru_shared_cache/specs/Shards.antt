-- Shards that are told by their numbers: what a call on one of them answers, and what it leaves.
use Rattle.std.specs.Prelude.{◌≡◌, ℕ, zero, suc, ◌%◌, ◌⊎◌, List, slice_index_or, slice_set, Option, Some, None, Result, Ok, Err}
use Rattle.std.specs.Borrow.{Bor, MutBor}

-- the shard of a hash among so many: its low 32 bits tell it
abbrev pub home : ℕ → ℕ → ℕ
home many hash = hash % 4294967296 % many

-- a closure that was shown a shard answered this
pub record Looks {S R : Type 0} (post : Bor S → R → Type 0) (answer : R) (shard : S) : Type 0 where
  pub lent : Bor S
  pub shows : lent.now ≡ shard
  pub called : post lent answer

-- a closure that was lent a shard answered this, and left another in its place
pub record Acts {S R : Type 0} (post : MutBor S → R → MutBor S → Type 0) (answer : R) (before after : S) : Type 0 where
  pub lent : MutBor S
  pub left : MutBor S
  pub shows : lent.now ≡ before
  pub called : post lent answer left
  pub leaves : left.now ≡ after

-- a closure that was lent a shard and looks for a value answered this; or that there is none, and there was no memory to note that one is being made
abbrev pub Begins : {S V E : Type 0} → (MutBor S → Result (Option V) E → MutBor S → Type 0) → Result (Option V) E → S → S → Type 0
Begins post (Ok found) before after = Acts post (Ok found) before after
Begins post (Err e) before after = Acts post (Err e) before after ⊎ Acts post (Ok None) before after

-- a closure that ends the making of a value was lent a shard and answered this, and left another in its place; or others had ended that making, where they may, and all stays
abbrev pub Finishes : {S R : Type 0} → Type 0 → ((S → S → Type 0) → Type 0) → (MutBor S → R → MutBor S → Type 0) → Option R → Type 0
Finishes MayEnd does post (Some answer) = does (Acts post answer)
Finishes MayEnd does post None = MayEnd × does (λ before after. after ≡ before)

-- of one owner's shards that with this number is so
abbrev pub Sees : {S : Type 0} → List S → ℕ → (S → Type 0) → Type 0
Sees {S} shards i P = (shard : S) × ((slice_index_or shards i shard ≡ shard) × P shard)

-- of one owner's shards that with this number is changed so, and the others stay
abbrev pub Owns : {S : Type 0} → List S → ℕ → (S → S → Type 0) → List S → Type 0
Owns {S} old i P new = (before : S) × ((after : S) × ((slice_index_or old i before ≡ before) × (P before after × (new ≡ slice_set old i after))))

-- of one owner's shards those with the numbers below this are changed so, one after another, and the others stay
abbrev pub OwnsEach : {S : Type 0} → ℕ → List S → (S → S → Type 0) → List S → Type 0
OwnsEach zero old P new = new ≡ old
OwnsEach {S} (suc n) old P new = (mid : List S) × (OwnsEach n old P mid × Owns mid n P new)

-- behind locks some shard is so, of which nothing else is known
abbrev pub MaySee : {S : Type 0} → (S → Type 0) → Type 0
MaySee {S} P = (shard : S) × P shard

-- behind locks some shard is changed so
abbrev pub MayDo : {S : Type 0} → (S → S → Type 0) → Type 0
MayDo {S} P = (before : S) × ((after : S) × P before after)
