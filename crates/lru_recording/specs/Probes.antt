-- What an `evict_to_limit` notes: its probes, each of one shard.
use Rattle.std.specs.Prelude.{◌≡◌, ℕ, ◌<◌, ◌≤◌, List, [], ◌∷◌, ◌++◌, length, Option, Some, None, All}
use Rattle.lru_recording.specs.declared.entry.Receipt.{Receipt}
use Rattle.lru_recording.specs.declared.entry.Call.TheVariants.{EvictToLimit}
use Rattle.lru_recording.specs.declared.entry.Reply.{Reply}
use Rattle.lru_recording.specs.declared.entry.Reply.TheVariants.{Found, NotFound}

-- a probe of one of n shards, with this reply
abbrev pub IsProbe : ℕ → Reply → Receipt → Type 0
IsProbe n reply r = (r.call ≡ EvictToLimit) × ((r.shard < n) × (r.reply ≡ reply))

-- probes of n shards that found no row
abbrev pub AreEmpty : ℕ → List Receipt → Type 0
AreEmpty n rs = All (IsProbe n NotFound) rs

-- at most n probes, of which the last found a row of this weight, and no other found one
pub record Evicts (n weight : ℕ) (rs : List Receipt) : Type 0 where
  pub empty : List Receipt
  pub last : Receipt
  pub are : rs ≡ empty ++ last ∷ []
  pub few : length empty < n
  pub are_empty : AreEmpty n empty
  pub found : IsProbe n (Found weight) last

-- at most n probes, which found no row
abbrev pub FindsNone : ℕ → List Receipt → Type 0
FindsNone n rs = (length rs ≤ n) × AreEmpty n rs

-- one round of probes, with the pair that it evicted, if it did
abbrev pub IsRound : {T : Type 0} → ℕ → Option (T × ℕ) → List Receipt → Type 0
IsRound n None rs = FindsNone n rs
IsRound n (Some pair) rs = Evicts n pair.1 rs

-- rounds that evicted rows of these weights, in order
abbrev pub AreRounds : ℕ → List ℕ → List Receipt → Type 0
AreRounds n [] rs = rs ≡ []
AreRounds n (w ∷ ws) rs = (now : List Receipt) × ((rest : List Receipt) × ((rs ≡ now ++ rest) × (Evicts n w now × AreRounds n ws rest)))

-- rounds that evicted rows of these weights, in order, and then at most one that evicted nothing
pub record AreProbes (n : ℕ) (weights : List ℕ) (rs : List Receipt) : Type 0 where
  pub rounds : List Receipt
  pub rest : List Receipt
  pub are : rs ≡ rounds ++ rest
  pub evict : AreRounds n weights rounds
  pub none : FindsNone n rest

-- the receipts grow by some that are so
abbrev pub Adds : (List Receipt → Type 0) → List Receipt → List Receipt → Type 0
Adds P old new = (added : List Receipt) × ((new ≡ old ++ added) × P added)
