-- Inclusion: of two runs of the same calls on one shard, the one with the smaller limits keeps a beginning of the other's rows.
use Rattle.std.specs.Prelude.{◌≡◌, ℕ, ◌≤◌, List, [], ◌++◌, replicate, Option, Some, None, IsOk, All}
use Rattle.lru_cores.specs.declared.calls.Call.{Call}
use Rattle.lru_cores.specs.declared.calls.Call.TheVariants.{Admit, SetWeight, Remove, EvictToLimit}
use Rattle.lru_cores.specs.declared.calls.Reply.{Reply}
use Rattle.lru_cores.specs.declared.calls.Reply.TheVariants.{Shard, Inserted, Weight, Updated, Was, Evicted, Last}
use Rattle.rand_core.specs.Stream.{Stream}
use Rattle.lru_cores.specs.Core.{Core}
use Rattle.lru_cores.specs.Calls.{Run}

-- the first list is a beginning of the second
abbrev pub IsFrontOf : {X : Type 0} → List X → List X → Type 0
IsFrontOf {X} front whole = (rest : List X) × (front ++ rest ≡ whole)

-- the first watermark is no higher than the second; no watermark is the highest
abbrev pub IsNoHigher : Option ℕ → Option ℕ → Type 0
IsNoHigher watermark None = Unit {0}
IsNoHigher None (Some most) = ⊥
IsNoHigher (Some watermark) (Some most) = watermark ≤ most

module _ {T : Type 0} where
  -- one shard with no rows, and these limits
  abbrev pub empty_core : ℕ → Option ℕ → Core T
  empty_core limit watermark = record { lists = replicate 1 []; weight_limit = limit; watermark = watermark; evicted_weight = 0; evicted_len = 0 }

  -- the calls that the law is about: `admit`, `set_weight`, `remove` and `evict_to_limit`; none of them changes a limit
  abbrev pub IsInclusionCall : Call T → Type 0
  IsInclusionCall (Admit k d w) = Unit {0}
  IsInclusionCall (SetWeight k w) = Unit {0}
  IsInclusionCall (Remove k) = Unit {0}
  IsInclusionCall EvictToLimit = Unit {0}
  IsInclusionCall _ = ⊥

  -- the reply is no refusal
  abbrev pub IsGranted : Reply T → Type 0
  IsGranted (Shard answer) = IsOk answer
  IsGranted (Inserted answer) = IsOk answer
  IsGranted (Weight answer) = IsOk answer
  IsGranted (Updated answer) = IsOk answer
  IsGranted (Was answer) = IsOk answer
  IsGranted (Evicted answer) = IsOk answer
  IsGranted (Last answer) = IsOk answer
  IsGranted _ = Unit {0}

  -- a run of these calls, none of them refused, leads from the empty core with these limits to this core
  pub record LeadsTo (limit : ℕ) (watermark : Option ℕ) (calls : List (Call T)) (new : Core T) : Type 0 where
    pub words : Stream
    pub rest : Stream
    pub replies : List (Reply T)
    pub run : Run (empty_core limit watermark) words calls replies new rest
    pub granted : All IsGranted replies
