-- Legal histories of shards.
use Rattle.std.specs.Prelude.{Vec}
use Rattle.std.specs.Prelude.{◌≡◌, ℕ, suc, ◌%◌, ◌<◌, List, [], ◌∷◌, map, Some, slice_get}
use Rattle.lru_shard.specs.Limits.{cap_of}
use Rattle.lru_recording.specs.declared.entry.Entry.{Entry}
use Rattle.lru_recording.specs.declared.entry.Call.{Call}
use Rattle.lru_recording.specs.declared.entry.Call.TheVariants.{Admit, InsertTail, IncrementWeight, IncrementWeightUpTo, UpdateOrAdmit, SetWeight, Promote, PromoteTopN, EvictShard, EvictToLimit, Remove, Peek, PeekWeight, PeekLru}
use Rattle.lru_recording.specs.declared.entry.Reply.{Reply}
use Rattle.lru_recording.specs.Plain.{Plain, called}

-- the list at the end of a history
abbrev pub left_by : ℕ → List Plain → List Entry → List Plain
left_by cap rows [] = rows
left_by cap rows (e ∷ es) = left_by cap (called cap rows e.call).rows es

-- what the list replies, call by call
abbrev pub answers : ℕ → List Plain → List Entry → List Reply
answers cap rows [] = []
answers cap rows (e ∷ es) = (called cap rows e.call).reply ∷ answers cap (called cap rows e.call).rows es

abbrev pub replies : List Entry → List Reply
replies es = map (λ (e : Entry). e.reply) es

-- the shard of a call, of n shards: its key's, the one that it names, or this one
abbrev pub home : ℕ → ℕ → Call → ℕ
home n s (Admit k _) = k % n
home n s (InsertTail k _) = k % n
home n s (IncrementWeight k _) = k % n
home n s (IncrementWeightUpTo k _ _) = k % n
home n s (UpdateOrAdmit k _) = k % n
home n s (SetWeight k _) = k % n
home n s (Promote k) = k % n
home n s (PromoteTopN k _) = k % n
home n s (EvictShard shard) = shard % n
home n s EvictToLimit = s
home n s (Remove k) = k % n
home n s (Peek k) = k % n
home n s (PeekWeight k) = k % n
home n s PeekLru = s

-- a call of shard s of n that evicts the last row
abbrev pub IsEviction : ℕ → ℕ → Call → Type 0
IsEviction n s (EvictShard shard) = shard % n ≡ s
IsEviction n s EvictToLimit = Unit {0}
IsEviction n s _ = ⊥

-- a history that one thread could have made on shard s of n: each reply is the list's at that point, from the empty list
-- on, and each call is of this shard
pub record IsLegal (n s : ℕ) (es : List Entry) : Type 0 where
  pub right : replies es ≡ answers (cap_of n) [] es
  pub homes : map (λ (e : Entry). home n s e.call) es ≡ map (λ (_ : Entry). s) es

-- the shards of the calls of some histories, and the shards that these histories are of, from this shard on
abbrev pub homes_from : ℕ → ℕ → List (List Entry) → List (List ℕ)
homes_from n s [] = []
homes_from n s (h ∷ hs) = map (λ (e : Entry). home n s e.call) h ∷ homes_from n (suc s) hs

abbrev pub shards_from : ℕ → List (List Entry) → List (List ℕ)
shards_from s [] = []
shards_from s (h ∷ hs) = map (λ (_ : Entry). s) h ∷ shards_from (suc s) hs

-- each history is legal, for its own shard
abbrev pub AreLegal : ℕ → List (List Entry) → Type 0
AreLegal n histories = (s : ℕ) (h : List Entry) → slice_get histories s ≡ Some h → IsLegal n s h

abbrev pub lists_of : {T A : Type 0} → List (Vec T A) → List (List T)
lists_of {T} {A} vs = map (λ (v : Vec T A). v.items) vs
