-- A batch that was processed with any queue of evicted pairs was processed so with the plain queue that it is.
use Rattle.std.proofs.Common.{◌≡◌, ℕ, List, [], ◌∷◌, ap, ◌∙◌, inl, inr}
use Rattle.std.specs.Prelude.{Option}
use Rattle.lru_mailbox.specs.Queue.{Queue}
use Rattle.lru_actors.specs.declared.message.LruMsg.{LruMsg}
use Rattle.lru_actors.specs.declared.effect.Effect.{Effect}
use Rattle.lru_actors.specs.Messages.{State}
use Rattle.lru_actors.specs.Processing.{Processes, ProcessesAll}
use Rattle.lru_actors.specs.World.{PutsPair, IsSameQueue, itself, AtAnyTime}
use Rattle.lru_actors.proofs.Batches.{as_plain}
use Rattle.lru_workers.specs.Batch.{StepsAll, StepsFrom}

module _ {K : Type 0} (IsClone : K → K → Type 0) {D : Type 0} (Puts : D → ℕ → K → ℕ → D → Type 0) (IsSame : D → D → Type 0) (queue : D → Queue K) (MayRefuse : D → Type 0) where
  all_plain : (msgs : List (LruMsg K)) (es : List (Effect K)) (old : State K) (look : ℕ → Option ℕ) (d : D) (new : State K) (look' : ℕ → Option ℕ) (d' : D)
      → ProcessesAll Puts IsSame queue IsClone MayRefuse old look d msgs es new look' d' → ProcessesAll PutsPair IsSameQueue itself IsClone AtAnyTime old look (queue d) msgs es new look' (queue d')
  all_plain [] [] old look d new look' d' p = (p.0, (p.1.0, ap queue p.1.1))
  all_plain [] (e ∷ es) old look d new look' d' p = absurd p
  all_plain (m ∷ ms) [] old look d new look' d' p = absurd p
  all_plain (m ∷ ms) (e ∷ es) old look d new look' d' p =
      (p.0, (p.1.0, (queue p.1.1.0, (as_plain IsClone Puts IsSame queue MayRefuse old look d m e p.0 p.1.0 p.1.1.0 p.1.1.1.0, all_plain ms es p.0 p.1.0 p.1.1.0 new look' d' p.1.1.1.1))))

  pub steps_from : (msgs : List (LruMsg K)) (es : List (Effect K)) (old : State K) (look : ℕ → Option ℕ) (d : D) (new : State K) (look' : ℕ → Option ℕ) (d' : D)
      → ProcessesAll Puts IsSame queue IsClone MayRefuse old look d msgs es new look' d' → StepsFrom IsClone old look msgs es new look'
  steps_from msgs es old look d new look' d' p = (queue d, queue d', all_plain msgs es old look d new look' d' p)

module _ {K : Type 0} (IsClone : K → K → Type 0) where
  -- the cap stays
  cap_stays : (old : State K) (look : ℕ → Option ℕ) (q : Queue K) (msg : LruMsg K) (e : Effect K) (new : State K) (look' : ℕ → Option ℕ) (q' : Queue K)
      → Processes PutsPair IsSameQueue itself IsClone AtAnyTime old look q msg e new look' q' → new.shard.cap ≡ old.shard.cap
  cap_stays old look q msg e new look' q' (inl s) = ap (λ (z : State K). z.shard.cap) s.done.left
  cap_stays old look q msg e new look' q' (inr t) = ap (λ (z : State K). z.shard.cap) t.refused.left

  caps_stay : (msgs : List (LruMsg K)) (es : List (Effect K)) (old : State K) (look : ℕ → Option ℕ) (q : Queue K) (new : State K) (look' : ℕ → Option ℕ) (q' : Queue K)
      → ProcessesAll PutsPair IsSameQueue itself IsClone AtAnyTime old look q msgs es new look' q' → new.shard.cap ≡ old.shard.cap
  caps_stay [] [] old look q new look' q' p = ap (λ (z : State K). z.shard.cap) p.0
  caps_stay [] (e ∷ es) old look q new look' q' p = absurd p
  caps_stay (m ∷ ms) [] old look q new look' q' p = absurd p
  caps_stay (m ∷ ms) (e ∷ es) old look q new look' q' p =
      caps_stay ms es p.0 p.1.0 p.1.1.0 new look' q' p.1.1.1.1 ∙ cap_stays old look q m e p.0 p.1.0 p.1.1.0 p.1.1.1.0

  pub cap_kept : (msgs : List (LruMsg K)) (es : List (Effect K)) (old new : State K) → StepsAll IsClone old msgs es new → new.shard.cap ≡ old.shard.cap
  cap_kept msgs es old new s = caps_stay msgs es old s.0 s.2.0 new s.1 s.2.1 s.2.2
