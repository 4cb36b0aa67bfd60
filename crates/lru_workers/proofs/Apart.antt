-- A batch that evicts nothing leaves any queue as it is, and one that changes no weight any map.
use Rattle.std.proofs.Common.{◌≡◌, ℕ, true, List, [], ◌∷◌, get_or, Option, Some, None, refl, sym, ◌∙◌, subst, ◌⊎◌, inl, inr, arith}
use Rattle.std.specs.Prelude.{All}
use Rattle.std.proofs.lemmas.List.Elements.{All-tail}
use Rattle.lru_mailbox.specs.Queue.{Queue}
use Rattle.lru_shard.specs.Row.{Row}
use Rattle.lru_shard.specs.Shard.{Shard}
use Rattle.lru_actors.specs.declared.message.LruMsg.{LruMsg}
use Rattle.lru_actors.specs.declared.message.LruMsg.TheVariants.{Admit, IncrementWeight, Promote, Remove, InsertTail, Evict, PeekLru, Snapshot, QueryWeight}
use Rattle.lru_actors.specs.declared.effect.Effect.{Effect}
use Rattle.lru_actors.specs.Messages.{State, evicted_of, put_of, cleared_of, MayBeRefused}
use Rattle.lru_actors.specs.Processing.{mapped, queued, MayWantRoom, HandsOver, Processes, ProcessesAll}
use Rattle.lru_workers.specs.Batch.{evicts_none, stays_inside}

module _ {K : Type 0} where
  no_pair : (rows : List (Row K)) (msg : LruMsg K) → evicts_none msg ≡ true → evicted_of rows msg ≡ None
  no_pair rows (Admit h k w) e = refl
  no_pair rows (IncrementWeight h k d m) e = refl
  no_pair rows (Promote h) e = refl
  no_pair rows (Remove h) e = refl
  no_pair rows (InsertTail h k w) e = refl
  no_pair rows Evict e = cc
  no_pair rows PeekLru e = refl
  no_pair rows Snapshot e = refl
  no_pair rows QueryWeight e = refl

  room_of_map : (A B : Type 0) (look : ℕ → Option ℕ) (rows : List (Row K)) (msg : LruMsg K) → evicts_none msg ≡ true → MayWantRoom A look rows msg → MayWantRoom B look rows msg
  room_of_map A B look rows (Admit h k w) e may = may
  room_of_map A B look rows (IncrementWeight h k d m) e may = may
  room_of_map A B look rows (Promote h) e may = may
  room_of_map A B look rows (Remove h) e may = may
  room_of_map A B look rows (InsertTail h k w) e may = may
  room_of_map A B look rows Evict e may = cc
  room_of_map A B look rows PeekLru e may = may
  room_of_map A B look rows Snapshot e may = may
  room_of_map A B look rows QueryWeight e may = may

  inside_holds : (msg : LruMsg K) → stays_inside msg ≡ true → evicts_none msg ≡ true
  inside_holds (Admit h k w) e = refl
  inside_holds (IncrementWeight h k d m) e = refl
  inside_holds (Promote h) e = refl
  inside_holds (Remove h) e = refl
  inside_holds (InsertTail h k w) e = refl
  inside_holds Evict e = cc
  inside_holds PeekLru e = refl
  inside_holds Snapshot e = refl
  inside_holds QueryWeight e = refl

  pub all_inside_hold : (msgs : List (LruMsg K)) → All (λ m. stays_inside m ≡ true) msgs → All (λ m. evicts_none m ≡ true) msgs
  all_inside_hold msgs h = λ k d lt. inside_holds (get_or msgs k d) (h k d lt)

  no_put : (rows : List (Row K)) (msg : LruMsg K) → stays_inside msg ≡ true → put_of rows msg ≡ None
  no_put rows (Admit h k w) e = cc
  no_put rows (IncrementWeight h k d m) e = cc
  no_put rows (Promote h) e = refl
  no_put rows (Remove h) e = refl
  no_put rows (InsertTail h k w) e = cc
  no_put rows Evict e = refl
  no_put rows PeekLru e = refl
  no_put rows Snapshot e = refl
  no_put rows QueryWeight e = refl

  no_clear : (rows : List (Row K)) (msg : LruMsg K) → stays_inside msg ≡ true → cleared_of rows msg ≡ None
  no_clear rows (Admit h k w) e = refl
  no_clear rows (IncrementWeight h k d m) e = refl
  no_clear rows (Promote h) e = refl
  no_clear rows (Remove h) e = cc
  no_clear rows (InsertTail h k w) e = refl
  no_clear rows Evict e = cc
  no_clear rows PeekLru e = refl
  no_clear rows Snapshot e = refl
  no_clear rows QueryWeight e = refl

  no_refusal : (s : Shard K) (msg : LruMsg K) → stays_inside msg ≡ true → MayBeRefused s msg → ⊥
  no_refusal s (Admit h k w) e may = cc
  no_refusal s (IncrementWeight h k d m) e may = cc
  no_refusal s (Promote h) e may = may
  no_refusal s (Remove h) e may = may
  no_refusal s (InsertTail h k w) e may = cc
  no_refusal s Evict e may = may
  no_refusal s PeekLru e may = may
  no_refusal s Snapshot e may = may
  no_refusal s QueryWeight e may = may

  no_want : (A : Type 0) (look : ℕ → Option ℕ) (rows : List (Row K)) (msg : LruMsg K) → stays_inside msg ≡ true → MayWantRoom A look rows msg → ⊥
  no_want A look rows (Admit h k w) e may = cc
  no_want A look rows (IncrementWeight h k d m) e may = cc
  no_want A look rows (Promote h) e may = may
  no_want A look rows (Remove h) e may = may
  no_want A look rows (InsertTail h k w) e may = cc
  no_want A look rows Evict e may = cc
  no_want A look rows PeekLru e may = may
  no_want A look rows Snapshot e may = may
  no_want A look rows QueryWeight e may = may

  module _ (IsClone : K → K → Type 0) {D : Type 0} (Puts : D → ℕ → K → ℕ → D → Type 0) (IsSame : D → D → Type 0) (queue : D → Queue K) (MayRefuse : D → Type 0) where
    hands_none : (cleared : Option ℕ) (d : D) → HandsOver Puts IsSame queue cleared None d d
    hands_none None d = refl
    hands_none (Some h) d = refl

    -- served beside one queue, served beside any
    module _ {C : Type 0} (Puts' : C → ℕ → K → ℕ → C → Type 0) (IsSame' : C → C → Type 0) (queue' : C → Queue K) (MayRefuse' : C → Type 0) where
      beside_room : (look : ℕ → Option ℕ) (old : State K) (c : C) (msg : LruMsg K) (d : D) → evicts_none msg ≡ true
          → MayBeRefused old.shard msg ⊎ MayWantRoom (MayRefuse' c) look old.shard.rows msg → MayBeRefused old.shard msg ⊎ MayWantRoom (MayRefuse d) look old.shard.rows msg
      beside_room look old c msg d held (inl may) = inl may
      beside_room look old c msg d held (inr may) = inr (room_of_map (MayRefuse' c) (MayRefuse d) look old.shard.rows msg held may)

      beside : (old : State K) (look : ℕ → Option ℕ) (c : C) (msg : LruMsg K) (e : Effect K) (new : State K) (look' : ℕ → Option ℕ) (c' : C) → evicts_none msg ≡ true
          → Processes Puts' IsSame' queue' IsClone MayRefuse' old look c msg e new look' c' → (d : D) → Processes Puts IsSame queue IsClone MayRefuse old look d msg e new look' d
      beside old look c msg e new look' c' held (inl s) d = inl (record {
        done = s.done;
        evicted = s.evicted;
        map = s.map;
        queue_is = subst (λ (p : Option (K × ℕ)). queue d ≡ queued p (queue d)) (sym (no_pair old.shard.rows msg held)) refl;
        roomy = d;
        room = inl refl;
        handed = subst (λ (p : Option (K × ℕ)). HandsOver Puts IsSame queue e.cleared p d d) (sym (no_pair old.shard.rows msg held)) (hands_none e.cleared d);
      })
      beside old look c msg e new look' c' held (inr t) d =
          inr (record { may = beside_room look old c msg d held t.may; refused = t.refused; map = t.map; queue_is = refl; kept = inl refl })

      pub beside_all : (old : State K) (look : ℕ → Option ℕ) (c : C) (msgs : List (LruMsg K)) (es : List (Effect K)) (new : State K) (look' : ℕ → Option ℕ) (c' : C) → All (λ m. evicts_none m ≡ true) msgs
          → ProcessesAll Puts' IsSame' queue' IsClone MayRefuse' old look c msgs es new look' c' → (d : D) → ProcessesAll Puts IsSame queue IsClone MayRefuse old look d msgs es new look' d
      beside_all old look c [] [] new look' c' held p d = (p.0, (p.1.0, refl))
      beside_all old look c [] (e ∷ es) new look' c' held p d = absurd p
      beside_all old look c (m ∷ msgs) [] new look' c' held p d = absurd p
      beside_all old look c (m ∷ msgs) (e ∷ es) new look' c' held p d =
          (p.0, (p.1.0, (d, (beside old look c m e p.0 p.1.0 p.1.1.0 (held 0 m (omega arith)) p.1.1.1.0 d, beside_all p.0 p.1.0 p.1.1.0 msgs es new look' c' (All-tail (λ x. evicts_none x ≡ true) m msgs held) p.1.1.1.1 d))))

    -- served with one map, served with any
    with_any : (old : State K) (look : ℕ → Option ℕ) (d : D) (msg : LruMsg K) (e : Effect K) (new : State K) (look' : ℕ → Option ℕ) (d' : D) → stays_inside msg ≡ true
        → Processes Puts IsSame queue IsClone MayRefuse old look d msg e new look' d' → (other : ℕ → Option ℕ) → Processes Puts IsSame queue IsClone MayRefuse old other d msg e new other d'
    with_any old look d msg e new look' d' inside (inl s) other = inl (record {
      done = s.done;
      evicted = s.evicted;
      map = λ k. subst (λ (p : Option (ℕ × ℕ)). other k ≡ mapped p e.cleared other k) (sym (s.done.put ∙ no_put old.shard.rows msg inside))
          (subst (λ (h : Option ℕ). other k ≡ mapped None h other k) (sym (s.done.cleared ∙ no_clear old.shard.rows msg inside)) refl);
      queue_is = s.queue_is;
      roomy = s.roomy;
      room = s.room;
      handed = s.handed;
    })
    with_any old look d msg e new look' d' inside (inr t) other = absurd (elim t.may [ inl may ↦ no_refusal old.shard msg inside may | inr may ↦ no_want (MayRefuse d) look old.shard.rows msg inside may ])

    pub with_any_all : (old : State K) (look : ℕ → Option ℕ) (d : D) (msgs : List (LruMsg K)) (es : List (Effect K)) (new : State K) (look' : ℕ → Option ℕ) (d' : D) → All (λ m. stays_inside m ≡ true) msgs
        → ProcessesAll Puts IsSame queue IsClone MayRefuse old look d msgs es new look' d' → (other : ℕ → Option ℕ) → ProcessesAll Puts IsSame queue IsClone MayRefuse old other d msgs es new other d'
    with_any_all old look d [] [] new look' d' inside p other = (p.0, ((λ k. refl), p.1.1))
    with_any_all old look d [] (e ∷ es) new look' d' inside p other = absurd p
    with_any_all old look d (m ∷ msgs) [] new look' d' inside p other = absurd p
    with_any_all old look d (m ∷ msgs) (e ∷ es) new look' d' inside p other =
        (p.0, (other, (p.1.1.0, (with_any old look d m e p.0 p.1.0 p.1.1.0 (inside 0 m (omega arith)) p.1.1.1.0 other, with_any_all p.0 p.1.0 p.1.1.0 msgs es new look' d' (All-tail (λ x. stays_inside x ≡ true) m msgs inside) p.1.1.1.1 other))))
