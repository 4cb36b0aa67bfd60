-- A batch is so many consume events in a row; and any queue is, to a message, the plain queue that it shows.
use Rattle.std.proofs.Common.{◌≡◌, ℕ, zero, suc, List, [], ◌∷◌, ◌++◌, Some, None, refl, sym, ap, ◌∙◌, subst, inl, inr, append_assoc, append-nil}
use Rattle.std.specs.Prelude.{Option, slice_get, slice_set}
use Rattle.lru_mailbox.specs.Queue.{Queue}
use Rattle.lru_shard.specs.Row.{Row}
use Rattle.lru_actors.specs.declared.message.LruMsg.{LruMsg}
use Rattle.lru_actors.specs.declared.message.LruMsg.TheVariants.{Admit, IncrementWeight, Promote, Remove, InsertTail, Evict, PeekLru, Snapshot, QueryWeight}
use Rattle.lru_actors.specs.Messages.{evicted_of}
use Rattle.lru_actors.specs.Processing.{queued, MayWantRoom, HandsOver, Processes}
use Rattle.lru_actors.specs.Turns.{turn, turns_of, leaving}
use Rattle.lru_actors.specs.World.{Actor, World, PutsPair, IsSameQueue, itself, AtAnyTime, rows_of, advanced, followed, BatchIsConsumes, IsAsPlain}

get_set : {A : Type 0} (xs : List A) (s : ℕ) (a b : A) → slice_get xs s ≡ Some a → slice_get (slice_set xs s b) s ≡ Some b
get_set [] s a b e = cc
get_set (x ∷ xs) zero a b e = refl
get_set (x ∷ xs) (suc s) a b e = get_set xs s a b e

-- where room may be wanted, it may be wanted at any time
wants_more : {K : Type 0} (P : Type 0) (look : ℕ → Option ℕ) (rows : List (Row K)) (msg : LruMsg K) → MayWantRoom P look rows msg → MayWantRoom (Unit {0}) look rows msg
wants_more P look rows (Admit _ _ _) w = w
wants_more P look rows (IncrementWeight _ _ _ _) w = w
wants_more P look rows (InsertTail _ _ _) w = w
wants_more P look rows Evict w = (w.0, tt)
wants_more P look rows (Promote _) w = w
wants_more P look rows (Remove _) w = w
wants_more P look rows PeekLru w = w
wants_more P look rows Snapshot w = w
wants_more P look rows QueryWeight w = w

module _ {K : Type 0} (IsClone : K → K → Type 0) {D : Type 0} (Puts : D → ℕ → K → ℕ → D → Type 0) (IsSame : D → D → Type 0) (queue : D → Queue K) (MayRefuse : D → Type 0) where
  -- a pair that is handed over is dispatched
  handed_so : (cleared : Option ℕ) (o : Option (K × ℕ)) (d1 d2 : D) (q q' : Queue K) → q' ≡ queued o q → HandsOver Puts IsSame queue cleared o d1 d2 → HandsOver PutsPair IsSameQueue itself cleared o q q'
  handed_so cleared None d1 d2 q q' e h = e
  handed_so None (Some p) d1 d2 q q' e h = absurd h
  handed_so (Some hash) (Some p) d1 d2 q q' e h = e

  pub as_plain : IsAsPlain IsClone Puts IsSame queue MayRefuse
  as_plain old look d msg e new look' d' p = elim p [
    | inl s ↦ inl (record {
      done = s.done;
      evicted = s.evicted;
      map = s.map;
      queue_is = s.queue_is;
      roomy = queue d;
      room = inl refl;
      handed = handed_so e.cleared (evicted_of old.shard.rows msg) s.roomy d' (queue d) (queue d') s.queue_is s.handed;
    })
    | inr t ↦ inr (record {
      may = elim t.may [ inl m ↦ inl m | inr w ↦ inr (wants_more (MayRefuse d) look old.shard.rows msg w) ];
      refused = t.refused;
      map = t.map;
      queue_is = t.queue_is;
      kept = inl t.queue_is;
    })
  ]

  pub batch_consumes : BatchIsConsumes IsClone Puts IsSame queue MayRefuse
  batch_consumes [] rest [] old s a d d' state look there hand q p = (
    old,
    (
      refl,
      record {
        actor = a;
        there = there;
        turns = sym (append-nil a.turns);
        hand = hand;
        state_is = sym p.0;
        map_is = λ h. sym (p.1.0 h);
        queue_is = q ∙ ap queue (sym p.1.1);
      },
    ),
  )
  batch_consumes [] rest (e ∷ es) old s a d d' state look there hand q p = absurd p
  batch_consumes (x ∷ xs) rest [] old s a d d' state look there hand q p = absurd p
  batch_consumes (x ∷ xs) rest (e ∷ es) old s a d d' state look there hand q p =
      let mid = p.0 in
      let between = p.1.0 in
      let d_between = p.1.1.0 in
      let one = as_plain a.state a.look d x.msg e mid between d_between p.1.1.1.0 in
      let others = p.1.1.1.1 in
      let b : Actor K = advanced a x e (xs ++ rest) mid between in
      let w : World K = followed old s b e (leaving (rows_of a) (turn x e)) (queue d_between) in
      let all = batch_consumes xs rest es w s b d_between d' state look (get_set old.actors s a b there) refl refl others in
      let plain = subst (λ z. Processes PutsPair IsSameQueue itself IsClone AtAnyTime a.state a.look z x.msg e mid between (queue d_between)) (sym q) one in
      let left = all.1.1 in (
        all.0,
        (
          (w, ((a, (x, (xs ++ rest, (e, (mid, (between, (queue d_between, (there, (hand, (plain, refl)))))))))), all.1.0)),
          record {
            actor = left.actor;
            there = left.there;
            turns = left.turns ∙ append_assoc a.turns (turn x e ∷ []) (turns_of xs es);
            hand = left.hand;
            state_is = left.state_is;
            map_is = left.map_is;
            queue_is = left.queue_is;
          },
        ),
      )
