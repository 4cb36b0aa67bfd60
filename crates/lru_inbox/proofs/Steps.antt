-- What messages leave, one after the other, and of what each reply tells.
use Rattle.std.proofs.Common.{◌≡◌, ◌⊎◌, ℕ, zero, suc, ◌+◌, ◌%◌, ◌^◌, cond, true, false, Bool, List, [], ◌∷◌, ◌++◌, map, take, Some, None, sym, refl, ap, ◌∙◌, subst, inl, inr, arith, append_assoc, append-nil}
use Rattle.std.specs.Prelude.{Option, slice_get}
use Rattle.std.proofs.lemmas.Bool.{cond-true, cond-false}
use Rattle.std.proofs.lemmas.List.{map-append}
use Rattle.std.proofs.Math.Nat.{mod-add-mod}
use Rattle.lru_mailbox.specs.Queue.{Queue}
use Rattle.lru_shard.specs.Row.{Row, HasDistinctKeys}
use Rattle.lru_shard.specs.Shard.{Shard, shard}
use Rattle.lru_actors.specs.declared.message.LruMsg.{LruMsg}
use Rattle.lru_actors.specs.declared.message.LruMsg.TheVariants.{Admit, IncrementWeight, Promote, Remove, InsertTail, Evict, PeekLru, Snapshot, QueryWeight}
use Rattle.lru_actors.specs.declared.effect.Effect.{Effect}
use Rattle.lru_actors.specs.declared.effect.Reply.{Reply}
use Rattle.lru_actors.specs.declared.effect.Reply.TheVariants as reply
use Rattle.lru_actors.specs.Messages.{State, state_of, consumed, put_of, cleared_of, refusal_of, MayBeRefused, Replies}
use Rattle.lru_actors.specs.Processing.{mapped, MayWantRoom, IsServed, IsTurnedAway, Processes, ProcessesAll}
use Rattle.lru_actors.proofs.Served.{mapped_same}
use Rattle.lru_actors.specs.Turns.{Turn, sent, turn, turns_of, rows_after, rows_left, refusals, weight_in, AreAllowed}
use Rattle.lru_actors.specs.World.{PutsPair, IsSameQueue, itself, AtAnyTime}
use Rattle.lru_actors.proofs.MessageLaws.{follows, wants_same}
use Rattle.lru_actors.proofs.TurnLaws.{rows_more, refusals_more, allowed_more}
use Rattle.lru_inbox.specs.Replies.{IsLeft, Tells, IsReply, refused_in}

no_some : {A : Type 0} (x : A) → Some x ≡ None → ⊥
no_some x e = cc

module _ {K : Type 0} where
  -- no hash stands twice
  distinct_left : (rows : List (Row K)) (ts : List (Turn K)) → HasDistinctKeys rows → HasDistinctKeys (rows_left rows ts)
  distinct_left rows [] d = d
  distinct_left rows (t ∷ ts) d = distinct_left (rows_after rows t) ts (after t.effect.refused refl)
    where
      after : (b : Bool) → t.effect.refused ≡ b → HasDistinctKeys (rows_after rows t)
      after true e = subst HasDistinctKeys (sym (cond-true t.effect.refused rows (consumed rows t.msg) e)) d
      after false e = subst HasDistinctKeys (sym (cond-false t.effect.refused rows (consumed rows t.msg) e)) (follows rows d t.msg).distinct

  -- what is left, by these turns
  pub record LeftBy (cap : ℕ) (turns : List (Turn K)) (messages : List (LruMsg K)) (s : State K) (look : ℕ → Option ℕ) : Type 0 where
    pub messages_are : map (λ (t : Turn K). t.msg) turns ≡ messages
    pub allowed : AreAllowed cap [] turns
    pub state : s ≡ state_of (shard (rows_left [] turns) cap) (refusals turns % 2 ^ 64)
    pub map_is : (h : ℕ) → look h ≡ weight_in (rows_left [] turns) h

  pub by_turns : (cap : ℕ) (messages : List (LruMsg K)) (s : State K) (look : ℕ → Option ℕ) → (l : IsLeft cap messages s look) → LeftBy cap l.turns messages s look
  by_turns cap messages s look l = record { messages_are = l.messages_are; allowed = l.allowed; state = l.state; map_is = l.map_is }

  pub is_left : (cap : ℕ) (turns : List (Turn K)) (messages : List (LruMsg K)) (s : State K) (look : ℕ → Option ℕ) → LeftBy cap turns messages s look → IsLeft cap messages s look
  is_left cap turns messages s look l = record { turns = turns; messages_are = l.messages_are; allowed = l.allowed; state = l.state; map_is = l.map_is }

  -- the turns of messages that nobody in particular sent
  abbrev pub turns_by : List (LruMsg K) → List (Effect K) → List (Turn K)
  turns_by msgs es = turns_of (map (λ m. sent None m) msgs) es

  module _ (IsClone : K → K → Type 0) where
    -- a message that asks leaves the rows as they are, of which its reply tells
    asks : (rows : List (Row K)) (msg : LruMsg K) (r : Reply K) → Replies IsClone rows msg (Some r) → (consumed rows msg ≡ rows) × Tells IsClone rows r
    asks rows (Admit h k w) r e = absurd (no_some r e)
    asks rows (IncrementWeight h k d w) r e = absurd (no_some r e)
    asks rows (Promote h) r e = absurd (no_some r e)
    asks rows (Remove h) r e = absurd (no_some r e)
    asks rows (InsertTail h k w) r e = absurd (no_some r e)
    asks rows Evict r e = absurd (no_some r e)
    asks rows PeekLru (reply.Weight w) e = absurd e
    asks rows PeekLru (reply.Lru found) e = (refl, e)
    asks rows PeekLru (reply.Rows pairs) e = absurd e
    asks rows PeekLru reply.Memory e = (refl, tt)
    asks rows Snapshot (reply.Weight w) e = absurd e
    asks rows Snapshot (reply.Lru found) e = absurd e
    asks rows Snapshot (reply.Rows pairs) e = (refl, e)
    asks rows Snapshot reply.Memory e = (refl, tt)
    asks rows QueryWeight (reply.Weight w) e = (refl, e)
    asks rows QueryWeight (reply.Lru found) e = absurd e
    asks rows QueryWeight (reply.Rows pairs) e = absurd e
    asks rows QueryWeight reply.Memory e = absurd e

    -- a message more
    module _ (cap : ℕ) (done : List (LruMsg K)) (old : State K) (look : ℕ → Option ℕ) (q : Queue K) (msg : LruMsg K) (e : Effect K) (new : State K) (look' : ℕ → Option ℕ) (q' : Queue K) where
      abbrev t : Turn K
      t = turn (sent None msg) e

      module _ (ts : List (Turn K)) (l : LeftBy cap ts done old look) where
        abbrev rows : List (Row K)
        rows = rows_left [] ts

        messages : map (λ (u : Turn K). u.msg) (ts ++ t ∷ []) ≡ done ++ msg ∷ []
        messages = map-append (λ (u : Turn K). u.msg) ts (t ∷ []) ∙ ap (λ ms. ms ++ msg ∷ []) l.messages_are

        shard_is : old.shard ≡ shard rows cap
        shard_is = ap (λ (s : State K). s.shard) l.state

        rows_are : old.shard.rows ≡ rows
        rows_are = ap (λ (s : Shard K). s.rows) shard_is

        served : IsServed PutsPair IsSameQueue itself IsClone old look q msg e new look' q' → LeftBy cap (ts ++ t ∷ []) (done ++ msg ∷ []) new look'
        served s =
            let d = s.done in
            let after : rows_left [] (ts ++ t ∷ []) ≡ consumed rows msg = rows_more [] ts t ∙ cond-false e.refused rows (consumed rows msg) d.refused in
            let count : refusals (ts ++ t ∷ []) ≡ refusals ts = refusals_more ts t ∙ ap (λ b. refusals ts + cond b 1 0) d.refused ∙ (let z : refusals ts + 0 ≡ refusals ts = omega arith in z) in
            let f = follows rows (distinct_left [] ts (λ h. omega arith)) msg in
            record {
              messages_are = messages;
              allowed = allowed_more cap [] ts t l.allowed (inl (d.refused, ap (λ z. refusal_of z msg) (sym shard_is) ∙ d.allowed));
              state = d.left ∙ (λ i. state_of (shard (consumed (l.state i).shard.rows msg) (l.state i).shard.cap) (l.state i).refused) ∙ sym (λ i. state_of (shard (after i) cap) (count i % 2 ^ 64));
              map_is = λ h. s.map h ∙ ap (λ p. mapped p e.cleared look h) (d.put ∙ ap (λ rs. put_of rs msg) rows_are) ∙ ap (λ c. mapped (put_of rows msg) c look h) (d.cleared ∙ ap (λ rs. cleared_of rs msg) rows_are)
                  ∙ mapped_same (put_of rows msg) (cleared_of rows msg) look (weight_in rows) l.map_is h ∙ sym (f.weighs h) ∙ ap (λ rs. weight_in rs h) (sym after);
            }

        may : MayBeRefused old.shard msg ⊎ MayWantRoom (Unit {0}) look old.shard.rows msg → MayBeRefused (shard rows cap) msg ⊎ MayWantRoom (Unit {0}) (weight_in rows) rows msg
        may (inl m) = inl (subst (λ z. MayBeRefused z msg) shard_is m)
        may (inr w) = inr (wants_same rows look (weight_in rows) l.map_is msg (subst (λ rs. MayWantRoom (Unit {0}) look rs msg) rows_are w))

        refused : IsTurnedAway PutsPair IsSameQueue itself IsClone AtAnyTime old look q msg e new look' q' → LeftBy cap (ts ++ t ∷ []) (done ++ msg ∷ []) new look'
        refused a =
            let r = a.refused in
            let after : rows_left [] (ts ++ t ∷ []) ≡ rows = rows_more [] ts t ∙ cond-true e.refused rows (consumed rows msg) r.refused in
            let count : refusals (ts ++ t ∷ []) ≡ refusals ts + 1 = refusals_more ts t ∙ ap (λ b. refusals ts + cond b 1 0) r.refused in
            record {
              messages_are = messages;
              allowed = allowed_more cap [] ts t l.allowed (inr (r.refused, may a.may));
              state = r.left ∙ (λ i. state_of (l.state i).shard (((l.state i).refused + 1) % 2 ^ 64)) ∙ ap (λ n. state_of (shard rows cap) n) (mod-add-mod (refusals ts) (2 ^ 64) 1) ∙ sym (λ i. state_of (shard (after i) cap) (count i % 2 ^ 64));
              map_is = λ h. a.map h ∙ l.map_is h ∙ ap (λ rs. weight_in rs h) (sym after);
            }

      left_one : Processes PutsPair IsSameQueue itself IsClone AtAnyTime old look q msg e new look' q' → (ts : List (Turn K)) → LeftBy cap ts done old look → LeftBy cap (ts ++ t ∷ []) (done ++ msg ∷ []) new look'
      left_one (inl s) ts l = served ts l s
      left_one (inr a) ts l = refused ts l a

      reply_one : Processes PutsPair IsSameQueue itself IsClone AtAnyTime old look q msg e new look' q' → (r : Reply K) → e.reply ≡ Some r → Tells IsClone new.shard.rows r
      reply_one (inl s) r is =
          let a = asks old.shard.rows msg r (subst (Replies IsClone old.shard.rows msg) is s.done.reply) in
          subst (λ rs. Tells IsClone rs r) (sym (ap (λ (z : State K). z.shard.rows) s.done.left ∙ a.0)) a.1
      reply_one (inr f) r is = absurd (no_some r (sym is ∙ f.refused.reply))

    -- a batch more
    pub left_all : (cap : ℕ) (done msgs : List (LruMsg K)) (es : List (Effect K)) (old : State K) (look : ℕ → Option ℕ) (q : Queue K) (new : State K) (look' : ℕ → Option ℕ) (q' : Queue K) (ts : List (Turn K)) → LeftBy cap ts done old look
        → ProcessesAll PutsPair IsSameQueue itself IsClone AtAnyTime old look q msgs es new look' q' → LeftBy cap (ts ++ turns_by msgs es) (done ++ msgs) new look'
    left_all cap done [] [] old look q new look' q' ts l s =
        subst (λ us. LeftBy cap us (done ++ []) new look') (sym (append-nil ts)) (record {
          messages_are = l.messages_are ∙ sym (append-nil done);
          allowed = l.allowed;
          state = s.0 ∙ l.state;
          map_is = λ h. s.1.0 h ∙ l.map_is h;
        })
    left_all cap done [] (e ∷ es) old look q new look' q' ts l s = absurd s
    left_all cap done (m ∷ ms) [] old look q new look' q' ts l s = absurd s
    left_all cap done (m ∷ ms) (e ∷ es) old look q new look' q' ts l s =
        let more = left_all cap (done ++ m ∷ []) ms es s.0 s.1.0 s.1.1.0 new look' q' (ts ++ turn (sent None m) e ∷ []) (left_one cap done old look q m e s.0 s.1.0 s.1.1.0 s.1.1.1.0 ts l) s.1.1.1.1 in
        subst (λ us. LeftBy cap us (done ++ m ∷ ms) new look') (append_assoc ts (turn (sent None m) e ∷ []) (turns_by ms es))
        (subst (λ xs. LeftBy cap ((ts ++ turn (sent None m) e ∷ []) ++ turns_by ms es) xs new look') (append_assoc done (m ∷ []) ms) more)

    -- the reply of each effect tells of the rows after its own message
    pub reply_at : (cap : ℕ) (done msgs : List (LruMsg K)) (es : List (Effect K)) (old : State K) (look : ℕ → Option ℕ) (q : Queue K) (new : State K) (look' : ℕ → Option ℕ) (q' : Queue K) (ts : List (Turn K)) → LeftBy cap ts done old look
        → ProcessesAll PutsPair IsSameQueue itself IsClone AtAnyTime old look q msgs es new look' q'
        → (i : ℕ) (e : Effect K) (r : Reply K) → slice_get es i ≡ Some e → e.reply ≡ Some r → IsReply IsClone cap (done ++ take (suc i) msgs) (refusals ts + refused_in (take (suc i) es)) r
    reply_at cap done [] [] old look q new look' q' ts l s i e r at is = absurd (no_some e (sym at))
    reply_at cap done [] (f ∷ es) old look q new look' q' ts l s i e r at is = absurd s
    reply_at cap done (m ∷ ms) [] old look q new look' q' ts l s i e r at is = absurd s
    reply_at cap done (m ∷ ms) (f ∷ es) old look q new look' q' ts l s zero e r at is =
        let same : f ≡ e = cc in
        let left = left_one cap done old look q m f s.0 s.1.0 s.1.1.0 s.1.1.1.0 ts l in
        record {
          turns = ts ++ turn (sent None m) f ∷ [];
          messages_are = left.messages_are;
          allowed = left.allowed;
          refused_are = (let z : refusals ts + (cond f.refused 1 0) ≡ refusals ts + (cond f.refused 1 0 + 0) = omega arith in refusals_more ts (turn (sent None m) f) ∙ z);
          tells = subst (λ (z : State K). Tells IsClone z.shard.rows r) left.state (reply_one cap done old look q m f s.0 s.1.0 s.1.1.0 s.1.1.1.0 r (ap (λ (x : Effect K). x.reply) same ∙ is));
        }
    reply_at cap done (m ∷ ms) (f ∷ es) old look q new look' q' ts l s (suc i) e r at is =
        let n : refusals (ts ++ turn (sent None m) f ∷ []) + refused_in (take (suc i) es) ≡ refusals ts + (cond f.refused 1 0 + refused_in (take (suc i) es)) = omega (arith, refusals_more ts (turn (sent None m) f)) in
        subst (λ k. IsReply IsClone cap (done ++ (m ∷ take (suc i) ms)) k r) n
        (subst (λ xs. IsReply IsClone cap xs (refusals (ts ++ turn (sent None m) f ∷ []) + refused_in (take (suc i) es)) r) (append_assoc done (m ∷ []) (take (suc i) ms))
        (reply_at cap (done ++ m ∷ []) ms es s.0 s.1.0 s.1.1.0 new look' q' (ts ++ turn (sent None m) f ∷ []) (left_one cap done old look q m f s.0 s.1.0 s.1.1.0 s.1.1.1.0 ts l) s.1.1.1.1 i e r at is))
