-- The slips of a batch, and the account of a shard.
use Rattle.std.proofs.Common.{◌≡◌, ◌⊎◌, ℕ, suc, ◌+◌, cond, not, ◌&&◌, eqb, true, false, Bool, List, [], ◌∷◌, ◌++◌, map, Some, None, sym, refl, ap, ◌∙◌, subst, inl, inr, arith, append_assoc, append-nil}
use Rattle.std.specs.Prelude.{Option, fold, count_by, option_map, option_to_list, ◌==◌}
use Rattle.std.specs.Option.{ForSome, option_map_or}
use Rattle.std.proofs.lemmas.Bool.{cond-true, cond-false}
use Rattle.std.proofs.lemmas.List.Sums.{sum_by-append}
use Rattle.lru_mailbox.specs.Queue.{Queue}
use Rattle.lru_shard.specs.Row.{Row, last_row, times, pair_of, HasDistinctKeys}
use Rattle.lru_shard.specs.Shard.{Shard, shard}
use Rattle.lru_mailbox.specs.declared.slip.Slip.{Slip}
use Rattle.lru_actors.specs.declared.message.LruMsg.{LruMsg}
use Rattle.lru_actors.specs.declared.message.LruMsg.TheVariants.{Admit, IncrementWeight, Promote, Remove, InsertTail, Evict, PeekLru, Snapshot, QueryWeight}
use Rattle.lru_actors.specs.declared.effect.Effect.{Effect}
use Rattle.lru_actors.specs.Messages.{State, state_of, consumed, evicted_of, cleared_of}
use Rattle.lru_actors.specs.Processing.{IsKept as IsRoom, HandsOver, IsServed, IsTurnedAway, Processes, ProcessesAll}
use Rattle.lru_actors.specs.Turns.{Turn, sent, turn, rows_after, rows_left, brings, removes, evicts, times_done}
use Rattle.lru_actors.specs.World.{PutsPair, IsSameQueue, itself, AtAnyTime}
use Rattle.lru_actors.proofs.MessageLaws.{follows}
use Rattle.lru_inbox.specs.Replies.{IsLeft}
use Rattle.lru_inbox.proofs.Steps.{by_turns, is_left, turns_by, left_all}
use Rattle.lru_workers.specs.Accounts.{evicted_row, row_leaving, rows_evicted, row_of_slip, IsKept, IsAccount}

-- of each hash
abbrev counted : ℕ → List (ℕ × ℕ) → ℕ
counted h ps = count_by (λ (p : ℕ × ℕ). p.0 == h) ps

abbrev one_if : Bool → ℕ
one_if b = cond b 1 0

slips_folded : (h n : ℕ) (ss : List Slip) → fold (λ n (p : ℕ × ℕ). n + one_if (p.0 == h)) n (map row_of_slip ss) ≡ fold (λ n (x : Slip). n + one_if (x.hash == h)) n ss
slips_folded h n [] = refl
slips_folded h n (s ∷ ss) = slips_folded h (n + one_if (s.hash == h)) ss

slips_counted : (h : ℕ) (ss : List Slip) → counted h (map row_of_slip ss) ≡ count_by (λ (x : Slip). x.hash == h) ss
slips_counted h ss = slips_folded h 0 ss

module _ {K : Type 0} where
  pub evicted_more : (rows : List (Row K)) (ts us : List (Turn K)) → rows_evicted rows (ts ++ us) ≡ rows_evicted rows ts ++ rows_evicted (rows_left rows ts) us
  evicted_more rows [] us = refl
  evicted_more rows (t ∷ ts) us = ap (λ l. row_leaving rows t ++ l) (evicted_more (rows_after rows t) ts us) ∙ sym (append_assoc (row_leaving rows t) (rows_evicted (rows_after rows t) ts) (rows_evicted (rows_left rows (t ∷ ts)) us))

  -- a turn that is not refused, and one that is
  done_rows : (rows : List (Row K)) (m : LruMsg K) (e : Effect K) → e.refused ≡ false → rows_after rows (turn (sent None m) e) ≡ consumed rows m
  done_rows rows m e is = cond-false e.refused rows (consumed rows m) is

  same_rows : (rows : List (Row K)) (m : LruMsg K) (e : Effect K) → e.refused ≡ true → rows_after rows (turn (sent None m) e) ≡ rows
  same_rows rows m e is = cond-true e.refused rows (consumed rows m) is

  module _ (IsClone : K → K → Type 0) {D : Type 0} (Puts : D → ℕ → K → ℕ → D → Type 0) (IsSame : D → D → Type 0) (queue : D → Queue K) (MayRefuse : D → Type 0) (slips : D → List Slip)
      (puts : (d : D) (h : ℕ) (k : K) (w : ℕ) (d' : D) → Puts d h k w d' → map row_of_slip (slips d') ≡ map row_of_slip (slips d) ++ (h, w) ∷ []) (same : (d d' : D) → IsSame d d' → slips d' ≡ slips d) where
    roomy : (d d' : D) → IsRoom Puts IsSame queue d d' → slips d' ≡ slips d
    roomy d d' (inl e) = ap slips e
    roomy d d' (inr s) = same d d' s

    none : (c : Option ℕ) (d d' : D) → HandsOver Puts IsSame queue c None d d' → d' ≡ d
    none None d d' x = x
    none (Some h) d d' x = x

    no_more : (d d' : D) → slips d' ≡ slips d → map row_of_slip (slips d') ≡ map row_of_slip (slips d) ++ []
    no_more d d' e = ap (map row_of_slip) e ∙ sym (append-nil (map row_of_slip (slips d)))

    evicts_last : (o : Option (Row K)) (d d' : D) → HandsOver Puts IsSame queue (option_map (λ (r : Row K). r.key) o) (option_map pair_of o) d d'
        → map row_of_slip (slips d') ≡ map row_of_slip (slips d) ++ option_to_list (option_map (λ (r : Row K). (r.key, r.weight)) o)
    evicts_last None d d' x = no_more d d' (ap slips x)
    evicts_last (Some r) d d' x = puts d r.key r.value r.weight d' x

    handed : (rows : List (Row K)) (m : LruMsg K) (c : Option ℕ) (d d' : D) → c ≡ cleared_of rows m → HandsOver Puts IsSame queue c (evicted_of rows m) d d' → map row_of_slip (slips d') ≡ map row_of_slip (slips d) ++ option_to_list (evicted_row rows m)
    handed rows (Admit h k w) c d d' is x = no_more d d' (ap slips (none c d d' x))
    handed rows (IncrementWeight h k w m) c d d' is x = no_more d d' (ap slips (none c d d' x))
    handed rows (Promote h) c d d' is x = no_more d d' (ap slips (none c d d' x))
    handed rows (Remove h) c d d' is x = no_more d d' (ap slips (none c d d' x))
    handed rows (InsertTail h k w) c d d' is x = no_more d d' (ap slips (none c d d' x))
    handed rows PeekLru c d d' is x = no_more d d' (ap slips (none c d d' x))
    handed rows Snapshot c d d' is x = no_more d d' (ap slips (none c d d' x))
    handed rows QueryWeight c d d' is x = no_more d d' (ap slips (none c d d' x))
    handed rows Evict c d d' is x = evicts_last (last_row rows) d d' (subst (λ o. HandsOver Puts IsSame queue o (evicted_of rows Evict) d d') is x)

    module _ (old : State K) (look : ℕ → Option ℕ) (d : D) (m : LruMsg K) (e : Effect K) (new : State K) (look' : ℕ → Option ℕ) (d' : D) where
      abbrev t : Turn K
      t = turn (sent None m) e

      slips_one : Processes Puts IsSame queue IsClone MayRefuse old look d m e new look' d' → map row_of_slip (slips d') ≡ map row_of_slip (slips d) ++ row_leaving old.shard.rows t
      slips_one (inl s) =
          handed old.shard.rows m e.cleared s.roomy d' s.done.cleared s.handed
          ∙ ap (λ l. map row_of_slip l ++ option_to_list (evicted_row old.shard.rows m)) (roomy d s.roomy s.room)
          ∙ ap (λ l. map row_of_slip (slips d) ++ l) (sym (cond-false e.refused [] (option_to_list (evicted_row old.shard.rows m)) s.done.refused))
      slips_one (inr a) =
          no_more d d' (roomy d d' a.kept)
          ∙ ap (λ l. map row_of_slip (slips d) ++ l) (sym (cond-true e.refused [] (option_to_list (evicted_row old.shard.rows m)) a.refused.refused))

      rows_one : Processes Puts IsSame queue IsClone MayRefuse old look d m e new look' d' → new.shard.rows ≡ rows_after old.shard.rows t
      rows_one (inl s) = ap (λ (z : State K). z.shard.rows) s.done.left ∙ sym (done_rows old.shard.rows m e s.done.refused)
      rows_one (inr a) = ap (λ (z : State K). z.shard.rows) a.refused.left ∙ sym (same_rows old.shard.rows m e a.refused.refused)

    -- each row that a batch evicts has its slip
    pub slips_all : (msgs : List (LruMsg K)) (es : List (Effect K)) (old : State K) (look : ℕ → Option ℕ) (d : D) (new : State K) (look' : ℕ → Option ℕ) (d' : D) → ProcessesAll Puts IsSame queue IsClone MayRefuse old look d msgs es new look' d'
        → map row_of_slip (slips d') ≡ map row_of_slip (slips d) ++ rows_evicted old.shard.rows (turns_by msgs es)
    slips_all [] [] old look d new look' d' p = no_more d d' (ap slips p.1.1)
    slips_all [] (e ∷ es) old look d new look' d' p = absurd p
    slips_all (m ∷ ms) [] old look d new look' d' p = absurd p
    slips_all (m ∷ ms) (e ∷ es) old look d new look' d' p =
        slips_all ms es p.0 p.1.0 p.1.1.0 new look' d' p.1.1.1.1
        ∙ ap (λ l. l ++ rows_evicted p.0.shard.rows (turns_by ms es)) (slips_one old look d m e p.0 p.1.0 p.1.1.0 p.1.1.1.0)
        ∙ append_assoc (map row_of_slip (slips d)) (row_leaving old.shard.rows (turn (sent None m) e)) (rows_evicted p.0.shard.rows (turns_by ms es))
        ∙ ap (λ rs. map row_of_slip (slips d) ++ (row_leaving old.shard.rows (turn (sent None m) e) ++ rows_evicted rs (turns_by ms es))) (rows_one old look d m e p.0 p.1.0 p.1.1.0 p.1.1.1.0)

  -- a batch more
  pub kept_more : (IsClone : K → K → Type 0) (cap : ℕ) (done msgs : List (LruMsg K)) (es : List (Effect K)) (old : State K) (look : ℕ → Option ℕ) (q : Queue K) (new : State K) (look' : ℕ → Option ℕ) (q' : Queue K) (slips slips' : Option (List Slip))
      → (k : IsKept cap done old look slips) → ProcessesAll PutsPair IsSameQueue itself IsClone AtAnyTime old look q msgs es new look' q'
      → ((ss : List Slip) → slips' ≡ Some ss → (before : List Slip) × (slips ≡ Some before) × (map row_of_slip ss ≡ map row_of_slip before ++ rows_evicted old.shard.rows (turns_by msgs es)))
      → IsKept cap (done ++ msgs) new look' slips'
  kept_more IsClone cap done msgs es old look q new look' q' slips slips' k steps gains =
      let l = left_all IsClone cap done msgs es old look q new look' q' k.left.turns (by_turns cap done old look k.left) steps in
      record {
        left = record { turns = k.left.turns ++ turns_by msgs es; messages_are = l.messages_are; allowed = l.allowed; state = l.state; map_is = l.map_is };
        slips_are = λ ss e.
            let g = gains ss e in
            g.2 ∙ ap (λ l. l ++ rows_evicted old.shard.rows (turns_by msgs es)) (k.slips_are g.0 g.1)
            ∙ ap (λ (z : State K). rows_evicted [] k.left.turns ++ rows_evicted z.shard.rows (turns_by msgs es)) k.left.state
            ∙ sym (evicted_more [] k.left.turns (turns_by msgs es));
      }

  -- at first nothing is held, and no slip is there
  pub kept_first : (cap : ℕ) (messages : List (LruMsg K)) (s : State K) (look : ℕ → Option ℕ) (slips : Option (List Slip)) → messages ≡ [] → s ≡ state_of (shard [] cap) 0 → ((h : ℕ) → look h ≡ None) → ForSome slips (λ ss. ss ≡ [])
      → IsKept cap messages s look slips
  kept_first cap messages s look slips none state empty fresh = record {
    left = record { turns = []; messages_are = sym none; allowed = tt; state = state; map_is = empty };
    slips_are = λ ss e. ap (map row_of_slip) (fresh ss e);
  }

  counted_last : (h : ℕ) (o : Option (Row K)) → counted h (option_to_list (option_map (λ (r : Row K). (r.key, r.weight)) o)) ≡ one_if (option_map_or (λ (r : Row K). r.key == h) o false)
  counted_last h None = refl
  counted_last h (Some r) = omega arith

  counted_one : (h : ℕ) (rows : List (Row K)) (m : LruMsg K) → counted h (option_to_list (evicted_row rows m)) ≡ one_if (evicts h rows m)
  counted_one h rows (Admit _ _ _) = refl
  counted_one h rows (IncrementWeight _ _ _ _) = refl
  counted_one h rows (Promote _) = refl
  counted_one h rows (Remove _) = refl
  counted_one h rows (InsertTail _ _ _) = refl
  counted_one h rows Evict = counted_last h (last_row rows)
  counted_one h rows PeekLru = refl
  counted_one h rows Snapshot = refl
  counted_one h rows QueryWeight = refl

  abbrev once : (List (Row K) → LruMsg K → Bool) → List (Row K) → Turn K → ℕ
  once does rows t = one_if (not t.effect.refused && does rows t.msg)

  module _ (h : ℕ) where
    one_turn : (rows : List (Row K)) → HasDistinctKeys rows → (t : Turn K) (b : Bool) → t.effect.refused ≡ b
        → HasDistinctKeys (rows_after rows t) × (once (brings h) rows t + times h rows ≡ times h (rows_after rows t) + once (removes h) rows t + counted h (row_leaving rows t))
    one_turn rows d t true is =
        let after = cond-true t.effect.refused rows (consumed rows t.msg) is in
        let did : (does : List (Row K) → LruMsg K → Bool) → once does rows t ≡ 0 = λ does. ap (λ b. one_if (not b && does rows t.msg)) is in
        let gone = ap (counted h) (cond-true t.effect.refused [] (option_to_list (evicted_row rows t.msg)) is) in
        (subst HasDistinctKeys (sym after) d, omega (arith, did (brings h), did (removes h), ap (times h) after, gone))
    one_turn rows d t false is =
        let after = cond-false t.effect.refused rows (consumed rows t.msg) is in
        let did : (does : List (Row K) → LruMsg K → Bool) → once does rows t ≡ one_if (does rows t.msg) = λ does. ap (λ b. one_if (not b && does rows t.msg)) is in
        let gone = ap (counted h) (cond-false t.effect.refused [] (option_to_list (evicted_row rows t.msg)) is) ∙ counted_one h rows t.msg in
        let f = follows rows d t.msg in
        (subst HasDistinctKeys (sym after) f.distinct, omega (arith, did (brings h), did (removes h), ap (times h) after, gone, f.counts h))

    all_turns : (rows : List (Row K)) → HasDistinctKeys rows → (ts : List (Turn K))
        → times_done (brings h) rows ts + times h rows ≡ times h (rows_left rows ts) + times_done (removes h) rows ts + counted h (rows_evicted rows ts)
    all_turns rows d [] = omega arith
    all_turns rows d (t ∷ ts) =
        let one = one_turn rows d t t.effect.refused refl in
        let ih = all_turns (rows_after rows t) one.0 ts in
        let both = sum_by-append (λ (p : ℕ × ℕ). one_if (p.0 == h)) (row_leaving rows t) (rows_evicted (rows_after rows t) ts) in
        omega (arith, one.1, ih, both)

  pub account : (cap : ℕ) (messages : List (LruMsg K)) (s : State K) (look : ℕ → Option ℕ) (slips : List Slip) → IsKept cap messages s look (Some slips) → IsAccount cap messages s slips
  account cap messages s look slips k = record {
    turns = k.left.turns;
    messages_are = k.left.messages_are;
    allowed = k.left.allowed;
    state = k.left.state;
    slips_are = k.slips_are slips refl;
    hashes = λ h.
        let all = all_turns h [] (λ x. omega arith) k.left.turns in
        let is = sym (slips_counted h slips) ∙ ap (counted h) (k.slips_are slips refl) in
        let rows = ap (λ (z : State K). times h z.shard.rows) k.left.state in
        omega (arith, all, is, rows);
  }
