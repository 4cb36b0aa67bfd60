-- What holds of one actor, kept by each event of its own.
use Rattle.std.proofs.Common.{◌≡◌, ℕ, ◌+◌, ◌%◌, ◌^◌, ◌&&◌, not, zero, suc, Bool, true, false, List, [], ◌∷◌, ◌++◌, length, map, take, drop, Some, None, Ok, Err, refl, sym, ap, ◌∙◌, arith, subst, inl, inr, append_assoc, append-nil}
use Rattle.std.specs.Prelude.{Option, Result}
use Rattle.std.proofs.lemmas.Bool.{cond-true, cond-false}
use Rattle.std.proofs.lemmas.List.{map-append, take-append-drop}
use Rattle.std.proofs.Math.Nat.{mod-add-mod}
use Rattle.lru_mailbox.specs.declared.mail_error.MailError.{MailError}
use Rattle.lru_mailbox.specs.declared.mail_error.MailError.TheVariants.{Memory, Closed, Waiting}
use Rattle.lru_mailbox.specs.Mail.{Post, Mail, mail_of, served, left, Pushes, PushesEvict}
use Rattle.lru_mailbox.specs.Queue.{Queue}
use Rattle.lru_shard.specs.Row.{Row, times, HasDistinctKeys}
use Rattle.lru_shard.specs.Shard.{shard}
use Rattle.lru_actors.specs.declared.message.LruMsg.{LruMsg}
use Rattle.lru_actors.specs.declared.message.LruMsg.TheVariants.{Evict}
use Rattle.lru_actors.specs.declared.effect.Effect.{Effect}
use Rattle.lru_actors.specs.Messages.{State, state_of, consumed, put_of, cleared_of, refusal_of, MayBeRefused, IsMeasured}
use Rattle.lru_actors.specs.Processing.{mapped, IsServed, IsTurnedAway, Processes}
use Rattle.lru_actors.proofs.Served.{mapped_same}
use Rattle.lru_actors.specs.Turns.{Sent, Turn, sent, turn, sent_of, messages_of, rows_after, rows_left, refusals, brings, removes, evicts, times_done, weight_in, IsAllowed, AreAllowed, IsAnswered, AreAnswered}
use Rattle.lru_actors.specs.World.{Actor, Send, PutsPair, IsSameQueue, itself, AtAnyTime, rows_of, accepted_by, advanced, put_by, Sends, Urges, Takes, Stops}
use Rattle.lru_actors.proofs.TurnLaws.{rows_more, refusals_more, once, done_more, allowed_more, answered_more}
use Rattle.lru_actors.proofs.MessageLaws.{one_if, follows, wants_same}
use Rattle.lru_actors.proofs.PostLaws.{IsKnown, known_posted, known_urged, known_served}
use Rattle.lru_actors.proofs.SenderLaws.{of_both, own_sent, none_sent}

off : true ≡ false → ⊥
off e = cc

module _ {K : Type 0} where
  abbrev pub messages : List (Turn K) → List (Sent K)
  messages turns = map sent_of turns

module _ {K : Type 0} (IsClone : K → K → Type 0) (cap : ℕ) where
  pub record Good (a : Actor K) : Type 0 where
    pub order : a.accepted ≡ messages a.turns ++ (a.hand ++ (a.behind ++ a.post.waiting))
    pub state : a.state ≡ state_of (shard (rows_left [] a.turns) cap) (refusals a.turns % 2 ^ 64)
    pub distinct : HasDistinctKeys (rows_of a)
    pub map_is : (h : ℕ) → a.look h ≡ weight_in (rows_of a) h
    pub known : IsKnown a.post
    pub open_behind : a.post.closed ≡ false → a.behind ≡ []
    pub closed_waits : a.post.closed ≡ true → a.post.waiting ≡ []
    pub allowed : AreAllowed cap [] a.turns
    pub answered : AreAnswered IsClone [] a.turns
    pub hashes : (h : ℕ) → times_done (brings h) [] a.turns ≡ times h (rows_of a) + times_done (removes h) [] a.turns + times_done (evicts h) [] a.turns
    pub len_is : a.len ≡ length (rows_of a)

  -- an event that changes neither rows nor turns. `added` are the messages that each sender put by it
  pub record Quiet (added : ℕ → List (LruMsg K)) (a b : Actor K) : Type 0 where
    pub good : Good b
    pub same_state : b.state ≡ a.state
    pub same_turns : b.turns ≡ a.turns
    pub own : (by : ℕ) → messages_of by b.accepted ≡ messages_of by a.accepted ++ added by

  abbrev pub nothing : ℕ → List (LruMsg K)
  nothing by = []

  module _ (a : Actor K) (g : Good a) where
    with_post : (post : Post (Sent K)) → post ≡ a.post → Quiet nothing a (record a { post = post; accepted = a.accepted ++ [] })
    with_post post e = record {
      own = λ by. of_both by a.accepted [];
      good = record {
        order = append-nil a.accepted ∙ g.order ∙ ap (λ (p : Post (Sent K)). messages a.turns ++ (a.hand ++ (a.behind ++ p.waiting))) (sym e);
        state = g.state;
        distinct = g.distinct;
        map_is = g.map_is;
        known = subst IsKnown (sym e) g.known;
        open_behind = λ c. g.open_behind (sym (ap (λ (p : Post (Sent K)). p.closed) e) ∙ c);
        closed_waits = λ c. ap (λ (p : Post (Sent K)). p.waiting) e ∙ g.closed_waits (sym (ap (λ (p : Post (Sent K)). p.closed) e) ∙ c);
        allowed = g.allowed;
        answered = g.answered;
        hashes = g.hashes;
        len_is = g.len_is;
      };
      same_state = refl;
      same_turns = refl;
    }

    -- a message is put into an open mailbox
    with_message : (post : Post (Sent K)) (msg : Sent K) → post.waiting ≡ a.post.waiting ++ msg ∷ [] → post.closed ≡ false → a.post.closed ≡ false → IsKnown post
        → Quiet (λ by. messages_of by (msg ∷ [])) a (record a { post = post; accepted = a.accepted ++ msg ∷ [] })
    with_message post msg waits is_open was known = record {
      own = λ by. of_both by a.accepted (msg ∷ []);
      good = record {
        order = ap (λ ms. ms ++ msg ∷ []) g.order ∙ append_assoc (messages a.turns) (a.hand ++ (a.behind ++ a.post.waiting)) (msg ∷ [])
            ∙ ap (λ ms. messages a.turns ++ ms) (append_assoc a.hand (a.behind ++ a.post.waiting) (msg ∷ []) ∙ ap (λ ms. a.hand ++ ms) (append_assoc a.behind a.post.waiting (msg ∷ []) ∙ ap (λ ms. a.behind ++ ms) (sym waits)));
        state = g.state;
        distinct = g.distinct;
        map_is = g.map_is;
        known = known;
        open_behind = λ c. g.open_behind was;
        closed_waits = λ c. absurd (off (sym c ∙ is_open));
        allowed = g.allowed;
        answered = g.answered;
        hashes = g.hashes;
        len_is = g.len_is;
      };
      same_state = refl;
      same_turns = refl;
    }

    abbrev added_by : Result (Unit {0}) (MailError (Sent K)) → Sent K → ℕ → List (LruMsg K)
    added_by answer x by = messages_of by (accepted_by answer x)

    sent_so : (x : Sent K) (room : ℕ) (answer : Result (Unit {0}) (MailError (Sent K))) (mail : Mail (Sent K)) → (x.msg ≡ Evict → ⊥)
        → Pushes (mail_of a.post room) x answer mail → Quiet (added_by answer x) a (record a { post = mail.post; accepted = a.accepted ++ accepted_by answer x })
    sent_so x room (Ok _) mail other h = with_message mail.post x (ap (λ (p : Post (Sent K)). p.waiting) h.1) (ap (λ (p : Post (Sent K)). p.closed) h.1 ∙ h.0) h.0 (subst IsKnown (sym h.1) (known_posted a.post x other g.known))
    sent_so x room (Err (Closed held)) mail other h = with_post mail.post (ap (λ (m : Mail (Sent K)). m.post) h.2)
    sent_so x room (Err (Waiting held)) mail other h = absurd h
    sent_so x room (Err (Memory held)) mail other h = with_post mail.post h.3

    urged_so : (x : Sent K) (room : ℕ) (answer : Result (Unit {0}) (MailError (Sent K))) (mail : Mail (Sent K))
        → PushesEvict (mail_of a.post room) x answer mail → Quiet (added_by answer x) a (record a { post = mail.post; accepted = a.accepted ++ accepted_by answer x })
    urged_so x room (Ok _) mail h = with_message mail.post x (ap (λ (p : Post (Sent K)). p.waiting) h.2) (ap (λ (p : Post (Sent K)). p.closed) h.2 ∙ h.0) h.0 (subst IsKnown (sym h.2) (known_urged a.post x h.1 g.known))
    urged_so x room (Err (Closed held)) mail h = with_post mail.post (ap (λ (m : Mail (Sent K)). m.post) h.2)
    urged_so x room (Err (Waiting held)) mail h = with_post mail.post (ap (λ (m : Mail (Sent K)). m.post) h.3)
    urged_so x room (Err (Memory held)) mail h = with_post mail.post h.4

    taken : (n : ℕ) → a.hand ≡ [] → Quiet nothing a (record a { hand = take n a.post.waiting; post = served n a.post })
    taken n empty = record {
      own = λ by. sym (append-nil (messages_of by a.accepted));
      good = record {
        order = g.order ∙ ap (λ ms. messages a.turns ++ ms) (by_closed a.post.closed refl);
        state = g.state;
        distinct = g.distinct;
        map_is = g.map_is;
        known = known_served n a.post g.known;
        open_behind = g.open_behind;
        closed_waits = λ c. ap (drop n) (g.closed_waits c) ∙ drop_none n;
        allowed = g.allowed;
        answered = g.answered;
        hashes = g.hashes;
        len_is = g.len_is;
      };
      same_state = refl;
      same_turns = refl;
    }
      where
        drop_none : (n : ℕ) → drop {A = Sent K} n [] ≡ []
        drop_none zero = refl
        drop_none (suc n) = refl

        take_none : (n : ℕ) → take {A = Sent K} n [] ≡ []
        take_none zero = refl
        take_none (suc n) = refl

        by_closed : (b : Bool) → a.post.closed ≡ b → a.hand ++ (a.behind ++ a.post.waiting) ≡ take n a.post.waiting ++ (a.behind ++ drop n a.post.waiting)
        by_closed false e =
            let none = g.open_behind e in
            (λ i. empty i ++ (none i ++ a.post.waiting)) ∙ sym (take-append-drop n a.post.waiting) ∙ ap (λ ms. take n a.post.waiting ++ (ms ++ drop n a.post.waiting)) (sym none)
        by_closed true e =
            let none = g.closed_waits e in
            let no_first : take n a.post.waiting ≡ [] = ap (take n) none ∙ take_none n in
            let no_rest : drop n a.post.waiting ≡ [] = ap (drop n) none ∙ drop_none n in
            (λ i. empty i ++ (a.behind ++ none i)) ∙ sym (λ i. no_first i ++ (a.behind ++ no_rest i))

    stopped : Quiet nothing a (record a { behind = a.behind ++ a.post.waiting; post = left a.post })
    stopped = record {
      own = λ by. sym (append-nil (messages_of by a.accepted));
      good = record {
        order = g.order ∙ ap (λ ms. messages a.turns ++ (a.hand ++ ms)) (sym (append-nil (a.behind ++ a.post.waiting)));
        state = g.state;
        distinct = g.distinct;
        map_is = g.map_is;
        known = λ i x e is. cc;
        open_behind = λ c. absurd (off c);
        closed_waits = λ c. refl;
        allowed = g.allowed;
        answered = g.answered;
        hashes = g.hashes;
        len_is = g.len_is;
      };
      same_state = refl;
      same_turns = refl;
    }

  pub sends : (s number : ℕ) (msg : LruMsg K) (answer : Result (Unit {0}) (MailError (Sent K))) (a b : Actor K) → Good a → Sends number msg answer a b
      → Quiet (λ by. put_by by s (Send number s msg answer)) a b
  sends s number msg answer a b g h =
      let q = sent_so a g (sent (Some number) msg) h.1.0 answer h.1.1.0 h.0 h.1.1.1.0 in
      subst (Quiet (λ by. put_by by s (Send number s msg answer)) a) (sym h.1.1.1.1) (record {
        good = q.good;
        same_state = q.same_state;
        same_turns = q.same_turns;
        own = λ by. q.own by ∙ ap (λ ms. messages_of by a.accepted ++ ms) (own_sent by s number msg answer);
      })

  pub urges : (a b : Actor K) → Good a → Urges a b → Quiet nothing a b
  urges a b g h =
      let q = urged_so a g (sent None Evict) h.1.0 h.0 h.1.1.0 h.1.1.1.0 in
      subst (Quiet nothing a) (sym h.1.1.1.1) (record {
        good = q.good;
        same_state = q.same_state;
        same_turns = q.same_turns;
        own = λ by. q.own by ∙ ap (λ ms. messages_of by a.accepted ++ ms) (none_sent by Evict h.0);
      })

  pub takes : (n : ℕ) (a b : Actor K) → Good a → Takes n a b → Quiet nothing a b
  takes n a b g h = subst (Quiet nothing a) (sym h.1.1) (taken a g n h.0)

  pub stops : (a b : Actor K) → Good a → Stops a b → Quiet nothing a b
  stops a b g h = subst (Quiet nothing a) (sym h) (stopped a g)

  -- what consuming a message makes of one actor
  pub record Advances (a : Actor K) (x : Sent K) (e : Effect K) (new : State K) (look : ℕ → Option ℕ) : Type 0 where
    pub state : new ≡ state_of (shard (rows_after (rows_of a) (turn x e)) cap) (refusals (a.turns ++ turn x e ∷ []) % 2 ^ 64)
    pub distinct : HasDistinctKeys (rows_after (rows_of a) (turn x e))
    pub map_is : (h : ℕ) → look h ≡ weight_in (rows_after (rows_of a) (turn x e)) h
    pub allowed : IsAllowed cap (rows_of a) (turn x e)
    pub answered : IsAnswered IsClone (rows_of a) (turn x e)
    pub hashes : (h : ℕ) → once (brings h) (rows_of a) (turn x e) + times h (rows_of a)
        ≡ times h (rows_after (rows_of a) (turn x e)) + once (removes h) (rows_of a) (turn x e) + once (evicts h) (rows_of a) (turn x e)
    pub measured : IsMeasured a.state e new

  module _ (a : Actor K) (g : Good a) (x : Sent K) (e : Effect K) (new : State K) (look : ℕ → Option ℕ) (q q' : Queue K) where
    cap_is : a.state.shard.cap ≡ cap
    cap_is = ap (λ (s : State K). s.shard.cap) g.state

    refused_is : a.state.refused ≡ refusals a.turns % 2 ^ 64
    refused_is = ap (λ (s : State K). s.refused) g.state

    served_so : IsServed PutsPair IsSameQueue itself IsClone a.state a.look q x.msg e new look q' → Advances a x e new look
    served_so s =
        let no : e.refused ≡ false = s.done.refused in
        let rows : rows_after (rows_of a) (turn x e) ≡ consumed (rows_of a) x.msg = cond-false e.refused (rows_of a) (consumed (rows_of a) x.msg) no in
        let f = follows (rows_of a) g.distinct x.msg in
        let count : refusals (a.turns ++ turn x e ∷ []) ≡ refusals a.turns = refusals_more a.turns (turn x e) ∙ ap (λ b. refusals a.turns + one_if b) no ∙ (let z : refusals a.turns + 0 ≡ refusals a.turns = omega arith in z) in
        let did : (does : List (Row K) → LruMsg K → Bool) → once does (rows_of a) (turn x e) ≡ one_if (does (rows_of a) x.msg) = λ does. ap (λ b. one_if (not b && does (rows_of a) x.msg)) no in
        let m = s.done.measured in
        record {
          state = s.done.left ∙ (λ i. state_of (shard (consumed (rows_of a) x.msg) (cap_is i)) (refused_is i))
              ∙ sym (λ i. state_of (shard (rows i) cap) (count i % 2 ^ 64));
          distinct = subst HasDistinctKeys (sym rows) f.distinct;
          map_is = λ h. s.map h ∙ ap (λ p. mapped p e.cleared a.look h) s.done.put ∙ ap (λ c. mapped (put_of (rows_of a) x.msg) c a.look h) s.done.cleared
              ∙ mapped_same (put_of (rows_of a) x.msg) (cleared_of (rows_of a) x.msg) a.look (weight_in (rows_of a)) g.map_is h ∙ sym (f.weighs h) ∙ ap (λ rs. weight_in rs h) (sym rows);
          allowed = inl (no, ap (λ c. refusal_of (shard (rows_of a) c) x.msg) (sym cap_is) ∙ s.done.allowed);
          answered = inr (no, s.done.reply);
          hashes = λ h. omega (arith, f.counts h, did (brings h), did (removes h), did (evicts h), ap (times h) rows);
          measured = record { weight_before = m.weight_before; len_before = m.len_before; weight_after = m.weight_after; len_after = m.len_after };
        }

    turned_so : IsTurnedAway PutsPair IsSameQueue itself IsClone AtAnyTime a.state a.look q x.msg e new look q' → Advances a x e new look
    turned_so t =
        let yes : e.refused ≡ true = t.refused.refused in
        let rows : rows_after (rows_of a) (turn x e) ≡ rows_of a = cond-true e.refused (rows_of a) (consumed (rows_of a) x.msg) yes in
        let count : refusals (a.turns ++ turn x e ∷ []) ≡ refusals a.turns + 1 = refusals_more a.turns (turn x e) ∙ ap (λ b. refusals a.turns + one_if b) yes in
        let did : (does : List (Row K) → LruMsg K → Bool) → once does (rows_of a) (turn x e) ≡ 0 = λ does. ap (λ b. one_if (not b && does (rows_of a) x.msg)) yes in
        record {
          state = t.refused.left ∙ (λ i. state_of (shard (rows_of a) (cap_is i)) ((refused_is i + 1) % 2 ^ 64))
              ∙ ap (λ n. state_of (shard (rows_of a) cap) n) (mod-add-mod (refusals a.turns) (2 ^ 64) 1)
              ∙ sym (λ i. state_of (shard (rows i) cap) (count i % 2 ^ 64));
          distinct = subst HasDistinctKeys (sym rows) g.distinct;
          map_is = λ h. t.map h ∙ g.map_is h ∙ ap (λ rs. weight_in rs h) (sym rows);
          allowed = inr (
            yes,
            elim t.may [
              | inl m ↦ inl (subst (λ c. MayBeRefused (shard (rows_of a) c) x.msg) cap_is m)
              | inr w ↦ inr (wants_same (rows_of a) a.look (weight_in (rows_of a)) g.map_is x.msg w)
            ],
          );
          answered = inl (yes, t.refused.reply);
          hashes = λ h. omega (arith, did (brings h), did (removes h), did (evicts h), ap (times h) rows);
          measured = t.refused.measured;
        }

    pub advances : Processes PutsPair IsSameQueue itself IsClone AtAnyTime a.state a.look q x.msg e new look q' → Advances a x e new look
    advances p = elim p [ inl s ↦ served_so s | inr t ↦ turned_so t ]

    -- the actor after it
    abbrev pub consumed_one : List (Sent K) → Actor K
    consumed_one rest = advanced a x e rest new look

    pub good_consumed : (rest : List (Sent K)) → a.hand ≡ x ∷ rest → Advances a x e new look → Good (consumed_one rest)
    good_consumed rest hand v =
        let t = turn x e in
        let left : rows_of a ≡ rows_left [] a.turns = ap (λ (s : State K). s.shard.rows) g.state in
        let all : rows_after (rows_of a) t ≡ rows_left [] (a.turns ++ t ∷ []) = ap (λ rs. rows_after rs t) left ∙ sym (rows_more [] a.turns t) in
        let rows : new.shard.rows ≡ rows_after (rows_of a) t = ap (λ (s : State K). s.shard.rows) v.state in
        let did : (does : List (Row K) → LruMsg K → Bool) → times_done does [] (a.turns ++ t ∷ []) ≡ times_done does [] a.turns + once does (rows_of a) t
        = λ does. done_more does [] a.turns t ∙ ap (λ rs. times_done does [] a.turns + once does rs t) (sym left) in
        record {
          order = g.order ∙ ap (λ ms. messages a.turns ++ (ms ++ (a.behind ++ a.post.waiting))) hand
              ∙ sym (append_assoc (messages a.turns) (x ∷ []) (rest ++ (a.behind ++ a.post.waiting)))
              ∙ ap (λ ms. ms ++ (rest ++ (a.behind ++ a.post.waiting))) (sym (map-append sent_of a.turns (t ∷ [])));
          state = v.state ∙ ap (λ rs. state_of (shard rs cap) (refusals (a.turns ++ t ∷ []) % 2 ^ 64)) all;
          distinct = subst HasDistinctKeys (sym rows) v.distinct;
          map_is = λ h. v.map_is h ∙ ap (λ rs. weight_in rs h) (sym rows);
          known = g.known;
          open_behind = g.open_behind;
          closed_waits = g.closed_waits;
          allowed = allowed_more cap [] a.turns t g.allowed (subst (λ rs. IsAllowed cap rs t) left v.allowed);
          answered = answered_more IsClone [] a.turns t g.answered (subst (λ rs. IsAnswered IsClone rs t) left v.answered);
          hashes = λ h. omega (arith, did (brings h), did (removes h), did (evicts h), v.hashes h, g.hashes h, ap (times h) rows);
          len_is = omega (arith, g.len_is, v.measured.len_before, v.measured.len_after);
        }
