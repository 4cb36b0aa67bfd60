-- The law, by what each event keeps.
use Rattle.std.proofs.Common.{◌≡◌, ◌≢◌, ◌<◌, ℕ, ◌+◌, ◌%◌, ◌^◌, cond, zero, suc, Bool, true, false, List, [], ◌∷◌, ◌++◌, length, Some, refl, sym, ap, ◌∙◌, arith, subst, inl, inr, append_assoc, append-nil, length-append}
use Rattle.std.specs.Prelude.{replicate, slice_get, sum_by}
use Rattle.std.proofs.lemmas.Bool.{cond-true, cond-false}
use Rattle.std.proofs.lemmas.List.{map-append}
use Rattle.std.proofs.lemmas.List.Sums.{sum_by-cons, sum_by-append}
use Rattle.std.proofs.Math.Nat.{mod-add-mod}
use Rattle.lru_mailbox.specs.Queue.{Queue}
use Rattle.lru_shard.specs.Row.{weight_of}
use Rattle.lru_actors.specs.Messages.{State}
use Rattle.lru_actors.specs.declared.message.LruMsg.{LruMsg}
use Rattle.lru_actors.specs.Turns.{turn, messages_of, leaving, evictions}
use Rattle.lru_actors.specs.World.{Actor, World, Event, Send, Take, Consume, Look, Call, Leave, StopWorkers, StopMailbox, rows_of, At, Calls, left_alone, Consumes, Happens, Runs, put_by, all_put_by, IsKept, IsWhole, fresh, start}
use Rattle.lru_actors.proofs.TurnLaws.{evictions_more}
use Rattle.lru_actors.proofs.PostLaws.{one_place}
use Rattle.lru_actors.proofs.SenderLaws.{of_both, put_more, elsewhere}
use Rattle.lru_actors.proofs.ActorKeeps.{messages, Good, Quiet, sends, urges, takes, stops, advances, consumed_one, good_consumed}
use Rattle.lru_actors.proofs.WorldKeeps.{not_both, the_same, set_cases, length_set, at_place, sum_set, pairs_of, of_shard, tagged, of_more, of_own, of_other, untagged, length_tagged, weight_tagged, Joins, leaving_follow}

module _ {K : Type 0} (IsClone : K → K → Type 0) (cap : ℕ) where
  record Kept (n : ℕ) (events : List (Event K)) (w : World K) : Type 0 where
    count : length w.actors ≡ n
    own : (s : ℕ) (a : Actor K) → slice_get w.actors s ≡ Some a → (by : ℕ) → messages_of by a.accepted ≡ all_put_by by s events
    each : (s : ℕ) (a : Actor K) → slice_get w.actors s ≡ Some a → Good IsClone cap a
    left_here : (s : ℕ) (a : Actor K) → slice_get w.actors s ≡ Some a → of_shard s w.evicted ≡ evictions [] a.turns
    len : w.len ≡ sum_by (λ (a : Actor K). length (rows_of a)) w.actors
    weight : w.weight ≡ sum_by (λ (a : Actor K). weight_of (rows_of a)) w.actors
    evicted_len : w.evicted_len ≡ length w.evicted
    evicted_weight : w.evicted_weight ≡ sum_by (λ (p : ℕ × (K × ℕ)). p.1.1) w.evicted
    pairs : pairs_of w.evicted ≡ w.called ++ (w.lost ++ w.queue.waiting)
    lost : w.queue.lost ≡ length w.lost % 2 ^ 64
    none_lost : w.queue.closed ≡ false → w.lost ≡ []
    none_waits : w.queue.closed ≡ true → w.queue.waiting ≡ []

  -- an event by which no sender puts anything
  no_more : (by s : ℕ) (events : List (Event K)) (e : Event K) (ms : List (LruMsg K)) → put_by by s e ≡ [] → ms ≡ all_put_by by s events → ms ≡ all_put_by by s (events ++ e ∷ [])
  no_more by s events e ms none h = h ∙ sym (append-nil (all_put_by by s events)) ∙ ap (λ more. all_put_by by s events ++ more) (sym none) ∙ sym (put_more by s events e)

  module _ (n : ℕ) (events : List (Event K)) where
    at_keeps : (old new : World K) (e : Event K) (s : ℕ) (Does : Actor K → Actor K → Type 0)
        → ((j : ℕ) → j ≢ s → (by : ℕ) → put_by by j e ≡ [])
        → ((a b : Actor K) → Good IsClone cap a → Does a b → Quiet IsClone cap (λ by. put_by by s e) a b) → Kept n events old → At old s Does new → Kept n (events ++ e ∷ []) new
    at_keeps old new e s Does alone quiet k h =
        let a = h.0 in
        let b = h.1.0 in
        let there = h.1.1.0 in
        let q = quiet a b (k.each s a there) h.1.1.1.0 in
        let same_len : length (rows_of b) ≡ length (rows_of a) = ap (λ (x : State K). length x.shard.rows) q.same_state in
        let same_weight : weight_of (rows_of b) ≡ weight_of (rows_of a) = ap (λ (x : State K). weight_of x.shard.rows) q.same_state in
        subst (Kept n (events ++ e ∷ [])) (sym h.1.1.1.1) (record {
          count = length_set old.actors s b ∙ k.count;
          own = λ j x i. elim (set_cases old.actors s b j x i) [
            | inl m ↦ λ by. ap (λ (y : Actor K). messages_of by y.accepted) (sym m.1) ∙ q.own by ∙ ap (λ ms. ms ++ put_by by s e) (k.own s a there by)
                ∙ sym (put_more by s events e) ∙ ap (λ t. all_put_by by t (events ++ e ∷ [])) (sym m.0)
            | inr m ↦ λ by. no_more by j events e (messages_of by x.accepted) (alone j m.0 by) (k.own j x m.1 by)
          ];
          each = λ j x i. elim (set_cases old.actors s b j x i) [
            | inl m ↦ subst (Good IsClone cap) m.1 q.good
            | inr m ↦ k.each j x m.1
          ];
          left_here = λ j x i. elim (set_cases old.actors s b j x i) [
            | inl m ↦ ap (λ t. of_shard t old.evicted) m.0 ∙ k.left_here s a there ∙ ap (evictions []) (sym q.same_turns) ∙ ap (λ (y : Actor K). evictions [] y.turns) m.1
            | inr m ↦ k.left_here j x m.1
          ];
          len = k.len ∙ (let t = sum_set (λ (y : Actor K). length (rows_of y)) old.actors s a b there in omega (arith, t, same_len));
          weight = k.weight ∙ (let t = sum_set (λ (y : Actor K). weight_of (rows_of y)) old.actors s a b there in omega (arith, t, same_weight));
          evicted_len = k.evicted_len;
          evicted_weight = k.evicted_weight;
          pairs = k.pairs;
          lost = k.lost;
          none_lost = k.none_lost;
          none_waits = k.none_waits;
        })

  leave_keeps : (n : ℕ) (events : List (Event K)) (w : World K) → Kept n events w → Kept n (events ++ Leave ∷ []) (left_alone w)
  leave_keeps n events w k = record {
    count = k.count;
    own = λ s a i by. no_more by s events Leave (messages_of by a.accepted) refl (k.own s a i by);
    each = k.each;
    left_here = k.left_here;
    len = k.len;
    weight = k.weight;
    evicted_len = k.evicted_len;
    evicted_weight = k.evicted_weight;
    pairs = k.pairs ∙ ap (λ ps. w.called ++ ps) (sym (append-nil (w.lost ++ w.queue.waiting)));
    lost = ap (λ n. (n + length w.queue.waiting) % 2 ^ 64) k.lost ∙ mod-add-mod (length w.lost) (2 ^ 64) (length w.queue.waiting) ∙ ap (λ n. n % 2 ^ 64) (sym (length-append w.lost w.queue.waiting));
    none_lost = λ c. absurd (not_both c);
    none_waits = λ _. refl;
  }

  calls_keep : (n : ℕ) (events : List (Event K)) (old new : World K) → Kept n events old → Calls old new → Kept n (events ++ Call ∷ []) new
  calls_keep n events old new k h = by_closed old.queue.closed refl
    where
      p : K × ℕ
      p = h.0

      rest : List (K × ℕ)
      rest = h.1.0

      waits : old.queue.waiting ≡ p ∷ rest
      waits = h.1.1.0

      some_left : p ∷ rest ≡ [] → ⊥
      some_left e = cc

      by_closed : (b : Bool) → old.queue.closed ≡ b → Kept n (events ++ Call ∷ []) new
      by_closed true c = absurd (some_left (sym waits ∙ k.none_waits c))
      by_closed false c =
          let none = k.none_lost c in
          subst (Kept n (events ++ Call ∷ [])) (sym h.1.1.1) (record {
            count = k.count;
            own = λ s a i by. no_more by s events Call (messages_of by a.accepted) refl (k.own s a i by);
            each = k.each;
            left_here = k.left_here;
            len = k.len;
            weight = k.weight;
            evicted_len = k.evicted_len;
            evicted_weight = k.evicted_weight;
            pairs = k.pairs ∙ (λ i. old.called ++ (none i ++ waits i)) ∙ sym (append_assoc old.called (p ∷ []) rest) ∙ ap (λ l. (old.called ++ p ∷ []) ++ (l ++ rest)) (sym none);
            lost = k.lost;
            none_lost = k.none_lost;
            none_waits = λ d. absurd (not_both (sym d ∙ c));
          })

  consumes_keep : (n : ℕ) (events : List (Event K)) (old new : World K) (s : ℕ) → Kept n events old → Consumes IsClone s old new → Kept n (events ++ Consume s ∷ []) new
  consumes_keep n events old new s k h =
      let a = h.0 in
      let x = h.1.0 in
      let rest = h.1.1.0 in
      let e = h.1.1.1.0 in
      let state = h.1.1.1.1.0 in
      let look = h.1.1.1.1.1.0 in
      let queue = h.1.1.1.1.1.1.0 in
      let there = h.1.1.1.1.1.1.1.0 in
      let hand = h.1.1.1.1.1.1.1.1.0 in
      let does = h.1.1.1.1.1.1.1.1.1.0 in
      let is = h.1.1.1.1.1.1.1.1.1.1 in
      let g = k.each s a there in
      let v = advances IsClone cap a g x e state look old.queue queue does in
      let b : Actor K = consumed_one IsClone cap a g x e state look old.queue queue rest in
      let good = good_consumed IsClone cap a g x e state look old.queue queue rest hand v in
      let ps = leaving (rows_of a) (turn x e) in
      let f = leaving_follow IsClone a x e state look old.queue queue does in
      subst (Kept n (events ++ Consume s ∷ [])) (sym is) (record {
        count = length_set old.actors s b ∙ k.count;
        own = λ j y q. elim (set_cases old.actors s b j y q) [
          | inl m ↦ λ by. no_more by j events (Consume s) (messages_of by y.accepted) refl (
              ap (λ (z : Actor K). messages_of by z.accepted) (sym m.1) ∙ k.own s a there by ∙ ap (λ t. all_put_by by t events) (sym m.0)
              )
          | inr m ↦ λ by. no_more by j events (Consume s) (messages_of by y.accepted) refl (k.own j y m.1 by)
        ];
        each = λ j y q. elim (set_cases old.actors s b j y q) [
          | inl m ↦ subst (Good IsClone cap) m.1 good
          | inr m ↦ k.each j y m.1
        ];
        left_here = λ j y q. of_more j old.evicted (tagged s ps) ∙ elim (set_cases old.actors s b j y q) [
          | inl m ↦
              let left = ap (λ (z : State K). z.shard.rows) g.state in
              (λ i. of_shard (m.0 i) old.evicted ++ of_shard (m.0 i) (tagged s ps)) ∙ (λ i. k.left_here s a there i ++ of_own s ps i)
              ∙ ap (λ rs. evictions [] a.turns ++ leaving rs (turn x e)) left ∙ sym (evictions_more [] a.turns (turn x e)) ∙ ap (λ (z : Actor K). evictions [] z.turns) m.1
          | inr m ↦ (λ i. k.left_here j y m.1 i ++ of_other s j ps m.0 i) ∙ append-nil (evictions [] y.turns)
        ];
        len = (let t = sum_set (λ (y : Actor K). length (rows_of y)) old.actors s a b there in omega (arith, t, k.len, v.measured.len_before, v.measured.len_after));
        weight = (let t = sum_set (λ (y : Actor K). weight_of (rows_of y)) old.actors s a b there in omega (arith, t, k.weight, v.measured.weight_before, v.measured.weight_after));
        evicted_len = (let t = length-append old.evicted (tagged s ps) in omega (arith, t, k.evicted_len, length_tagged s ps));
        evicted_weight = (let t = sum_by-append (λ (p : ℕ × (K × ℕ)). p.1.1) old.evicted (tagged s ps) in omega (arith, t, k.evicted_weight, weight_tagged s ps));
        pairs = map-append (λ (p : ℕ × (K × ℕ)). p.1) old.evicted (tagged s ps) ∙ (λ i. k.pairs i ++ untagged s ps i) ∙ dispatched_so old queue ps k f old.queue.closed refl;
        lost = f.count old.lost k.lost;
        none_lost = λ c. cond-false old.queue.closed (old.lost ++ ps) old.lost (sym f.same_closed ∙ c) ∙ k.none_lost (sym f.same_closed ∙ c);
        none_waits = λ c. f.loses (sym f.same_closed ∙ c) ∙ k.none_waits (sym f.same_closed ∙ c);
      })
    where
      dispatched_so : (w : World K) (q : Queue K) (ps : List (K × ℕ)) → Kept n events w → Joins w.queue ps q → (b : Bool) → w.queue.closed ≡ b
          → (w.called ++ (w.lost ++ w.queue.waiting)) ++ ps ≡ w.called ++ (cond w.queue.closed (w.lost ++ ps) w.lost ++ q.waiting)
      dispatched_so w q ps k f false c =
          append_assoc w.called (w.lost ++ w.queue.waiting) ps ∙ ap (λ l. w.called ++ l) (append_assoc w.lost w.queue.waiting ps ∙ ap (λ l. w.lost ++ l) (sym (f.waits c)))
          ∙ ap (λ l. w.called ++ (l ++ q.waiting)) (sym (cond-false w.queue.closed (w.lost ++ ps) w.lost c))
      dispatched_so w q ps k f true c =
          let none = k.none_waits c in
          let new_none : q.waiting ≡ [] = f.loses c ∙ none in
          ap (λ l. (w.called ++ (w.lost ++ l)) ++ ps) none ∙ ap (λ l. (w.called ++ l) ++ ps) (append-nil w.lost) ∙ append_assoc w.called w.lost ps
          ∙ ap (λ l. w.called ++ l) (sym (append-nil (w.lost ++ ps)) ∙ ap (λ l. (w.lost ++ ps) ++ l) (sym new_none))
          ∙ ap (λ l. w.called ++ (l ++ q.waiting)) (sym (cond-true w.queue.closed (w.lost ++ ps) w.lost c))

  happens_keeps : (n : ℕ) (events : List (Event K)) (old new : World K) (e : Event K) → Kept n events old → Happens IsClone old e new → Kept n (events ++ e ∷ []) new
  happens_keeps n events old new (Send by s msg answer) k h =
      at_keeps n events old new (Send by s msg answer) s _ (λ j ne number. elsewhere number j s by msg answer (λ i. ne (sym i))) (λ a b. sends IsClone cap s by msg answer a b) k h
  happens_keeps n events old new (Take s m) k h = at_keeps n events old new (Take s m) s _ (λ j ne by. refl) (λ a b. takes IsClone cap m a b) k h
  happens_keeps n events old new (Consume s) k h = consumes_keep n events old new s k h
  happens_keeps n events old new (Look a b len_a len_b) k h =
      at_keeps n events old new (Look a b len_a len_b) _ _ (λ j ne by. refl) (λ x y. urges IsClone cap x y) k h.1
  happens_keeps n events old new Call k h = calls_keep n events old new k h
  happens_keeps n events old new Leave k h = subst (Kept n (events ++ Leave ∷ [])) (sym h) (leave_keeps n events old k)
  happens_keeps n events old new StopWorkers k h = subst (Kept n (events ++ StopWorkers ∷ [])) (sym h) (record {
    count = k.count;
    own = λ s a i by. no_more by s events StopWorkers (messages_of by a.accepted) refl (k.own s a i by);
    each = k.each;
    left_here = k.left_here;
    len = k.len;
    weight = k.weight;
    evicted_len = k.evicted_len;
    evicted_weight = k.evicted_weight;
    pairs = k.pairs;
    lost = k.lost;
    none_lost = k.none_lost;
    none_waits = k.none_waits;
  })
  happens_keeps n events old new (StopMailbox s) k h = at_keeps n events old new (StopMailbox s) s _ (λ j ne by. refl) (λ a b. stops IsClone cap a b) k h

  -- `before` are the events that have happened
  runs_keep : (n : ℕ) (before : List (Event K)) (old new : World K) (es : List (Event K)) → Kept n before old → Runs IsClone old es new → Kept n (before ++ es) new
  runs_keep n before old new [] k h = subst (λ w. Kept n (before ++ []) w) (sym h) (subst (λ all. Kept n all old) (sym (append-nil before)) k)
  runs_keep n before old new (e ∷ es) k h = subst (λ all. Kept n all new) (append_assoc before (e ∷ []) es) (runs_keep n (before ++ e ∷ []) h.0 new es (happens_keeps n before old h.0 e k h.1.0) h.1.1)

  fresh_good : Good IsClone cap (fresh cap)
  fresh_good = record {
    order = refl;
    state = refl;
    distinct = λ k. omega arith;
    map_is = λ h. refl;
    known = λ i x e is. cc;
    open_behind = λ _. refl;
    closed_waits = λ _. refl;
    allowed = tt;
    answered = tt;
    hashes = λ h. refl;
    len_is = refl;
  }

  of_replicate : (n s : ℕ) (a : Actor K) → slice_get (replicate n (fresh cap)) s ≡ Some a → fresh cap ≡ a
  of_replicate zero s a e = cc
  of_replicate (suc n) zero a e = the_same (fresh cap) a e
  of_replicate (suc n) (suc s) a e = of_replicate n s a e

  no_sum : (f : Actor K → ℕ) → f (fresh cap) ≡ 0 → (n : ℕ) → 0 ≡ sum_by f (replicate n (fresh cap))
  no_sum f e zero = refl
  no_sum f e (suc n) = omega (arith, sum_by-cons f (fresh cap) (replicate n (fresh cap)), no_sum f e n, e)

  length_replicate : (n : ℕ) (a : Actor K) → length (replicate n a) ≡ n
  length_replicate zero a = refl
  length_replicate (suc n) a = ap suc (length_replicate n a)

  start_kept : (n : ℕ) → Kept n [] (start n cap)
  start_kept n = record {
    count = length_replicate n (fresh cap);
    own = λ s a e by. ap (λ (x : Actor K). messages_of by x.accepted) (sym (of_replicate n s a e));
    each = λ s a e. subst (Good IsClone cap) (of_replicate n s a e) fresh_good;
    left_here = λ s a e. ap (λ (x : Actor K). evictions [] x.turns) (of_replicate n s a e);
    len = no_sum (λ (a : Actor K). length (rows_of a)) refl n;
    weight = no_sum (λ (a : Actor K). weight_of (rows_of a)) refl n;
    evicted_len = refl;
    evicted_weight = refl;
    pairs = refl;
    lost = refl;
    none_lost = λ _. refl;
    none_waits = λ _. refl;
  }

  pub shard_law : (n : ℕ) (es : List (Event K)) (w : World K) → Runs IsClone (start n cap) es w → (s : ℕ) → s < n → (a : Actor K) × ((slice_get w.actors s ≡ Some a) × IsKept IsClone cap es w s a)
  shard_law n es w h s below =
      let k = runs_keep n [] (start n cap) w es (start_kept n) h in
      let count : length w.actors ≡ n = k.count in
      let found = at_place w.actors s (omega arith) in
      let a = found.0 in
      let e = found.1 in
      let g = k.each s a e in (
        a,
        (
          e,
          record {
            order = g.order;
            own = k.own s a e;
            own_order = λ by. sym (of_both by (messages a.turns) (a.hand ++ (a.behind ++ a.post.waiting))) ∙ ap (messages_of by) (sym g.order) ∙ k.own s a e by;
            rows = ap (λ (x : State K). x.shard.rows) g.state;
            cap_is = ap (λ (x : State K). x.shard.cap) g.state;
            allowed = g.allowed;
            refused = ap (λ (x : State K). x.refused) g.state;
            map_is = g.map_is;
            one_evict = one_place a.post g.known;
            answered = g.answered;
            hashes = g.hashes;
            len_is = g.len_is;
            evicted = k.left_here s a e;
          },
        ),
      )

  pub whole_law : (n : ℕ) (es : List (Event K)) (w : World K) → Runs IsClone (start n cap) es w → IsWhole n w
  whole_law n es w h =
      let k = runs_keep n [] (start n cap) w es (start_kept n) h in
      record { shards = k.count; len = k.len; weight = k.weight; evicted_len = k.evicted_len; evicted_weight = k.evicted_weight; pairs = k.pairs; lost = k.lost }
