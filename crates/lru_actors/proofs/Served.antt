-- A message that the shard has served, or refused, is processed once the map and the queue have followed.
use Rattle.std.proofs.Common.{◌≡◌, ℕ, ◌+◌, ◌%◌, ◌^◌, cond, eqb, Bool, true, List, [], ◌∷◌, ◌++◌, Some, None, refl, sym, ap, ◌∙◌, subst, inl, inr}
use Rattle.std.specs.Prelude.{Option}
use Rattle.lru_mailbox.specs.Queue.{Queue}
use Rattle.lru_actors.specs.declared.message.LruMsg.{LruMsg}
use Rattle.lru_actors.specs.declared.effect.Effect.{Effect}
use Rattle.lru_actors.specs.Messages.{State, state_of, looks, quiet, measure, evicted_of, MayBeRefused, IsRefused, IsDone, Steps}
use Rattle.lru_actors.specs.Processing.{set_in, mapped, queued, MayWantRoom, IsKept, HandsOver, IsServed, IsTurnedAway, Processes, ProcessesAll}
use Rattle.lru_actors.proofs.Done.{declined}

-- what is set and taken out depends on the map at each hash alone
pub set_same : (p : Option (ℕ × ℕ)) (f g : ℕ → Option ℕ) → ((k : ℕ) → f k ≡ g k) → (k : ℕ) → set_in p f k ≡ set_in p g k
set_same None f g h k = h k
set_same (Some p) f g h k = ap (λ o. cond (eqb p.0 k) (Some p.1) o) (h k)

pub mapped_same : (p : Option (ℕ × ℕ)) (c : Option ℕ) (f g : ℕ → Option ℕ) → ((k : ℕ) → f k ≡ g k) → (k : ℕ) → mapped p c f k ≡ mapped p c g k
mapped_same p None f g h k = set_same p f g h k
mapped_same p (Some x) f g h k = ap (λ o. cond (eqb x k) None o) (set_same p f g h k)

module _ {K D : Type 0} (Puts : D → ℕ → K → ℕ → D → Type 0) (IsSame : D → D → Type 0) (queue : D → Queue K) (IsClone : K → K → Type 0) (MayRefuse : D → Type 0) where
  by_done : (old : State K) (look look1 look2 : ℕ → Option ℕ) (d d1 d2 : D) (msg : LruMsg K) (e : Effect K) (taken rest : Option (K × ℕ)) (new : State K)
      → ((k : ℕ) → look1 k ≡ look k) → IsKept Puts IsSame queue d d1 → queue d1 ≡ queue d → ((k : ℕ) → look2 k ≡ mapped e.put e.cleared look1 k)
      → taken ≡ e.evicted → rest ≡ None → HandsOver Puts IsSame queue e.cleared taken d1 d2 → queue d2 ≡ queued taken (queue d1)
      → IsDone IsClone old msg e new → IsServed Puts IsSame queue IsClone old look d msg (record e { evicted = rest }) new look2 d2
  by_done old look look1 look2 d d1 d2 msg e taken rest new same kept q map t r handed q2 h =
      let is : taken ≡ evicted_of old.shard.rows msg = t ∙ h.evicted in
      record {
        done = record {
          allowed = h.allowed;
          left = h.left;
          refused = h.refused;
          put = h.put;
          cleared = h.cleared;
          evicted = refl;
          reply = h.reply;
          look = h.look;
          measured = record {
            weight_before = h.measured.weight_before;
            len_before = h.measured.len_before;
            weight_after = h.measured.weight_after;
            len_after = h.measured.len_after;
          };
        };
        evicted = r;
        map = λ k. map k ∙ mapped_same e.put e.cleared look1 look same k;
        queue_is = q2 ∙ ap (λ z. queued taken z) q ∙ ap (λ z. queued z (queue d)) is;
        roomy = d1;
        room = kept;
        handed = subst (λ z. HandsOver Puts IsSame queue e.cleared z d1 d2) is handed;
      }

  by_refusal : (old : State K) (look look1 look2 : ℕ → Option ℕ) (d d1 d2 : D) (msg : LruMsg K) (e : Effect K) (taken rest : Option (K × ℕ)) (new : State K)
      → ((k : ℕ) → look1 k ≡ look k) → IsKept Puts IsSame queue d d1 → queue d1 ≡ queue d → ((k : ℕ) → look2 k ≡ mapped e.put e.cleared look1 k)
      → taken ≡ e.evicted → rest ≡ None → HandsOver Puts IsSame queue e.cleared taken d1 d2 → queue d2 ≡ queued taken (queue d1)
      → (may : MayBeRefused old.shard msg) → IsRefused old msg e new → IsTurnedAway Puts IsSame queue IsClone MayRefuse old look d msg (record e { evicted = rest }) new look2 d2
  by_refusal old look look1 look2 d d1 d2 msg e taken rest new same kept q map t r handed q2 may h =
      let none : taken ≡ None = t ∙ h.evicted in
      let stays : d2 ≡ d1 = subst (λ z. HandsOver Puts IsSame queue z None d1 d2) h.cleared (subst (λ z. HandsOver Puts IsSame queue e.cleared z d1 d2) none handed) in
      record {
        may = inl may;
        refused = record {
          left = h.left;
          refused = h.refused;
          put = h.put;
          cleared = h.cleared;
          evicted = r;
          reply = h.reply;
          look = h.look;
          measured = record {
            weight_before = h.measured.weight_before;
            len_before = h.measured.len_before;
            weight_after = h.measured.weight_after;
            len_after = h.measured.len_after;
          };
        };
        map = λ k. map k ∙ ap (λ p. mapped p e.cleared look1 k) h.put ∙ ap (λ c. mapped None c look1 k) h.cleared ∙ same k;
        queue_is = q2 ∙ ap (λ z. queued z (queue d1)) none ∙ q;
        kept = subst (λ z. IsKept Puts IsSame queue d z) (sym stays) kept;
      }

  pub processed : (old : State K) (look look1 look2 : ℕ → Option ℕ) (d d1 d2 : D) (msg : LruMsg K) (e : Effect K) (taken rest : Option (K × ℕ)) (new : State K)
      → ((k : ℕ) → look1 k ≡ look k) → IsKept Puts IsSame queue d d1 → queue d1 ≡ queue d → ((k : ℕ) → look2 k ≡ mapped e.put e.cleared look1 k)
      → taken ≡ e.evicted → rest ≡ None → HandsOver Puts IsSame queue e.cleared taken d1 d2 → queue d2 ≡ queued taken (queue d1)
      → Steps IsClone old msg e new → Processes Puts IsSame queue IsClone MayRefuse old look d msg (record e { evicted = rest }) new look2 d2
  processed old look look1 look2 d d1 d2 msg e taken rest new same kept q map t r handed q2 (inl h) =
      inl (by_done old look look1 look2 d d1 d2 msg e taken rest new same kept q map t r handed q2 h)
  processed old look look1 look2 d d1 d2 msg e taken rest new same kept q map t r handed q2 (inr h) =
      inr (by_refusal old look look1 look2 d d1 d2 msg e taken rest new same kept q map t r handed q2 h.0 h.1)

  -- no room was had
  pub turned_away : (old : State K) (look look1 : ℕ → Option ℕ) (d d1 : D) (msg : LruMsg K) (e : Effect K) (new : State K) (b : Bool)
      → ((k : ℕ) → look1 k ≡ look k) → IsKept Puts IsSame queue d d1 → queue d1 ≡ queue d → MayWantRoom (MayRefuse d) look old.shard.rows msg
      → new ≡ state_of old.shard ((old.refused + 1) % 2 ^ 64) → e ≡ record (quiet (measure old.shard.rows) (measure old.shard.rows) b) { refused = true } → b ≡ looks msg
      → Processes Puts IsSame queue IsClone MayRefuse old look d msg e new look1 d1
  turned_away old look look1 d d1 msg e new b same kept q want left effect l =
      inr (record { may = inr want; refused = declined old msg e new b left effect l; map = same; queue_is = q; kept = kept })

  -- no message, and one message more
  pub all_none : (a : State K) (look : ℕ → Option ℕ) (d : D) → ProcessesAll Puts IsSame queue IsClone MayRefuse a look d [] [] a look d
  all_none a look d = (refl, ((λ k. refl), refl))

  pub all_more : (msgs : List (LruMsg K)) (es : List (Effect K)) (a b c : State K) (f g h : ℕ → Option ℕ) (d1 d2 d3 : D) (msg : LruMsg K) (e : Effect K)
      → ProcessesAll Puts IsSame queue IsClone MayRefuse a f d1 msgs es b g d2 → Processes Puts IsSame queue IsClone MayRefuse b g d2 msg e c h d3
      → ProcessesAll Puts IsSame queue IsClone MayRefuse a f d1 (msgs ++ msg ∷ []) (es ++ e ∷ []) c h d3
  all_more [] [] a b c f g h d1 d2 d3 msg e all one =
      let maps : g ≡ f = λ i k. all.1.0 k i in (
        c,
        (
          h,
          (
            d3,
            (
              subst (λ z. Processes Puts IsSame queue IsClone MayRefuse z f d1 msg e c h d3) all.0
                  (subst (λ z. Processes Puts IsSame queue IsClone MayRefuse b z d1 msg e c h d3) maps
                  (subst (λ z. Processes Puts IsSame queue IsClone MayRefuse b g z msg e c h d3) all.1.1 one)),
              all_none c h d3,
            ),
          ),
        ),
      )
  all_more [] (x ∷ xs) a b c f g h d1 d2 d3 msg e all one = absurd all
  all_more (m ∷ ms) [] a b c f g h d1 d2 d3 msg e all one = absurd all
  all_more (m ∷ ms) (x ∷ xs) a b c f g h d1 d2 d3 msg e all one =
      (all.0, (all.1.0, (all.1.1.0, (all.1.1.1.0, all_more ms xs all.0 b c all.1.0 g h all.1.1.0 d2 d3 msg e all.1.1.1.1 one))))
