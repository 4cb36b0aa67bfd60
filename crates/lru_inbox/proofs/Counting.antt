-- How many messages are refused; and what is exact where none is.
use Rattle.std.proofs.Common.{◌≡◌, ℕ, None, suc, ◌+◌, ◌%◌, ◌^◌, ◌<◌, ◌≤◌, cond, true, false, Bool, List, [], ◌∷◌, ◌++◌, length, map, take, drop, zero, sym, refl, ap, ◌∙◌, subst, arith}
use Rattle.std.specs.Prelude.{Option, fold}
use Rattle.std.proofs.lemmas.Bool.{cond-false}
use Rattle.std.proofs.lemmas.List.{length-map}
use Rattle.std.proofs.lemmas.List.Sums.{sum_by-cons, sum_by-append}
use Rattle.std.proofs.Math.Nat.{mod-eq_of_lt}
use Rattle.lru_shard.specs.Row.{Row}
use Rattle.lru_actors.specs.declared.message.LruMsg.{LruMsg}
use Rattle.lru_actors.specs.declared.effect.Effect.{Effect}
use Rattle.lru_actors.specs.declared.effect.Reply.{Reply}
use Rattle.lru_actors.specs.Messages.{consumed}
use Rattle.lru_actors.specs.Turns.{Turn, sent, turn, rows_after, rows_left, refusals, weight_in}
use Rattle.lru_inbox.specs.Replies.{Tells, IsWeight, IsReply, WeightsAreExact, RepliesAreExact, refused_in, rows_by}
use Rattle.lru_inbox.proofs.Steps.{turns_by}

one_at_most : (b : Bool) → cond b 1 0 ≤ 1
one_at_most true = omega arith
one_at_most false = omega arith

module _ {K : Type 0} where
  first_refusal : (t : Turn K) (ts : List (Turn K)) → refusals (t ∷ ts) ≡ cond t.effect.refused 1 0 + refusals ts
  first_refusal t ts = sum_by-cons (λ (x : Turn K). cond x.effect.refused 1 0) t ts

  -- how many are refused in two lists of turns
  pub refusals_both : (ts us : List (Turn K)) → refusals (ts ++ us) ≡ refusals ts + refusals us
  refusals_both ts us = sum_by-append (λ (x : Turn K). cond x.effect.refused 1 0) ts us

  pub refusals_are : (msgs : List (LruMsg K)) (es : List (Effect K)) → length es ≡ length msgs → refusals (turns_by msgs es) ≡ refused_in es
  refusals_are [] [] h = refl
  refusals_are [] (e ∷ es) h = absurd (omega (arith, h))
  refusals_are (m ∷ ms) [] h = absurd (omega (arith, h))
  refusals_are (m ∷ ms) (e ∷ es) h =
      first_refusal (turn (sent None m) e) (turns_by ms es) ∙ ap (λ n. cond e.refused 1 0 + n) (refusals_are ms es (omega (arith, h)))

  -- no more are refused than there are
  pub refusals_few : (ts : List (Turn K)) → refusals ts ≤ length ts
  refusals_few [] = omega arith
  refusals_few (t ∷ ts) =
      let ih = refusals_few ts in
      let a = first_refusal t ts in
      let b = one_at_most t.effect.refused in
      omega (arith, ih, a, b)

  -- the count of those refused, which begins again at 2 ^ 64, is exact where there are fewer messages
  pub refusals_fit : (ts : List (Turn K)) (messages : List (LruMsg K)) → map (λ (t : Turn K). t.msg) ts ≡ messages → length messages < 2 ^ 64 → refusals ts % 2 ^ 64 ≡ refusals ts
  refusals_fit ts messages are fits =
      let few = refusals_few ts in
      let n = length-map ts (λ (t : Turn K). t.msg) in
      let m = ap length are in
      let h : refusals ts < 2 ^ 64 = omega (arith, few, n, m, fits) in
      mod-eq_of_lt h

  pub refused_both : (es : List (Effect K)) (n : ℕ) → refused_in es ≡ refused_in (take n es) + refused_in (drop n es)
  refused_both [] zero = refl
  refused_both [] (suc n) = refl
  refused_both (e ∷ es) zero = (let z : refused_in (e ∷ es) ≡ 0 + refused_in (e ∷ es) = omega arith in z)
  refused_both (e ∷ es) (suc n) = let ih = refused_both es n in omega (arith, ih)

  none_refused : (rows : List (Row K)) (ts : List (Turn K)) → refusals ts ≡ 0 → rows_left rows ts ≡ fold consumed rows (map (λ (t : Turn K). t.msg) ts)
  none_refused rows [] h = refl
  none_refused rows (t ∷ ts) h =
      let a = first_refusal t ts in
      let rest : refusals ts ≡ 0 = omega (arith, a, h) in
      let one : cond {A = ℕ} t.effect.refused 1 0 ≡ 0 = omega (arith, a, h) in
      ap (λ rs. rows_left rs ts) (cond-false t.effect.refused rows (consumed rows t.msg) (none_of t.effect.refused one)) ∙ none_refused (consumed rows t.msg) ts rest
    where
      none_of : (b : Bool) → cond {A = ℕ} b 1 0 ≡ 0 → b ≡ false
      none_of true e = absurd (omega (arith, e))
      none_of false e = refl

  by_all : (ts : List (Turn K)) (messages : List (LruMsg K)) → map (λ (t : Turn K). t.msg) ts ≡ messages → refusals ts ≡ 0 → rows_left [] ts ≡ rows_by messages
  by_all ts messages are none = none_refused [] ts none ∙ ap (fold consumed []) are

  pub weights_exact : WeightsAreExact K
  weights_exact cap messages hash weight w = w.weighs ∙ ap (λ rs. weight_in rs hash) (by_all w.turns messages w.messages_are w.refused_are)

  pub replies_exact : (IsClone : K → K → Type 0) → RepliesAreExact IsClone
  replies_exact IsClone cap messages r w = subst (λ rs. Tells IsClone rs r) (by_all w.turns messages w.messages_are w.refused_are) w.tells
