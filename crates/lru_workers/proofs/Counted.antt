-- How many messages were refused up to each of a batch.
use Rattle.std.proofs.Common.{◌≡◌, ℕ, suc, ◌+◌, ◌-◌, ◌%◌, ◌^◌, ◌<◌, ◌≤◌, cond, Bool, true, false, List, [], ◌∷◌, ◌++◌, length, refl, sym, ap, ◌∙◌, arith}
use Rattle.std.specs.Prelude.{option_map}
use Rattle.std.proofs.Math.Nat.{mod-add-mod, mod-eq_of_lt, add-mod_right}
use Rattle.lru_actors.specs.declared.effect.Effect.{Effect}
use Rattle.lru_actors.specs.declared.effect.Reply.{Reply}
use Rattle.lru_inbox.specs.Replies.{refused_in}
use Rattle.lru_workers.specs.Batch.{answers, fewer}

-- fewer and fewer
fewer_none : (total : ℕ) → total < 2 ^ 64 → fewer total 0 ≡ total
fewer_none total fits = ap (λ k. (total + k) % 2 ^ 64) (let z : 2 ^ 64 - 0 ≡ 2 ^ 64 = omega arith in z) ∙ add-mod_right total (2 ^ 64) ∙ mod-eq_of_lt fits

fewer_more : (total n : ℕ) → n < 2 ^ 64 → fewer (fewer total 1) n ≡ fewer total (n + 1)
fewer_more total n h =
    let z : total + (2 ^ 64 - 1) + (2 ^ 64 - n) ≡ total + (2 ^ 64 - (n + 1)) + 2 ^ 64 = omega (arith, h) in
    mod-add-mod (total + (2 ^ 64 - 1)) (2 ^ 64) (2 ^ 64 - n) ∙ ap (λ k. k % 2 ^ 64) z ∙ add-mod_right (total + (2 ^ 64 - (n + 1))) (2 ^ 64)

-- how many were refused before the last effect
abbrev pub before_last : ℕ → Bool → ℕ
before_last total was = cond was (fewer total 1) total

fewer_before : (total n : ℕ) (was : Bool) → n < 2 ^ 64 → total < 2 ^ 64 → fewer (before_last total was) n ≡ fewer total (n + cond was 1 0)
fewer_before total n true h fits = fewer_more total n h
fewer_before total n false h fits = ap (fewer total) (let z : n ≡ n + 0 = omega arith in z)

-- one fewer, as a word wraps
pub one_fewer : (total less : ℕ) → less < 2 ^ 64 → (less + 1) % 2 ^ 64 ≡ total → less ≡ fewer total 1
one_fewer total less fits is =
    let z : less + 1 + (2 ^ 64 - 1) ≡ less + 2 ^ 64 = omega arith in
    sym (ap (λ t. fewer t 1) (sym is) ∙ mod-add-mod (less + 1) (2 ^ 64) (2 ^ 64 - 1) ∙ ap (λ k. k % 2 ^ 64) z ∙ add-mod_right less (2 ^ 64) ∙ mod-eq_of_lt fits)

bool_at_most : (b : Bool) → cond b 1 0 ≤ 1
bool_at_most true = omega arith
bool_at_most false = omega arith

module _ {K : Type 0} where
  pub answers_length : (total : ℕ) (es : List (Effect K)) → length (answers total es) ≡ length es
  answers_length total [] = refl
  answers_length total (e ∷ es) = ap suc (answers_length total es)

  refused_end : (es : List (Effect K)) (e : Effect K) → refused_in (es ++ e ∷ []) ≡ refused_in es + cond e.refused 1 0
  refused_end [] e = (let z : cond e.refused 1 0 + 0 ≡ 0 + cond e.refused 1 0 = omega arith in z)
  refused_end (x ∷ es) e = let ih = refused_end es e in omega (arith, ih)

  refused_few : (es : List (Effect K)) → refused_in es ≤ length es
  refused_few [] = omega arith
  refused_few (e ∷ es) = let ih = refused_few es in let b = bool_at_most e.refused in omega (arith, ih, b)

  -- the answers of a batch are those of all but its last effect, and that one's
  answers_split : (total : ℕ) (left : List (Effect K)) (e : Effect K) → total < 2 ^ 64 → length left < 2 ^ 64
      → answers total (left ++ e ∷ []) ≡ answers (before_last total e.refused) left ++ option_map (λ r. (r, total)) e.reply ∷ []
  answers_split total [] e fits few = ap (λ n. option_map (λ r. (r, n)) e.reply ∷ []) (fewer_none total fits)
  answers_split total (x ∷ left) e fits few =
      let a = refused_few left in
      let n : refused_in left < 2 ^ 64 = omega (arith, a, few) in
      let here : fewer total (refused_in (left ++ e ∷ [])) ≡ fewer (before_last total e.refused) (refused_in left) = ap (fewer total) (refused_end left e) ∙ sym (fewer_before total (refused_in left) e.refused n fits) in
      let rest = answers_split total left e fits (omega (arith, few)) in
      λ i. option_map (λ r. (r, here i)) x.reply ∷ rest i

  pub answers_split_at : (total after : ℕ) (left : List (Effect K)) (e : Effect K) → total < 2 ^ 64 → length left < 2 ^ 64 → after ≡ before_last total e.refused
      → answers total (left ++ e ∷ []) ≡ answers after left ++ option_map (λ r. (r, total)) e.reply ∷ []
  answers_split_at total after left e fits few is =
      answers_split total left e fits few ∙ ap (λ n. answers n left ++ option_map {U = Reply K × ℕ} (λ r. (r, total)) e.reply ∷ []) (sym is)
