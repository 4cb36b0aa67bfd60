-- Uses one after another, and halvings among them.
use Rattle.std.proofs.Common.{◌≡◌, ℕ, ◌+◌, ◌*◌, ◌/◌, ◌<◌, ◌≤◌, min, max, Bool, true, false, cond, List, [], ◌∷◌, ◌++◌, length, refl, zero-add, sym, ap, ◌∙◌, subst, arith, ⊎_elim}
use Rattle.std.specs.Prelude.{◌==◌}
use Rattle.std.specs.List.{count_by}
use Rattle.std.proofs.lemmas.Bool.{cases_Bool, eqb-true}
use Rattle.std.proofs.lemmas.List.{length-append, length-map, length-replicate}
use Rattle.std.proofs.lemmas.List.Sums.{sum_by-append}
use Rattle.lru_admission.specs.Sketch.{Counted, estimate, least_of, raised, halved, counted_all, since_halving, fresh}
use Rattle.lru_admission.proofs.Estimates.{length-raised, least-raised, least-raised_above}

-- how many of these are this hash
abbrev count_of : ℕ → List ℕ → ℕ
count_of hash hashes = count_by (λ used. used == hash) hashes

count-push : (hash used : ℕ) (hashes : List ℕ) → count_of hash (hashes ++ used ∷ []) ≡ count_of hash hashes + cond (used == hash) 1 0
count-push hash used hashes = sum_by-append (λ q. cond (q == hash) 1 0) hashes (used ∷ []) ∙ ap (λ n. count_of hash hashes + n) (zero-add (cond (used == hash) 1 0))

-- one more use of the hash, whose estimate is raised, or of another
own_step : (count more least new : ℕ) → more ≡ count + 1 → min 15 count ≤ least → new ≡ max least (min 15 (least + 1)) → min 15 more ≤ new
own_step count more least new a b e = omega arith

other_step : (count more least new : ℕ) → more ≡ count + 0 → min 15 count ≤ least → least ≤ new → min 15 more ≤ new
other_step count more least new a b e = omega arith

raised_enough : (counts : List ℕ) (since : List ℕ) (hash used : ℕ) → 0 < length counts → min 15 (count_of hash since) ≤ least_of counts hash →
    min 15 (count_of hash (since ++ used ∷ [])) ≤ least_of (raised counts used) hash
raised_enough counts since hash used some known =
    let more = count-push hash used since in
    ⊎_elim
    (λ (e : (used == hash) ≡ true).
    let is : used ≡ hash = eqb-true used hash e in
    own_step (count_of hash since) _ (least_of counts hash) _ (more ∙ ap (λ b. count_of hash since + cond b 1 0) e) known
    (subst (λ (u : ℕ). least_of (raised counts u) hash ≡ max (least_of counts hash) (min 15 (least_of counts hash + 1))) (sym is) (least-raised counts hash some)))
    (λ (e : (used == hash) ≡ false).
    other_step (count_of hash since) _ (least_of counts hash) _ (more ∙ ap (λ b. count_of hash since + cond b 1 0) e) known (least-raised_above counts used hash))
    (cases_Bool (used == hash))

-- after a use that raised the counters, and that halves them or not
abbrev after_use : Bool → List ℕ → ℕ → Counted
after_use b grown uses = cond b (halved (record { counts = grown; uses = uses })) (record { counts = grown; uses = uses })

-- the estimate is never below the uses since the last halving
pub never_below : (entries : ℕ) (s : Counted) (since hashes : List ℕ) (hash : ℕ) → 0 < entries → length s.counts ≡ 2 * entries → s.uses ≡ length since → min 15 (count_of hash since) ≤ estimate s hash →
    min 15 (count_of hash (since_halving (10 * entries) since hashes)) ≤ estimate (counted_all s hashes) hash
never_below entries s since [] hash some long uses known = known
never_below entries s since (used ∷ hashes) hash some long uses known =
    let grown = raised s.counts used in
    let same : length grown ≡ length s.counts = length-raised s.counts used in
    let here : entries ≡ length grown / 2 = omega arith in
    let test = length since + 1 == 10 * entries in
    let is : test ≡ (s.uses + 1 == 10 * (length grown / 2)) = ap (λ n. n + 1 == 10 * entries) (sym uses) ∙ ap (λ n. s.uses + 1 == 10 * n) here in
    let P : Bool → Bool → Type 0 = λ a b.
    min 15 (count_of hash (cond a (since_halving (10 * entries) [] hashes) (since_halving (10 * entries) (since ++ used ∷ []) hashes)))
    ≤ estimate (counted_all (after_use b grown (s.uses + 1)) hashes) hash in
    let both : (b : Bool) → P b b = λ b. elim b as (λ v. P v v) [
      | true ↦ never_below entries (halved (record { counts = grown; uses = s.uses + 1 })) [] hashes hash some (length-map grown (λ count. count / 2) ∙ (same ∙ long)) refl (omega arith)
      | false ↦ never_below entries (record { counts = grown; uses = s.uses + 1 }) (since ++ used ∷ []) hashes hash some (same ∙ long) (omega (arith, length-append since (used ∷ []))) (raised_enough s.counts since hash used (omega arith) known)
    ] in
    subst (P test) is (both test)

-- from the first use on
pub never_too_low : (entries : ℕ) (hashes : List ℕ) (hash : ℕ) → min 15 (count_of hash (since_halving (10 * max 1 entries) [] hashes)) ≤ estimate (counted_all (fresh entries) hashes) hash
never_too_low entries hashes hash = never_below (max 1 entries) (fresh entries) [] hashes hash (omega arith) (length-replicate (2 * max 1 entries) 0) refl (omega arith)
