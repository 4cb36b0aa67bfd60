-- Which entries go: there are some that do, no others do, and one that does not fit with those before it is among them.
use Rattle.std.proofs.Common.{◌≡◌, ℕ, ◌+◌, ◌-◌, ◌<◌, ◌≤◌, Bool, false, ◌&&◌, List, [], ◌∷◌, ◌++◌, refl, sym, ap, ◌∙◌, subst, arith, ⊎_elim}
use Rattle.std.specs.List.{list_all}
use Rattle.std.proofs.lemmas.Bool.{cases_lt, and_right}
use Rattle.std.proofs.lemmas.List.Sums.{sum_by-cons}
use Rattle.std.proofs.lemmas.List.Folds.{list_all-append}
use Rattle.lru_owned_cache.specs.declared.entry.Entry.{Entry}
use Rattle.lru_owned_cache.specs.Entries.{weight_of}
use Rattle.lru_owned_cache.specs.Cache.{Fit, Leaves}

module _ {K V : Type 0} where
  same_head : (a b : Entry K V) (xs ys : List (Entry K V)) → a ∷ xs ≡ b ∷ ys → a ≡ b
  same_head a b xs ys e = cc

  same_tail : (a b : Entry K V) (xs ys : List (Entry K V)) → a ∷ xs ≡ b ∷ ys → xs ≡ ys
  same_tail a b xs ys e = cc

  not_empty : {P : Type 0} (a : Entry K V) (xs : List (Entry K V)) → [] ≡ a ∷ xs → P
  not_empty a xs e = cc

  pub weight-cons : (e : Entry K V) (es : List (Entry K V)) → weight_of (e ∷ es) ≡ e.weight + weight_of es
  weight-cons e es = sum_by-cons (λ x. x.weight) e es

  -- one more entry in front fits where it fits beside the others
  fit_more : (w n : ℕ) (e : Entry K V) (es : List (Entry K V)) → e.weight ≤ w → 0 < n → Fit (w - e.weight) (n - 1) es → Fit w n (e ∷ es)
  fit_more w n e es light some fit = let sum = weight-cons e es in let a = fit.0 in let b = fit.1 in (omega arith, omega arith)

  fit_less : (w n : ℕ) (e : Entry K V) (es : List (Entry K V)) → Fit w n (e ∷ es) → (e.weight ≤ w) × ((0 < n) × Fit (w - e.weight) (n - 1) es)
  fit_less w n e es fit = let sum = weight-cons e es in let a = fit.0 in let b = fit.1 in (omega arith, (omega arith, (omega arith, omega arith)))

  -- the first of those that go does not fit
  abbrev pub Needed : ℕ → ℕ → List (Entry K V) → List (Entry K V) → Type 0
  Needed w n front gone = (e : Entry K V) (rest : List (Entry K V)) → gone ≡ e ∷ rest → Fit w n (front ++ e ∷ []) → ⊥

  needed_more : (w n : ℕ) (f : Entry K V) (front gone : List (Entry K V)) → Needed (w - f.weight) (n - 1) front gone → Needed w n (f ∷ front) gone
  needed_more w n f front gone needed e rest is fit = needed e rest is (fit_less w n f (front ++ e ∷ []) fit).1.1

  needed_less : (w n : ℕ) (f : Entry K V) (front gone : List (Entry K V)) → f.weight ≤ w → 0 < n → Needed w n (f ∷ front) gone → Needed (w - f.weight) (n - 1) front gone
  needed_less w n f front gone light some needed e rest is fit = needed e rest is (fit_more w n f (front ++ e ∷ []) light some fit)

  none_needed : (w n : ℕ) (front : List (Entry K V)) → Needed w n front []
  none_needed w n front e rest is fit = not_empty e rest is

  -- where the first does not fit, all go
  all_needed : (w n : ℕ) (e : Entry K V) (es : List (Entry K V)) → (Fit w n (e ∷ []) → ⊥) → Needed w n [] (e ∷ es)
  all_needed w n e es heavy x rest is fit = heavy (subst (λ (a : Entry K V). Fit w n (a ∷ [])) (sym (same_head e x es rest is)) fit)

  too_heavy : (w n : ℕ) (e : Entry K V) → (w < e.weight) → Fit w n (e ∷ []) → ⊥
  too_heavy w n e heavy fit = let sum = weight-cons e [] in let a = fit.0 in omega arith

  too_many : (w n : ℕ) (e : Entry K V) → (n < 1) → Fit w n (e ∷ []) → ⊥
  too_many w n e many fit = let b = fit.1 in omega arith

  -- some stay, and the others go
  pub leaves : (w n : ℕ) (es : List (Entry K V)) → (front : List (Entry K V)) × ((gone : List (Entry K V)) × Leaves w n es front gone)
  leaves w n [] = ([], ([], record { parts = refl; fits = (omega arith, omega arith); needed = none_needed w n [] }))
  leaves w n (e ∷ es) =
      ⊎_elim
      (λ (heavy : w < e.weight). ([], (e ∷ es, record { parts = refl; fits = (omega arith, omega arith); needed = all_needed w n e es (too_heavy w n e heavy) })))
      (λ (light : e.weight ≤ w).
      ⊎_elim
      (λ (many : n < 1). ([], (e ∷ es, record { parts = refl; fits = (omega arith, omega arith); needed = all_needed w n e es (too_many w n e many) })))
      (λ (some : 1 ≤ n).
      let rest = leaves (w - e.weight) (n - 1) es in (
        e ∷ rest.0,
        (
          rest.1.0,
          record {
            parts = ap (λ xs. e ∷ xs) rest.1.1.parts;
            fits = fit_more w n e rest.0 light some rest.1.1.fits;
            needed = needed_more w n e rest.0 rest.1.0 rest.1.1.needed;
          },
        ),
      ))
      (cases_lt n 1))
      (cases_lt w e.weight)

  -- no others do
  same_gone : (w n : ℕ) (front gone other away : List (Entry K V)) → front ++ gone ≡ other ++ away → Fit w n front → Fit w n other → Needed w n front gone → Needed w n other away → gone ≡ away
  same_gone w n [] gone [] away e fit kept needed must = e
  same_gone w n [] gone (o ∷ other) away e fit kept needed must =
      let one = fit_less w n o other kept in
      absurd (needed o (other ++ away) e (fit_more w n o [] one.0 one.1.0 (omega arith, omega arith)))
  same_gone w n (f ∷ front) gone [] away e fit kept needed must =
      let one = fit_less w n f front fit in
      absurd (must f (front ++ gone) (sym e) (fit_more w n f [] one.0 one.1.0 (omega arith, omega arith)))
  same_gone w n (f ∷ front) gone (o ∷ other) away e fit kept needed must =
      let is = same_head f o (front ++ gone) (other ++ away) e in
      let one = fit_less w n f front fit in
      let kept_f = subst (λ (a : Entry K V). Fit w n (a ∷ other)) (sym is) kept in
      let must_f = subst (λ (a : Entry K V). Needed w n (a ∷ other) away) (sym is) must in
      same_gone (w - f.weight) (n - 1) front gone other away (same_tail f o (front ++ gone) (other ++ away) e) one.1.1 (fit_less w n f other kept_f).1.1
      (needed_less w n f front gone one.0 one.1.0 needed) (needed_less w n f other away one.0 one.1.0 must_f)

  pub leaves_same : (w n : ℕ) (es front gone other away : List (Entry K V)) → Leaves w n es front gone → Leaves w n es other away → gone ≡ away
  leaves_same w n es front gone other away a b = same_gone w n front gone other away (sym a.parts ∙ b.parts) a.fits b.fits a.needed b.needed

  -- a list with one that fails a test
  fails : (p : Entry K V → Bool) (front : List (Entry K V)) (e : Entry K V) (rest : List (Entry K V)) → p e ≡ false → list_all p (front ++ e ∷ rest) ≡ false
  fails p front e rest h = list_all-append p front (e ∷ rest) ∙ and_right (list_all p front) (list_all p (e ∷ rest)) (ap (λ b. b && list_all p rest) h)

  -- one that does not fit with those before it goes, whichever those are that go
  gone_fails : (p : Entry K V → Bool) (w n : ℕ) (front : List (Entry K V)) (e : Entry K V) (rest other away : List (Entry K V)) → p e ≡ false → (Fit w n (front ++ e ∷ []) → ⊥) →
      other ++ away ≡ front ++ e ∷ rest → Fit w n other → list_all p away ≡ false
  gone_fails p w n front e rest [] away h heavy is kept = ap (list_all p) is ∙ fails p front e rest h
  gone_fails p w n [] e rest (o ∷ other) away h heavy is kept =
      let one = fit_less w n o other kept in
      absurd (heavy (subst (λ (a : Entry K V). Fit w n (a ∷ [])) (same_head o e (other ++ away) rest is) (fit_more w n o [] one.0 one.1.0 (omega arith, omega arith))))
  gone_fails p w n (f ∷ front) e rest (o ∷ other) away h heavy is kept =
      let same = same_head o f (other ++ away) (front ++ e ∷ rest) is in
      let kept_f = subst (λ (a : Entry K V). Fit w n (a ∷ other)) same kept in
      let one = fit_less w n f other kept_f in
      gone_fails p (w - f.weight) (n - 1) front e rest other away h (λ fit. heavy (fit_more w n f (front ++ e ∷ []) one.0 one.1.0 fit)) (same_tail o f (other ++ away) (front ++ e ∷ rest) is) one.1.1

  -- so the answer is no, where one of those that go fails
  pub answer_no : (p : Entry K V → Bool) (w n : ℕ) (es front : List (Entry K V)) (e : Entry K V) (rest : List (Entry K V)) → es ≡ front ++ e ∷ rest → p e ≡ false → (Fit w n (front ++ e ∷ []) → ⊥) →
      (kept : List (Entry K V)) × ((gone : List (Entry K V)) × (Leaves w n es kept gone × (false ≡ list_all p gone)))
  answer_no p w n es front e rest is h heavy =
      let found = leaves w n es in
      (found.0, (found.1.0, (found.1.1, sym (gone_fails p w n front e rest found.0 found.1.0 h heavy (sym found.1.1.parts ∙ is) found.1.1.fits))))
