-- The walk over those that go, from the last on.
use Rattle.std.proofs.Common.{◌≡◌, ℕ, ◌+◌, ◌-◌, ◌<◌, ◌≤◌, Bool, true, false, ◌&&◌, ◌⊎◌, List, [], ◌∷◌, ◌++◌, length, map, refl, sym, ap, ◌∙◌, subst, arith, zero-add, inl, inr}
use Rattle.std.specs.List.{list_all}
use Rattle.std.proofs.lemmas.List.{append_assoc, map-append, length-append, length-map, append-nil}
use Rattle.std.proofs.lemmas.List.Sums.{sum_by-append}
use Rattle.lru_owned_cache.specs.declared.entry.Entry.{Entry}
use Rattle.lru_owned_cache.specs.Entries.{entry, weight_of}
use Rattle.lru_owned_cache.specs.Cache.{Fit, Leaves, parts_of}
use Rattle.lru_admission.proofs.Victims.{Needed, answer_no}

module _ {K V : Type 0} where
  abbrev pub entry_from : K × V × ℕ → Entry K V
  entry_from part = entry part.0 part.1 part.2

  abbrev pub entries_from : List (K × V × ℕ) → List (Entry K V)
  entries_from parts = map entry_from parts

  from_parts : (es : List (Entry K V)) → entries_from (map parts_of es) ≡ es
  from_parts [] = refl
  from_parts (e ∷ es) = ap (λ xs. e ∷ xs) (from_parts es)

  -- so far each of the last entries has passed the test, and those in front of them are left
  pub record Asking (p : Entry K V → Bool) (w n : ℕ) (es : List (Entry K V)) (left : List (K × V × ℕ)) (weight entries : ℕ) : Type 0 where
    pub gone : List (Entry K V)
    pub parts : es ≡ entries_from left ++ gone
    pub needed : Needed w n (entries_from left) gone
    pub passed : list_all p gone ≡ true
    pub weight_is : weight ≡ weight_of (entries_from left)
    pub entries_is : entries ≡ length left

  pub asking-none : (p : Entry K V → Bool) (w n : ℕ) (es : List (Entry K V)) (left : List (K × V × ℕ)) (weight entries : ℕ) → left ≡ map parts_of es → weight ≡ weight_of es → entries ≡ length es → Asking p w n es left weight entries
  asking-none p w n es left weight entries is heavy many =
      let all : entries_from left ≡ es = ap entries_from is ∙ from_parts es in
      record {
        gone = [];
        parts = sym (append-nil (entries_from left) ∙ all);
        needed = λ e rest no fit. cc no;
        passed = refl;
        weight_is = heavy ∙ ap weight_of (sym all);
        entries_is = many ∙ (sym (length-map es parts_of) ∙ ap length (sym is));
      }

  -- the last of those that are left, and what the others weigh
  last_is : (left rest : List (K × V × ℕ)) (part : K × V × ℕ) → left ≡ rest ++ part ∷ [] → entries_from left ≡ entries_from rest ++ entry_from part ∷ []
  last_is left rest part is = ap entries_from is ∙ map-append entry_from rest (part ∷ [])

  last_weight : (left rest : List (K × V × ℕ)) (part : K × V × ℕ) → left ≡ rest ++ part ∷ [] → weight_of (entries_from left) ≡ weight_of (entries_from rest) + part.2
  last_weight left rest part is =
      ap weight_of (last_is left rest part is) ∙ (sum_by-append (λ e. e.weight) (entries_from rest) (entry_from part ∷ []) ∙ ap (λ x. weight_of (entries_from rest) + x) (zero-add part.2))

  last_length : (left rest : List (K × V × ℕ)) (part : K × V × ℕ) → left ≡ rest ++ part ∷ [] → length left ≡ length rest + 1
  last_length left rest part is = ap length is ∙ length-append rest (part ∷ [])

  pub freed_le : (p : Entry K V → Bool) (w n : ℕ) (es : List (Entry K V)) (left rest : List (K × V × ℕ)) (part : K × V × ℕ) (weight entries : ℕ) → Asking p w n es left weight entries → left ≡ rest ++ part ∷ [] → (part.2 ≤ weight) × (1 ≤ entries)
  freed_le p w n es left rest part weight entries asking is =
      let a = last_weight left rest part is in
      let b = last_length left rest part is in
      let heavy = asking.weight_is in
      let many = asking.entries_is in
      (omega arith, omega arith)

  -- those that are left do not fit
  unfit : (p : Entry K V → Bool) (w n : ℕ) (es : List (Entry K V)) (left : List (K × V × ℕ)) (weight entries : ℕ) → Asking p w n es left weight entries → (w < weight) ⊎ (n < entries) → Fit w n (entries_from left) → ⊥
  unfit p w n es left weight entries asking over fit =
      let heavy = asking.weight_is in
      let many = asking.entries_is in
      let long = length-map left entry_from in
      let a = fit.0 in
      let b = fit.1 in
      elim over [ inl h ↦ omega arith | inr h ↦ omega arith ]

  pub asking-more : (p : Entry K V → Bool) (w n : ℕ) (es : List (Entry K V)) (left rest : List (K × V × ℕ)) (part : K × V × ℕ) (weight entries : ℕ) → Asking p w n es left weight entries → left ≡ rest ++ part ∷ [] →
      (w < weight) ⊎ (n < entries) → p (entry_from part) ≡ true → Asking p w n es rest (weight - part.2) (entries - 1)
  asking-more p w n es left rest part weight entries asking is over passes =
      let front = last_is left rest part is in
      let e = entry_from part in
      let lighter = last_weight left rest part is in
      let fewer = last_length left rest part is in
      let heavy = asking.weight_is in
      let many = asking.entries_is in
      record {
        gone = e ∷ asking.gone;
        parts = asking.parts ∙ (ap (λ xs. xs ++ asking.gone) front ∙ append_assoc (entries_from rest) (e ∷ []) asking.gone);
        needed = λ x more same fit. unfit p w n es left weight entries asking over (subst (λ (xs : List (Entry K V)). Fit w n xs) (sym front) (subst (λ (a : Entry K V). Fit w n (entries_from rest ++ a ∷ [])) (sym (first_is e x asking.gone more same)) fit));
        passed = ap (λ b. b && list_all p asking.gone) passes ∙ asking.passed;
        weight_is = omega arith;
        entries_is = omega arith;
      }
    where
      first_is : (a b : Entry K V) (xs ys : List (Entry K V)) → a ∷ xs ≡ b ∷ ys → a ≡ b
      first_is a b xs ys e = cc

  -- some are left where they do not fit
  pub some_left : (p : Entry K V → Bool) (w n : ℕ) (es : List (Entry K V)) (left : List (K × V × ℕ)) (weight entries : ℕ) → Asking p w n es left weight entries → (w < weight) ⊎ (n < entries) → left ≡ [] → ⊥
  some_left p w n es left weight entries asking over none =
      let heavy : weight ≡ 0 = asking.weight_is ∙ ap (λ parts. weight_of (entries_from parts)) none in
      let many : entries ≡ 0 = asking.entries_is ∙ ap length none in
      elim over [ inl h ↦ omega arith | inr h ↦ omega arith ]

  pub asked_all : (p : Entry K V → Bool) (w n : ℕ) (es : List (Entry K V)) (left : List (K × V × ℕ)) (weight entries : ℕ) → Asking p w n es left weight entries → weight ≤ w → entries ≤ n →
      (front : List (Entry K V)) × ((gone : List (Entry K V)) × (Leaves w n es front gone × (true ≡ list_all p gone)))
  asked_all p w n es left weight entries asking light few =
      let long = length-map left entry_from in
      let heavy = asking.weight_is in
      let many = asking.entries_is in
      (entries_from left, (asking.gone, (record { parts = asking.parts; fits = (omega arith, omega arith); needed = asking.needed }, sym asking.passed)))

  pub asked_one : (p : Entry K V → Bool) (w n : ℕ) (es : List (Entry K V)) (left rest : List (K × V × ℕ)) (part : K × V × ℕ) (weight entries : ℕ) → Asking p w n es left weight entries → left ≡ rest ++ part ∷ [] →
      (w < weight) ⊎ (n < entries) → p (entry_from part) ≡ false →
      (front : List (Entry K V)) × ((gone : List (Entry K V)) × (Leaves w n es front gone × (false ≡ list_all p gone)))
  asked_one p w n es left rest part weight entries asking is over fails =
      let front = last_is left rest part is in
      let e = entry_from part in
      answer_no p w n es (entries_from rest) e asking.gone (asking.parts ∙ (ap (λ xs. xs ++ asking.gone) front ∙ append_assoc (entries_from rest) (e ∷ []) asking.gone)) fails
      (λ fit. unfit p w n es left weight entries asking over (subst (λ (xs : List (Entry K V)). Fit w n xs) (sym front) fit))
