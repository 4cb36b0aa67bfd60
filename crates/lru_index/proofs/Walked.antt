-- Laws of a walk along a chain.
use Rattle.std.proofs.Common.{◌≡◌, ℕ, ◌+◌, ◌<◌, ◌≤◌, Bool, List, [], ◌∷◌, ◌++◌, length, refl, sym, ap, ◌∙◌, subst, arith, inl, inr, Option, Some, append_assoc, length-append}
use Rattle.lru_index.specs.Index.{HasKey, Differs}
use Rattle.lru_index.specs.Representation.Cells.{In, at, IsChain, Chains, IsTable, IsUsed, rest_of, home_in}
use Rattle.lru_index.specs.Representation.Walks.{Walks, StopsAt, Reaches}
use Rattle.lru_index.proofs.Chained.{in_left, in_right, end_is, in_either, few, within, end_within, end_chain, end_snoc, path_is}

-- the first place of a chain is what leads to it
pub first_is : (cells : List ℕ) (heads v : ℕ) (ps : List ℕ) → IsChain cells heads v ps → (v ≡ 0 → ⊥) → (tail : List ℕ) × (ps ≡ v ∷ tail)
first_is cells heads v [] h some = absurd (some h)
first_is cells heads v (p ∷ ps) h some = (ps, ap (λ x. x ∷ ps) (sym h.0))

pub none_left : (cells : List ℕ) (heads v : ℕ) (ps : List ℕ) → IsChain cells heads v ps → v ≡ 0 → ps ≡ []
none_left cells heads v [] h zero_is = refl
none_left cells heads v (p ∷ ps) h zero_is = absurd (omega (arith, h.0, h.1, zero_is))

module _ {K Q : Type 0} (eq : K → Q → Bool) (keys : ℕ → Option K) (key : Q) (cells : List ℕ) (heads b : ℕ) (table : IsTable cells heads (home_in cells heads)) (low : b < heads) where
  pub start : Walks eq keys key cells heads b b
  start = let c = table.chains b low in record { front = []; rest = c.0; chain = c.1; cell_is = refl; passed = λ p i. absurd i }

  module _ (cell : ℕ) (w : Walks eq keys key cells heads b cell) where
    pub cell_within : cell < length cells
    cell_within =
        subst (λ c. c < length cells) (sym w.cell_is)
        (end_within cells heads b (at cells b) w.front w.rest (omega (arith, low, table.wide)) w.chain.joined)

    pub ahead : IsChain cells heads (at cells cell) w.rest
    ahead = subst (λ c. IsChain cells heads (at cells c) w.rest) (sym w.cell_is) (end_chain cells heads b w.front w.rest w.chain.joined)

    short : length w.rest ≤ length cells
    short =
        let all = few (w.front ++ w.rest) (length cells) w.chain.apart (λ p i. let f = within cells heads (at cells b) (w.front ++ w.rest) w.chain.joined p i in omega (arith, f.1)) in
        omega (arith, all, length-append w.front w.rest)

    -- the chain leads through the cell
    pub used_cell : IsUsed heads (home_in cells heads) cell
    used_cell =
        elim (end_is heads b w.front) [
          | inl e ↦ inl (subst (λ c. c < heads) (sym (w.cell_is ∙ e)) low)
          | inr f ↦ inr (f.0, b, w.cell_is ∙ f.2, w.chain.only f.0 (in_left f.0 w.front w.rest f.1))
        ]

    -- at the end of the chain
    pub at_end : at cells cell ≡ 0 → Reaches eq keys key cells heads b cell
    at_end e = record { walk = w; stop = subst (StopsAt eq keys key) (sym (none_left cells heads (at cells cell) w.rest ahead e)) tt }

    module _ (p : ℕ) (read : p ≡ at cells cell) (some : p ≡ 0 → ⊥) where
      pub tail_is : (tail : List ℕ) × (w.rest ≡ p ∷ tail)
      tail_is = first_is cells heads p w.rest (subst (λ v. IsChain cells heads v w.rest) (sym read) ahead) some

      -- the place is one of the home, and has a link
      pub is_home : home_in cells heads p ≡ Some b
      is_home = w.chain.only p (in_right p w.front w.rest (subst (In p) (sym tail_is.1) (inl refl)))

      pub has_link : heads + p < length cells
      has_link = (within cells heads (at cells b) (w.front ++ w.rest) w.chain.joined p (in_right p w.front w.rest (subst (In p) (sym tail_is.1) (inl refl)))).1

      -- at the key's place
      pub at_key : HasKey eq keys key p → Reaches eq keys key cells heads b cell
      at_key h = record { walk = w; stop = subst (StopsAt eq keys key) (sym tail_is.1) h }

      -- the place and what is behind it
      pub split : Chains cells heads (home_in cells heads) b (w.front ++ p ∷ tail_is.0)
      split = subst (λ xs. Chains cells heads (home_in cells heads) b (w.front ++ xs)) tail_is.1 w.chain

      regroup : w.front ++ w.rest ≡ (w.front ++ p ∷ []) ++ tail_is.0
      regroup = ap (λ xs. w.front ++ xs) tail_is.1 ∙ sym (append_assoc w.front (p ∷ []) tail_is.0)

      passed_on : Differs eq keys key p → (q : ℕ) → In q (w.front ++ p ∷ []) → Differs eq keys key q
      passed_on d q i =
          elim (in_either q w.front (p ∷ []) i) [
            | inl l ↦ w.passed q l
            | inr (inl e) ↦ subst (Differs eq keys key) e d
            | inr (inr n) ↦ absurd n
          ]

      -- past another key's place
      pub onward : Differs eq keys key p → Walks eq keys key cells heads b (heads + p)
      onward d = record {
        front = w.front ++ p ∷ [];
        rest = tail_is.0;
        chain = subst (Chains cells heads (home_in cells heads) b) regroup w.chain;
        cell_is = sym (end_snoc heads b w.front p);
        passed = passed_on d;
      }

      pub nearer : length (rest_of cells heads (at cells (heads + p))) < length (rest_of cells heads (at cells cell))
      nearer =
          let all = subst (λ v. IsChain cells heads v w.rest) (sym read) ahead in
          let here = path_is cells heads w.rest (length cells) (at cells cell) ahead short in
          let rest = subst (λ xs. IsChain cells heads p xs) tail_is.1 all in
          let less : length tail_is.0 ≤ length cells = omega (arith, short, ap length tail_is.1) in
          let there = path_is cells heads tail_is.0 (length cells) (at cells (heads + p)) rest.3 less in
          omega (arith, ap length here, ap length there, ap length tail_is.1)

  -- the place that is reached has the key
  pub has_found : (cell : ℕ) (r : Reaches eq keys key cells heads b cell) (p : ℕ) → p ≡ at cells cell → (p ≡ 0 → ⊥) → HasKey eq keys key p
  has_found cell r p read some = subst (StopsAt eq keys key) (tail_is cell r.walk p read some).1 r.stop

  -- where none is, all places of the home have other keys
  pub all_passed : (cell : ℕ) (w : Walks eq keys key cells heads b cell) → at cells cell ≡ 0 → (q : ℕ) → home_in cells heads q ≡ Some b → Differs eq keys key q
  all_passed cell w end q h =
      elim (in_either q w.front w.rest (w.chain.has q h)) [
        | inl l ↦ w.passed q l
        | inr i ↦ absurd (subst (In q) (none_left cells heads (at cells cell) w.rest (ahead cell w) end) i)
      ]
