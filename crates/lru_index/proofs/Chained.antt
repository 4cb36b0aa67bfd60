-- Laws of lists of places and of chains: a write that no link reads, a place taken out, and the places that a chain computes.
use Rattle.std.proofs.Common.{◌≡◌, ℕ, ◌+◌, ◌<◌, ◌≤◌, ◌⊎◌, Bool, true, false, ◌||◌, eqb, List, [], ◌∷◌, ◌++◌, length, set, suc, zero, refl, sym, ap, ◌∙◌, subst, arith, inl, inr}
use Rattle.std.specs.List.{list_any, IsDistinct, AllByRecursion}
use Rattle.std.proofs.lemmas.List.{get_or-set_same, get_or-set_other, length-set}
use Rattle.std.proofs.lemmas.Bool.{eq-eqb, ne_eqb, eqb-true, or_cases}
use Rattle.std.proofs.lemmas.Map.Steps.{length-le_from_distinct_below}
use Rattle.lru_index.specs.Representation.Cells.{In, Apart, at, IsChain, path, end_cell}

-- ---- members of lists
pub in_left : (p : ℕ) (xs ys : List ℕ) → In p xs → In p (xs ++ ys)
in_left p [] ys h = absurd h
in_left p (x ∷ xs) ys (inl e) = inl e
in_left p (x ∷ xs) ys (inr h) = inr (in_left p xs ys h)

pub in_right : (p : ℕ) (xs ys : List ℕ) → In p ys → In p (xs ++ ys)
in_right p [] ys h = h
in_right p (x ∷ xs) ys h = inr (in_right p xs ys h)

pub in_either : (p : ℕ) (xs ys : List ℕ) → In p (xs ++ ys) → In p xs ⊎ In p ys
in_either p [] ys h = inr h
in_either p (x ∷ xs) ys (inl e) = inl (inl e)
in_either p (x ∷ xs) ys (inr h) = elim (in_either p xs ys h) [ inl l ↦ inl (inr l) | inr r ↦ inr r ]

-- a list without its middle
pub in_rest : (p : ℕ) (xs : List ℕ) (q : ℕ) (ys : List ℕ) → In p (xs ++ ys) → In p (xs ++ q ∷ ys)
in_rest p xs q ys h = elim (in_either p xs ys h) [ inl l ↦ in_left p xs (q ∷ ys) l | inr r ↦ in_right p xs (q ∷ ys) (inr r) ]

pub in_others : (p : ℕ) (xs : List ℕ) (q : ℕ) (ys : List ℕ) → In p (xs ++ q ∷ ys) → (q ≡ p → ⊥) → In p (xs ++ ys)
in_others p xs q ys h ne =
    elim (in_either p xs (q ∷ ys) h) [
      | inl l ↦ in_left p xs ys l
      | inr (inl e) ↦ absurd (ne e)
      | inr (inr r) ↦ in_right p xs ys r
    ]

pub apart_rest : (xs : List ℕ) (q : ℕ) (ys : List ℕ) → Apart (xs ++ q ∷ ys) → Apart (xs ++ ys)
apart_rest [] q ys a = a.1
apart_rest (x ∷ xs) q ys a = (λ h. a.0 (in_rest x xs q ys h), apart_rest xs q ys a.1)

pub apart_middle : (xs : List ℕ) (q : ℕ) (ys : List ℕ) → Apart (xs ++ q ∷ ys) → In q (xs ++ ys) → ⊥
apart_middle [] q ys a h = a.0 h
apart_middle (x ∷ xs) q ys a (inl e) = a.0 (in_right x xs (q ∷ ys) (inl (sym e)))
apart_middle (x ∷ xs) q ys a (inr h) = apart_middle xs q ys a.1 h

-- membership as a test
pub tested : (p : ℕ) (xs : List ℕ) → In p xs → list_any (eqb p) xs ≡ true
tested p [] h = absurd h
tested p (x ∷ xs) (inl e) = ap (λ b. b || list_any (eqb p) xs) (eq-eqb p x (sym e))
tested p (x ∷ xs) (inr h) = ap (λ b. eqb p x || b) (tested p xs h) ∙ or_true (eqb p x)
  where
    or_true : (b : Bool) → (b || true) ≡ true
    or_true true = refl
    or_true false = refl

pub member : (p : ℕ) (xs : List ℕ) → list_any (eqb p) xs ≡ true → In p xs
member p [] h = cc
member p (x ∷ xs) h = elim (or_cases (eqb p x) (list_any (eqb p) xs) h) [ inl e ↦ inl (sym (eqb-true p x e)) | inr r ↦ inr (member p xs r) ]

-- different numbers below n are at most n
distinct : (xs : List ℕ) → Apart xs → IsDistinct eqb xs
unfolding IsDistinct
distinct [] a = tt
distinct (x ∷ xs) a = (others xs a.0, distinct xs a.1)
  where
    others : (ys : List ℕ) → (In x ys → ⊥) → AllByRecursion (λ y. eqb x y ≡ false) ys
    others [] h = tt
    others (y ∷ ys) h = (ne_eqb x y (λ e. h (inl (sym e))), others ys (λ i. h (inr i)))

pub few : (xs : List ℕ) (n : ℕ) → Apart xs → ((p : ℕ) → In p xs → p < n) → length xs ≤ n
few xs n a below = length-le_from_distinct_below xs n (distinct xs a) (λ q h. below q (member q xs h))

-- ---- chains
-- the places of a chain are places of links
pub within : (cells : List ℕ) (heads v : ℕ) (ps : List ℕ) → IsChain cells heads v ps → (p : ℕ) → In p ps → (0 < p) × (heads + p < length cells)
within cells heads v [] h p i = absurd i
within cells heads v (q ∷ ps) h p (inl e) = subst (λ x. (0 < x) × (heads + x < length cells)) e (h.1, h.2)
within cells heads v (q ∷ ps) h p (inr i) = within cells heads (at cells (heads + q)) ps h.3 p i

-- a write at a cell that no link of the chain is
pub unread : (cells : List ℕ) (heads c w v : ℕ) (ps : List ℕ) → ((p : ℕ) → In p ps → heads + p ≡ c → ⊥) → IsChain cells heads v ps → IsChain (set cells c w) heads v ps
unread cells heads c w v [] off h = h
unread cells heads c w v (p ∷ ps) off h =
    let read : at (set cells c w) (heads + p) ≡ at cells (heads + p) = get_or-set_other cells c (heads + p) w 0 (off p (inl refl)) in
    let rest = unread cells heads c w (at cells (heads + p)) ps (λ q i. off q (inr i)) h.3 in
    (h.0, h.1, subst (λ n. heads + p < n) (sym (length-set cells c w)) h.2, subst (λ x. IsChain (set cells c w) heads x ps) (sym read) rest)

-- the cell behind some places of a chain
pub end_within : (cells : List ℕ) (heads c v : ℕ) (front rest : List ℕ) → c < length cells → IsChain cells heads v (front ++ rest) → end_cell heads c front < length cells
end_within cells heads c v [] rest h chain = h
end_within cells heads c v (p ∷ ps) rest h chain = end_within cells heads (heads + p) (at cells (heads + p)) ps rest chain.2 chain.3

pub end_chain : (cells : List ℕ) (heads c : ℕ) (front rest : List ℕ) → IsChain cells heads (at cells c) (front ++ rest) → IsChain cells heads (at cells (end_cell heads c front)) rest
end_chain cells heads c [] rest chain = chain
end_chain cells heads c (p ∷ ps) rest chain = end_chain cells heads (heads + p) ps rest chain.3

-- that cell is the one at the start, or a link of one of those places
pub end_is : (heads c : ℕ) (front : List ℕ) → (end_cell heads c front ≡ c) ⊎ ((p : ℕ) × In p front × (end_cell heads c front ≡ heads + p))
end_is heads c [] = inl refl
end_is heads c (p ∷ ps) =
    elim (end_is heads (heads + p) ps) [
      | inl e ↦ inr (p, inl refl, e)
      | inr f ↦ inr (f.0, inr f.1, f.2)
    ]

pub end_snoc : (heads c : ℕ) (front : List ℕ) (p : ℕ) → end_cell heads c (front ++ p ∷ []) ≡ heads + p
end_snoc heads c [] p = refl
end_snoc heads c (q ∷ qs) p = end_snoc heads (heads + q) qs p

-- the cell before a place is led past it
pub cut : (cells : List ℕ) (heads c : ℕ) (front : List ℕ) (p : ℕ) (rest : List ℕ) → c < length cells → ((q : ℕ) → In q (front ++ p ∷ rest) → heads + q ≡ c → ⊥) → Apart (front ++ p ∷ rest) → IsChain cells heads (at cells c) (front ++ p ∷ rest) → IsChain (set cells (end_cell heads c front) (at cells (heads + p))) heads (at (set cells (end_cell heads c front) (at cells (heads + p))) c) (front ++ rest)
cut cells heads c [] p rest h off apart chain =
    let new = set cells c (at cells (heads + p)) in
    subst (λ x. IsChain new heads x rest) (sym (get_or-set_same cells c (at cells (heads + p)) 0 h)) (unread cells heads c (at cells (heads + p)) (at cells (heads + p)) rest (λ q i. off q (inr i)) chain.3)
cut cells heads c (x ∷ xs) p rest h off apart chain =
    let d = end_cell heads (heads + x) xs in
    let w = at cells (heads + p) in
    let apart_c : c ≡ d → ⊥ = λ e.
    elim (end_is heads (heads + x) xs) [
      | inl f ↦ off x (inl refl) (sym (e ∙ f))
      | inr f ↦ off f.0 (inr (in_left f.0 xs (p ∷ rest) f.1)) (sym (e ∙ f.2))
    ] in
    let read : at (set cells d w) c ≡ at cells c = get_or-set_other cells d c w 0 apart_c in
    let tail = cut cells heads (heads + x) xs p rest chain.2 (λ q i e. apart.0 (subst (λ y. In y (xs ++ p ∷ rest)) (same q e) i)) apart.1 chain.3 in
    (read ∙ chain.0, chain.1, subst (λ n. heads + x < n) (sym (length-set cells d w)) chain.2, tail)
  where
    same : (q : ℕ) → heads + q ≡ heads + x → q ≡ x
    same q e = omega arith

-- what the links compute of a chain is the chain
pub path_is : (cells : List ℕ) (heads : ℕ) (ps : List ℕ) (n v : ℕ) → IsChain cells heads v ps → length ps ≤ n → path cells heads n v ≡ ps
path_is cells heads [] zero v h short = refl
path_is cells heads [] (suc n) zero h short = refl
path_is cells heads [] (suc n) (suc v) h short = absurd (omega (arith, h))
path_is cells heads (p ∷ ps) zero v h short = absurd (omega (arith, short))
path_is cells heads (p ∷ ps) (suc n) zero h short = absurd (omega (arith, h.0, h.1))
path_is cells heads (p ∷ ps) (suc n) (suc v) h short =
    let rest = subst (λ x. IsChain cells heads (at cells (heads + x)) ps) (sym h.0) h.3 in
    ap (λ xs. suc v ∷ xs) (path_is cells heads ps n (at cells (heads + suc v)) rest (omega (arith, short))) ∙ ap (λ x. x ∷ ps) h.0
