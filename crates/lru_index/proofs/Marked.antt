-- Laws of the bits that cells hold above their places.
use Rattle.std.proofs.Common.{◌≡◌, ℕ, ◌+◌, ◌-◌, ◌*◌, ◌/◌, ◌%◌, ◌^◌, ◌<◌, ◌≤◌, ◌⊎◌, cond, eqb, List, [], ◌∷◌, ◌++◌, length, set, get_or, map, replicate, suc, zero, refl, sym, ap, ◌∙◌, subst, arith, inl, inr, Option, Some, None}
use Rattle.std.specs.Option.{option_map}
use Rattle.std.proofs.Math.ListN.{get_or-map}
use Rattle.std.proofs.Math.Nat.{zero-mod}
use Rattle.std.proofs.lemmas.Nat.{mod-mul-add, div-mul-add, pow_pos}
use Rattle.std.proofs.lemmas.List.{map-set, map-append, length-map, get_or-set_same, get_or-set_other, length-set, get_or_append_left}
use Rattle.std.proofs.lemmas.Bool.{eq-eqb, ne_eqb, cases_eq}
use Rattle.lru_index.specs.Index.{put, gone}
use Rattle.lru_index.specs.Representation.Cells.{In, at, place_at, bits_at, places_in, IsChain, IsTable, IsUsed, Marks, bits_along, known_in}
use Rattle.lru_index.proofs.Chained.{few, within}
use Rattle.lru_index.proofs.Tables.{put_other, gone_here, gone_other, some_is, none_is, shown, linked}

-- ---- the places of cells
module _ (cells : List ℕ) (heads : ℕ) where
  pub at_places : (c : ℕ) → at (places_in cells heads) c ≡ place_at cells heads c
  unfolding places_in
  at_places c =
      ap (get_or (map (λ v. v % (2 * heads)) cells) c) (sym (zero-mod (2 * heads)))
      ∙ get_or-map (λ v. v % (2 * heads)) cells c 0

  pub length_places : length (places_in cells heads) ≡ length cells
  unfolding places_in
  length_places = length-map cells (λ v. v % (2 * heads))

  pub places_set : (i v : ℕ) → places_in (set cells i v) heads ≡ set (places_in cells heads) i (v % (2 * heads))
  unfolding places_in
  places_set i v = map-set (λ v. v % (2 * heads)) cells i v

  pub places_append : (more : List ℕ) → places_in (cells ++ more) heads ≡ places_in cells heads ++ places_in more heads
  unfolding places_in
  places_append more = map-append (λ v. v % (2 * heads)) cells more

pub places_none : (heads n : ℕ) → places_in (replicate n 0) heads ≡ replicate n 0
unfolding places_in
places_none heads zero = refl
places_none heads (suc n) = λ i. zero-mod (2 * heads) i ∷ places_none heads n i

-- ---- where the cells of a chain lead
first_in : (cells : List ℕ) (heads v : ℕ) (ps : List ℕ) → IsChain cells heads v ps → 0 < v → In v ps
first_in cells heads v [] h some = absurd (omega (arith, h, some))
first_in cells heads v (p ∷ ps) h some = inl (sym h.0)

next_in : (cells : List ℕ) (heads v : ℕ) (ps : List ℕ) → IsChain cells heads v ps → (p : ℕ) → In p ps → 0 < at cells (heads + p) → In (at cells (heads + p)) ps
next_in cells heads v [] h p i some = absurd i
next_in cells heads v (q ∷ ps) h p (inl e) some =
    inr (first_in cells heads (at cells (heads + p)) ps (subst (λ x. IsChain cells heads (at cells (heads + x)) ps) e h.3) some)
next_in cells heads v (q ∷ ps) h p (inr i) some = inr (next_in cells heads (at cells (heads + q)) ps h.3 p i some)

module _ (cells : List ℕ) (heads : ℕ) (home : ℕ → Option ℕ) (table : IsTable cells heads home) where
  -- a cell that a chain may lead through leads to a place that has a home
  pub leads : (c : ℕ) → IsUsed heads home c → 0 < at cells c → (b : ℕ) × (home (at cells c) ≡ Some b)
  leads c (inl l) some =
      let chain = table.chains c l in
      (c, chain.1.only (at cells c) (first_in cells heads (at cells c) chain.0 chain.1.joined some))
  leads c (inr (p, b, e, h)) some =
      let chain = table.chains b (table.homes p b h) in
      let here : 0 < at cells (heads + p) = subst (λ x. 0 < at cells x) e some in
      (b, chain.1.only (at cells c) (subst (λ x. In (at cells x) chain.0) (sym e) (next_in cells heads (at cells b) chain.0 chain.1.joined p (chain.1.has p h) here)))

  pub used_within : (c : ℕ) → IsUsed heads home c → c < length cells
  used_within c (inl l) = omega (arith, l, table.wide)
  used_within c (inr (p, b, e, h)) = let l = linked cells heads home table p b h in omega (arith, e, l.1)

-- ---- what the cells show of a place
module _ (cells : List ℕ) (heads shift : ℕ) (home : ℕ → Option ℕ) (table : IsTable (places_in cells heads) heads home) (marks : Marks cells heads shift home) where
  -- the bits along a chain are the place's
  along_is : (b : ℕ) (ps : List ℕ) (n c : ℕ) → IsUsed heads home c → IsChain (places_in cells heads) heads (at (places_in cells heads) c) ps → ((p : ℕ) → In p ps → home p ≡ Some b) → length ps ≤ n → (p : ℕ) → In p ps → bits_along cells heads p n c ≡ marks.bits p
  along_is b [] n c used chain only short p i = absurd i
  along_is b (q ∷ ps) zero c used chain only short p i = absurd (omega (arith, short))
  along_is b (q ∷ ps) (suc n) c used chain only short p i =
      let here : place_at cells heads c ≡ q = sym (at_places cells heads c) ∙ chain.0 in
      elim (cases_eq q p) [
        | inl e ↦
            ap (λ t. cond t (bits_at cells heads c) (bits_along cells heads p n (heads + place_at cells heads c))) (eq-eqb (place_at cells heads c) p (here ∙ e))
            ∙ marks.marked c used (subst (λ x. 0 < x) (sym here) chain.1) ∙ ap marks.bits (here ∙ e)
        | inr ne ↦
            ap (λ t. cond t (bits_at cells heads c) (bits_along cells heads p n (heads + place_at cells heads c))) (ne_eqb (place_at cells heads c) p (λ e. ne (sym here ∙ e)))
            ∙ ap (λ x. bits_along cells heads p n (heads + x)) here
            ∙ along_is b ps n (heads + q) (inr (q, b, refl, only q (inl refl))) chain.3 (λ r j. only r (inr j)) (omega (arith, short)) p (behind i ne)
      ]
    where
      behind : (q ≡ p) ⊎ In p ps → (q ≡ p → ⊥) → In p ps
      behind (inl e) ne = absurd (ne e)
      behind (inr j) ne = j

  bits_are : (p b : ℕ) → home p ≡ Some b → bits_along cells heads p (length cells) b ≡ marks.bits p
  bits_are p b e =
      let low = table.homes p b e in
      let chain = table.chains b low in
      let places = places_in cells heads in
      let short = few chain.0 (length places) chain.1.apart (λ q i. let w = within places heads (at places b) chain.0 chain.1.joined q i in omega (arith, w.1)) in
      along_is b chain.0 (length cells) b (inl low) chain.1.joined chain.1.only (omega (arith, short, length_places cells heads)) p (chain.1.has p e)

  -- its home, and behind it its bits
  pub whole : ℕ → ℕ → ℕ
  whole p b = b * 2 ^ (shift - 33) + marks.bits p

  known_at : (p : ℕ) (o : Option ℕ) → home p ≡ o → option_map (λ b. b * 2 ^ (shift - 33) + bits_along cells heads p (length cells) b) o ≡ option_map (λ b. b * 2 ^ (shift - 33) + marks.bits p) o
  known_at p None e = refl
  known_at p (Some b) e = ap (λ n. Some (b * 2 ^ (shift - 33) + n)) (bits_are p b e)

  pub known_is : (p : ℕ) → known_in cells heads shift p ≡ option_map (λ b. b * 2 ^ (shift - 33) + marks.bits p) (home p)
  known_is p =
      ap (option_map (λ b. b * 2 ^ (shift - 33) + bits_along cells heads p (length cells) b)) (shown (places_in cells heads) heads home table p)
      ∙ known_at p (home p) refl

  -- the home and the bits of what is known
  pub known_parts : (p x : ℕ) → known_in cells heads shift p ≡ Some x → (home p ≡ Some (x / 2 ^ (shift - 33))) × (marks.bits p ≡ x % 2 ^ (shift - 33))
  known_parts p x e = go (home p) refl
    where
      go : (o : Option ℕ) → home p ≡ o → (home p ≡ Some (x / 2 ^ (shift - 33))) × (marks.bits p ≡ x % 2 ^ (shift - 33))
      go None h = absurd (none_is x (sym (known_is p ∙ ap (option_map (λ b. b * 2 ^ (shift - 33) + marks.bits p)) h) ∙ e))
      go (Some b) h =
          let is : b * 2 ^ (shift - 33) + marks.bits p ≡ x = some_is (b * 2 ^ (shift - 33) + marks.bits p) x (sym (known_is p ∙ ap (option_map (λ c. c * 2 ^ (shift - 33) + marks.bits p)) h) ∙ e) in (
            h ∙ ap (λ n. Some n) (sym (div-mul-add b (2 ^ (shift - 33)) (marks.bits p) (marks.small p)) ∙ ap (λ n. n / 2 ^ (shift - 33)) is),
            sym (mod-mul-add b (2 ^ (shift - 33)) (marks.bits p) (marks.small p)) ∙ ap (λ n. n % 2 ^ (shift - 33)) is,
          )

-- the same marks, by another function for the same homes
unfoldable pub marks_along : (cells : List ℕ) (heads shift : ℕ) (home home' : ℕ → Option ℕ) → ((p : ℕ) → home p ≡ home' p) → Marks cells heads shift home → Marks cells heads shift home'
marks_along cells heads shift home home' same marks = record {
  bits = marks.bits;
  small = marks.small;
  marked = λ c used some. marks.marked c (elim used [ inl l ↦ inl l | inr u ↦ inr (u.0, u.1, u.2, same u.0 ∙ u.3) ]) some;
}

-- ---- no cell holds a place
pub no_marks : (n heads shift : ℕ) (home : ℕ → Option ℕ) → Marks (replicate n 0) heads shift home
no_marks n heads shift home = record {
  bits = λ _. 0;
  small = λ p. pow_pos (shift - 33);
  marked = λ c used some. absurd (omega (arith, some, sym (at_places (replicate n 0) heads c) ∙ ap (λ xs. at xs c) (places_none heads n) ∙ none_at n c));
}
  where
    none_at : (m c : ℕ) → at (replicate m 0) c ≡ 0
    none_at zero c = refl
    none_at (suc m) zero = refl
    none_at (suc m) (suc c) = none_at m c

-- ---- cells behind the others
unfoldable pub longer_marks : (cells more : List ℕ) (heads shift : ℕ) (home : ℕ → Option ℕ) → IsTable (places_in cells heads) heads home → Marks cells heads shift home → Marks (cells ++ more) heads shift home
longer_marks cells more heads shift home table marks = record { bits = marks.bits; small = marks.small; marked = marked }
  where
    marked : (c : ℕ) → IsUsed heads home c → 0 < place_at (cells ++ more) heads c → bits_at (cells ++ more) heads c ≡ marks.bits (place_at (cells ++ more) heads c)
    marked c used some =
        let inside : c < length cells = omega (arith, used_within (places_in cells heads) heads home table c used, length_places cells heads) in
        let same = get_or_append_left cells more 0 c inside in
        ap (λ v. v / (2 * heads)) same ∙ marks.marked c used (subst (λ v. 0 < v % (2 * heads)) same some) ∙ ap (λ v. marks.bits (v % (2 * heads))) (sym same)

-- ---- a place put first in a home
module _ (cells : List ℕ) (heads shift : ℕ) (home : ℕ → Option ℕ) (table : IsTable (places_in cells heads) heads home) (marks : Marks cells heads shift home) (b p t : ℕ) (low : b < heads) (fits : heads + p < length cells) (free : home p ≡ None) (narrow : p < 2 * heads) (small : t < 2 ^ (shift - 33)) where
  put_cells : List ℕ
  put_cells = set (set cells (heads + p) (at cells b)) b (t * (2 * heads) + p)

  put_bits : ℕ → ℕ
  put_bits q = cond (eqb q p) t (marks.bits q)

  bits_here : put_bits p ≡ t
  unfolding put_bits
  bits_here = ap (λ e. cond e t (marks.bits p)) (eq-eqb p p refl)

  bits_other : (q : ℕ) → (q ≡ p → ⊥) → put_bits q ≡ marks.bits q
  unfolding put_bits
  bits_other q ne = ap (λ e. cond e t (marks.bits q)) (ne_eqb q p ne)

  -- a cell that was used leads to no place that was free
  not_free : (c : ℕ) → IsUsed heads home c → 0 < place_at cells heads c → place_at cells heads c ≡ p → ⊥
  not_free c used some e =
      let l = leads (places_in cells heads) heads home table c used (subst (λ x. 0 < x) (sym (at_places cells heads c)) some) in
      none_is l.0 (sym free ∙ ap home (sym e ∙ sym (at_places cells heads c)) ∙ l.1)

  -- a cell that holds what a used one held
  moved : (v c : ℕ) → v ≡ at cells c → IsUsed heads home c → 0 < v % (2 * heads) → v / (2 * heads) ≡ put_bits (v % (2 * heads))
  moved v c e used some =
      let some_c = subst (λ x. 0 < x % (2 * heads)) e some in
      ap (λ x. x / (2 * heads)) e ∙ marks.marked c used some_c
      ∙ sym (bits_other (place_at cells heads c) (not_free c used some_c)) ∙ ap (λ x. put_bits (x % (2 * heads))) (sym e)

  at_head : at put_cells b ≡ t * (2 * heads) + p
  unfolding put_cells
  at_head =
      get_or-set_same (set cells (heads + p) (at cells b)) b (t * (2 * heads) + p) 0
      (subst (λ n. b < n) (sym (length-set cells (heads + p) (at cells b))) (omega (arith, low, fits)))

  at_other : (c : ℕ) → (c ≡ b → ⊥) → at put_cells c ≡ at (set cells (heads + p) (at cells b)) c
  unfolding put_cells
  at_other c ne = get_or-set_other (set cells (heads + p) (at cells b)) b c (t * (2 * heads) + p) 0 ne

  was_used : (c : ℕ) → (c ≡ heads + p → ⊥) → IsUsed heads (put home p b) c → IsUsed heads home c
  was_used c ne (inl l) = inl l
  was_used c ne (inr (q, d, e, h)) = inr (q, d, e, sym (put_other home p b q (λ s. ne (e ∙ ap (λ x. heads + x) (sym s)))) ∙ h)

  put_marked : (c : ℕ) → IsUsed heads (put home p b) c → 0 < place_at put_cells heads c → bits_at put_cells heads c ≡ put_bits (place_at put_cells heads c)
  put_marked c used some =
      elim (cases_eq c b) [
        | inl e ↦
            let v = ap (at put_cells) e ∙ at_head in
            ap (λ x. x / (2 * heads)) v ∙ div-mul-add t (2 * heads) p narrow
            ∙ sym (ap put_bits (ap (λ x. x % (2 * heads)) v ∙ mod-mul-add t (2 * heads) p narrow) ∙ bits_here)
        | inr ne ↦
            elim (cases_eq c (heads + p)) [
              | inl e ↦ moved (at put_cells c) b (at_other c ne ∙ ap (at (set cells (heads + p) (at cells b))) e ∙ get_or-set_same cells (heads + p) (at cells b) 0 fits) (inl low) some
              | inr off ↦ moved (at put_cells c) c (at_other c ne ∙ get_or-set_other cells (heads + p) c (at cells b) 0 off) (was_used c off used) some
            ]
      ]

  pub put_marks : Marks (set (set cells (heads + p) (at cells b)) b (t * (2 * heads) + p)) heads shift (put home p b)
  unfolding put_cells
  put_marks = record { bits = put_bits; small = smalls; marked = put_marked }
    where
      smalls : (q : ℕ) → put_bits q < 2 ^ (shift - 33)
      smalls q = elim (cases_eq q p) [ inl e ↦ subst (λ x. x < 2 ^ (shift - 33)) (sym (ap put_bits e ∙ bits_here)) small | inr ne ↦ subst (λ x. x < 2 ^ (shift - 33)) (sym (bits_other q ne)) (marks.small q) ]

  pub put_marks_here : put_marks.bits p ≡ t
  unfolding put_marks
  put_marks_here = bits_here

  pub put_marks_other : (q : ℕ) → (q ≡ p → ⊥) → put_marks.bits q ≡ marks.bits q
  unfolding put_marks
  put_marks_other = bits_other

  pub places_put : places_in (set (set cells (heads + p) (at cells b)) b (t * (2 * heads) + p)) heads ≡ set (set (places_in cells heads) (heads + p) (at (places_in cells heads) b)) b p
  places_put =
      places_set (set cells (heads + p) (at cells b)) heads b (t * (2 * heads) + p)
      ∙ ap (λ x. set (places_in (set cells (heads + p) (at cells b)) heads) b x) (mod-mul-add t (2 * heads) p narrow)
      ∙ ap (λ xs. set xs b p) (places_set cells heads (heads + p) (at cells b) ∙ ap (set (places_in cells heads) (heads + p)) (sym (at_places cells heads b)))

-- ---- a place taken out of its home
module _ (cells : List ℕ) (heads shift : ℕ) (home : ℕ → Option ℕ) (marks : Marks cells heads shift home) (b p d : ℕ) (stands : home p ≡ Some b) (inside : d < length cells) where
  pub cut_marks : Marks (set cells d (at cells (heads + p))) heads shift (gone home p)
  cut_marks = record { bits = marks.bits; small = marks.small; marked = marked }
    where
      moved : (v c : ℕ) → v ≡ at cells c → IsUsed heads home c → 0 < v % (2 * heads) → v / (2 * heads) ≡ marks.bits (v % (2 * heads))
      moved v c e used some =
          ap (λ x. x / (2 * heads)) e ∙ marks.marked c used (subst (λ x. 0 < x % (2 * heads)) e some) ∙ ap (λ x. marks.bits (x % (2 * heads))) (sym e)

      was : (q e : ℕ) → gone home p q ≡ Some e → home q ≡ Some e
      was q e h = elim (cases_eq p q) [ inl s ↦ absurd (none_is e (sym (gone_here home p) ∙ ap (gone home p) s ∙ h)) | inr ne ↦ sym (gone_other home p q ne) ∙ h ]

      was_used : (c : ℕ) → IsUsed heads (gone home p) c → IsUsed heads home c
      was_used c (inl l) = inl l
      was_used c (inr (q, e, s, h)) = inr (q, e, s, was q e h)

      marked : (c : ℕ) → IsUsed heads (gone home p) c → 0 < place_at (set cells d (at cells (heads + p))) heads c → bits_at (set cells d (at cells (heads + p))) heads c ≡ marks.bits (place_at (set cells d (at cells (heads + p))) heads c)
      marked c used some =
          elim (cases_eq c d) [
            | inl e ↦ moved (at (set cells d (at cells (heads + p))) c) (heads + p) (ap (at (set cells d (at cells (heads + p)))) e ∙ get_or-set_same cells d (at cells (heads + p)) 0 inside) (inr (p, b, refl, stands)) some
            | inr ne ↦ moved (at (set cells d (at cells (heads + p))) c) c (get_or-set_other cells d c (at cells (heads + p)) 0 ne) (was_used c used) some
          ]

  pub cut_marks_same : (q : ℕ) → cut_marks.bits q ≡ marks.bits q
  unfolding cut_marks
  cut_marks_same q = refl

  pub places_cut : places_in (set cells d (at cells (heads + p))) heads ≡ set (places_in cells heads) d (at (places_in cells heads) (heads + p))
  places_cut = places_set cells heads d (at cells (heads + p)) ∙ ap (set (places_in cells heads) d) (sym (at_places cells heads (heads + p)))
