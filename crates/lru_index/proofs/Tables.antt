-- Laws of tables: the home of each place is what its cells show, and a place put in, or taken out, changes its own home alone.
use Rattle.std.proofs.Common.{◌≡◌, ℕ, ◌+◌, ◌-◌, ◌<◌, ◌≤◌, true, false, cond, eqb, List, [], ◌∷◌, ◌++◌, length, set, replicate, suc, zero, refl, sym, ap, ◌∙◌, subst, arith, inl, inr, Option, Some, None}
use Rattle.std.specs.List.{list_any}
use Rattle.std.proofs.lemmas.List.{get_or-set_same, get_or-set_other, length-set, length-append, get_or_append_left, get_or-replicate, length-replicate, get_or_past}
use Rattle.std.proofs.lemmas.List.FromFn.{get_or-map-range_with_len, length-map-range_with_len}
use Rattle.std.proofs.lemmas.Bool.{eq-eqb, ne_eqb, cases_eq, cases_Bool, cases_lt}
use Rattle.lru_index.specs.Index.{put, gone}
use Rattle.lru_index.specs.Representation.Cells.{In, at, IsChain, Chains, IsTable, rest_of, holder, homes_of, home_in, end_cell}
use Rattle.lru_index.proofs.Chained.{in_left, in_right, in_rest, in_others, apart_rest, apart_middle, tested, member, few, within, unread, end_is, cut, path_is}

module _ {K : Type 0} where
  pub put_here : (keys : ℕ → Option K) (p : ℕ) (k : K) → put keys p k p ≡ Some k
  put_here keys p k = ap (λ b. cond b (Some k) (keys p)) (eq-eqb p p refl)

  pub put_other : (keys : ℕ → Option K) (p : ℕ) (k : K) (q : ℕ) → (p ≡ q → ⊥) → put keys p k q ≡ keys q
  put_other keys p k q ne = ap (λ b. cond b (Some k) (keys q)) (ne_eqb q p (λ e. ne (sym e)))

  pub gone_here : (keys : ℕ → Option K) (p : ℕ) → gone keys p p ≡ None
  gone_here keys p = ap (λ b. cond b None (keys p)) (eq-eqb p p refl)

  pub gone_other : (keys : ℕ → Option K) (p q : ℕ) → (p ≡ q → ⊥) → gone keys p q ≡ keys q
  gone_other keys p q ne = ap (λ b. cond b None (keys q)) (ne_eqb q p (λ e. ne (sym e)))

-- ---- what the cells show
pub some_is : {A : Type 0} (a b : A) → Some a ≡ Some b → a ≡ b
some_is a b e = cc

pub none_is : {A : Type 0} (b : A) → None ≡ Some b → ⊥
none_is b e = cc

module _ (cells : List ℕ) (heads : ℕ) (home : ℕ → Option ℕ) where
  pub rest_is : (b : ℕ) (places : List ℕ) → Chains cells heads home b places → rest_of cells heads (at cells b) ≡ places
  rest_is b places c =
      path_is cells heads places (length cells) (at cells b) c.joined
      (few places (length cells) c.apart (λ p i. let w = within cells heads (at cells b) places c.joined p i in omega (arith, w.1)))

  module _ (table : IsTable cells heads home) where
    found_in : (p b : ℕ) → b < heads → home p ≡ Some b → list_any (eqb p) (rest_of cells heads (at cells b)) ≡ true
    found_in p b h e =
        let c = table.chains b h in
        subst (λ xs. list_any (eqb p) xs ≡ true) (sym (rest_is b c.0 c.1)) (tested p c.0 (c.1.has p e))

    missed_in : (p b : ℕ) → b < heads → (home p ≡ Some b → ⊥) → list_any (eqb p) (rest_of cells heads (at cells b)) ≡ false
    missed_in p b h ne =
        let c = table.chains b h in
        elim (cases_Bool (list_any (eqb p) (rest_of cells heads (at cells b)))) [
          | inl t ↦ absurd (ne (c.1.only p (member p c.0 (subst (λ xs. list_any (eqb p) xs ≡ true) (rest_is b c.0 c.1) t))))
          | inr f ↦ f
        ]

    holder_is : (p b n : ℕ) → n ≤ heads → b < n → home p ≡ Some b → holder cells heads p n ≡ Some b
    holder_is p b zero within below e = absurd (omega (arith, below))
    holder_is p b (suc n) within below e =
        elim (cases_eq n b) [
          | inl same ↦
              ap (λ t. cond t (Some n) (holder cells heads p n)) (found_in p n (omega (arith, within)) (e ∙ ap (λ x. Some x) (sym same)))
              ∙ ap (λ x. Some x) same
          | inr other ↦
              ap (λ t. cond t (Some n) (holder cells heads p n)) (missed_in p n (omega (arith, within)) (λ f. other (some_is n b (sym f ∙ e))))
              ∙ holder_is p b n (omega (arith, within)) (omega (arith, below, other)) e
        ]

    holder_none : (p n : ℕ) → n ≤ heads → home p ≡ None → holder cells heads p n ≡ None
    holder_none p zero within e = refl
    holder_none p (suc n) within e =
        ap (λ t. cond t (Some n) (holder cells heads p n)) (missed_in p n (omega (arith, within)) (λ f. none_is n (sym e ∙ f)))
        ∙ holder_none p n (omega (arith, within)) e

    -- a place with a home has a link
    pub linked : (p b : ℕ) → home p ≡ Some b → (0 < p) × (heads + p < length cells)
    linked p b e =
        let c = table.chains b (table.homes p b e) in
        within cells heads (at cells b) c.0 c.1.joined p (c.1.has p e)

    shown_at : (p : ℕ) (o : Option ℕ) → home p ≡ o → holder cells heads p heads ≡ o
    shown_at p None e = holder_none p heads (omega arith) e
    shown_at p (Some b) e = holder_is p b heads (omega arith) (table.homes p b e) e

    past : (p : ℕ) (o : Option ℕ) → home p ≡ o → length cells ≤ heads + p → None ≡ o
    past p None e h = refl
    past p (Some b) e h = absurd (let w = linked p b e in omega (arith, w.1, h))

    pub shown : (p : ℕ) → home_in cells heads p ≡ home p
    shown p =
        elim (cases_lt p (length cells - heads)) [
          | inl l ↦ get_or-map-range_with_len (λ q. holder cells heads q heads) 0 (length cells - heads) p p None l (omega arith) ∙ shown_at p (home p) refl
          | inr m ↦
              get_or_past (homes_of cells heads) p None
              (subst (λ n. n ≤ p) (sym (length-map-range_with_len (λ q. holder cells heads q heads) 0 (length cells - heads))) m)
              ∙ past p (home p) refl (omega (arith, m, table.wide))
        ]

    -- ---- the same table, by another function for the same homes
    pub along : (home' : ℕ → Option ℕ) → ((p : ℕ) → home p ≡ home' p) → IsTable cells heads home'
    along home' same = record {
      wide = table.wide;
      chains = λ b h. let c = table.chains b h in (
        c.0,
        record {
          joined = c.1.joined;
          apart = c.1.apart;
          has = λ p e. c.1.has p (same p ∙ e);
          only = λ p i. sym (same p) ∙ c.1.only p i;
        },
      );
      homes = λ p b e. table.homes p b (same p ∙ e);
    }

    -- the table by what its cells show
    pub kept : IsTable cells heads (home_in cells heads)
    kept = along (home_in cells heads) (λ p. sym (shown p))

-- ---- no place has a home
pub empty_table : (n heads : ℕ) → heads ≤ n → IsTable (replicate n 0) heads (λ _. None)
empty_table n heads wide = record {
  wide = subst (λ m. heads ≤ m) (sym (length-replicate n 0)) wide;
  chains = λ b h. ([], record { joined = get_or-replicate n b 0 0 (omega (arith, h, wide)); apart = tt; has = λ p e. absurd (none_is b e); only = λ p i. absurd i });
  homes = λ p b e. absurd (none_is b e);
}

-- ---- cells behind the others, which no chain reaches
module _ (cells more : List ℕ) (heads : ℕ) where
  read_on : (c : ℕ) → c < length cells → at (cells ++ more) c ≡ at cells c
  read_on c h = get_or_append_left cells more 0 c h

  chain_on : (v : ℕ) (ps : List ℕ) → IsChain cells heads v ps → IsChain (cells ++ more) heads v ps
  chain_on v [] h = h
  chain_on v (p ∷ ps) h =
      let rest = chain_on (at cells (heads + p)) ps h.3 in
      (h.0, h.1, omega (arith, h.2, length-append cells more), subst (λ w. IsChain (cells ++ more) heads w ps) (sym (read_on (heads + p) h.2)) rest)

  pub longer_table : (home : ℕ → Option ℕ) → IsTable cells heads home → IsTable (cells ++ more) heads home
  longer_table home table = record {
    wide = omega (arith, table.wide, length-append cells more);
    chains = λ b h. let c = table.chains b h in (
      c.0,
      record {
        joined = subst (λ w. IsChain (cells ++ more) heads w c.0) (sym (read_on b (omega (arith, h, table.wide)))) (chain_on (at cells b) c.0 c.1.joined);
        apart = c.1.apart;
        has = c.1.has;
        only = c.1.only;
      },
    );
    homes = table.homes;
  }

-- ---- a place put first in a home
module _ (cells : List ℕ) (heads : ℕ) (home : ℕ → Option ℕ) (table : IsTable cells heads home) (b p : ℕ) (low : b < heads) (some : 0 < p) (fits : heads + p < length cells) (free : home p ≡ None) where
  put_cells : List ℕ
  put_cells = set (set cells (heads + p) (at cells b)) b p

  unfree : (q c : ℕ) → home q ≡ Some c → q ≡ p → ⊥
  unfree q c e same = none_is c (sym free ∙ ap home (sym same) ∙ e)

  length_put : length put_cells ≡ length cells
  unfolding put_cells
  length_put = length-set (set cells (heads + p) (at cells b)) b p ∙ length-set cells (heads + p) (at cells b)

  -- the chains of places of one home go on
  goes_on : (v c : ℕ) (ps : List ℕ) → ((q : ℕ) → In q ps → home q ≡ Some c) → IsChain cells heads v ps → IsChain put_cells heads v ps
  unfolding put_cells
  goes_on v c ps only chain =
      unread (set cells (heads + p) (at cells b)) heads b p v ps (λ q i e. absurd (omega (arith, low, e)))
      (unread cells heads (heads + p) (at cells b) v ps (λ q i e. unfree q c (only q i) (omega (arith, e))) chain)

  at_link : at put_cells (heads + p) ≡ at cells b
  unfolding put_cells
  at_link =
      get_or-set_other (set cells (heads + p) (at cells b)) b (heads + p) p 0 (λ e. absurd (omega (arith, low, e)))
      ∙ get_or-set_same cells (heads + p) (at cells b) 0 fits

  at_home : at put_cells b ≡ p
  unfolding put_cells
  at_home = get_or-set_same (set cells (heads + p) (at cells b)) b p 0 (subst (λ n. b < n) (sym (length-set cells (heads + p) (at cells b))) (omega (arith, low, table.wide)))

  at_other : (c : ℕ) → c < heads → (c ≡ b → ⊥) → at put_cells c ≡ at cells c
  unfolding put_cells
  at_other c l ne =
      get_or-set_other (set cells (heads + p) (at cells b)) b c p 0 ne
      ∙ get_or-set_other cells (heads + p) c (at cells b) 0 (λ e. absurd (omega (arith, l, e)))

  own_chain : (ps : List ℕ) → Chains cells heads home b ps → Chains put_cells heads (put home p b) b (p ∷ ps)
  own_chain ps c = record {
    joined = (at_home, some, subst (λ n. heads + p < n) (sym length_put) fits, subst (λ v. IsChain put_cells heads v ps) (sym at_link) (goes_on (at cells b) b ps c.only c.joined));
    apart = (λ i. unfree p b (c.only p i) refl, c.apart);
    has = has;
    only = only;
  }
    where
      has : (q : ℕ) → put home p b q ≡ Some b → In q (p ∷ ps)
      has q e = elim (cases_eq p q) [ inl s ↦ inl s | inr ne ↦ inr (c.has q (sym (put_other home p b q ne) ∙ e)) ]

      only : (q : ℕ) → In q (p ∷ ps) → put home p b q ≡ Some b
      only q (inl s) = subst (λ x. put home p b x ≡ Some b) s (put_here home p b)
      only q (inr i) = put_other home p b q (λ s. unfree q b (c.only q i) (sym s)) ∙ c.only q i

  other_chain : (d : ℕ) (ps : List ℕ) → d < heads → (d ≡ b → ⊥) → Chains cells heads home d ps → Chains put_cells heads (put home p b) d ps
  other_chain d ps l ne c = record {
    joined = subst (λ v. IsChain put_cells heads v ps) (sym (at_other d l ne)) (goes_on (at cells d) d ps c.only c.joined);
    apart = c.apart;
    has = has;
    only = λ q i. put_other home p b q (λ s. unfree q d (c.only q i) (sym s)) ∙ c.only q i;
  }
    where
      has : (q : ℕ) → put home p b q ≡ Some d → In q ps
      has q e =
          elim (cases_eq p q) [
            | inl s ↦ absurd (ne (sym (some_is b d (sym (put_here home p b) ∙ ap (put home p b) s ∙ e))))
            | inr other ↦ c.has q (sym (put_other home p b q other) ∙ e)
          ]

  each_chain : (d : ℕ) → d < heads → (ps : List ℕ) × Chains put_cells heads (put home p b) d ps
  each_chain d l =
      elim (cases_eq d b) [
        | inl s ↦ let c = table.chains b low in (p ∷ c.0, subst (λ x. Chains put_cells heads (put home p b) x (p ∷ c.0)) (sym s) (own_chain c.0 c.1))
        | inr ne ↦ let c = table.chains d l in (c.0, other_chain d c.0 l ne c.1)
      ]

  put_homes : (q d : ℕ) → put home p b q ≡ Some d → d < heads
  put_homes q d e =
      elim (cases_eq p q) [
        | inl s ↦ subst (λ x. x < heads) (some_is b d (sym (put_here home p b) ∙ ap (put home p b) s ∙ e)) low
        | inr ne ↦ table.homes q d (sym (put_other home p b q ne) ∙ e)
      ]

  pub inserted : IsTable (set (set cells (heads + p) (at cells b)) b p) heads (put home p b)
  unfolding put_cells
  inserted = record { wide = subst (λ n. heads ≤ n) (sym length_put) table.wide; chains = each_chain; homes = put_homes }

-- ---- a place taken out of its home
module _ (cells : List ℕ) (heads : ℕ) (home : ℕ → Option ℕ) (table : IsTable cells heads home) (b p : ℕ) (front rest : List ℕ) (low : b < heads) (chain : Chains cells heads home b (front ++ p ∷ rest)) where
  cut_cells : List ℕ
  cut_cells = set cells (end_cell heads b front) (at cells (heads + p))

  length_cut : length cut_cells ≡ length cells
  unfolding cut_cells
  length_cut = length-set cells (end_cell heads b front) (at cells (heads + p))

  at_p : home p ≡ Some b
  at_p = chain.only p (in_right p front (p ∷ rest) (inl refl))

  shorter_chain : Chains cut_cells heads (gone home p) b (front ++ rest)
  unfolding cut_cells
  shorter_chain = record {
    joined = cut cells heads b front p rest (omega (arith, low, table.wide)) (λ q i e. absurd (omega (arith, low, e))) chain.apart chain.joined;
    apart = apart_rest front p rest chain.apart;
    has = has;
    only = only;
  }
    where
      has : (q : ℕ) → gone home p q ≡ Some b → In q (front ++ rest)
      has q e =
          elim (cases_eq p q) [
            | inl s ↦ absurd (none_is b (sym (gone_here home p) ∙ ap (gone home p) s ∙ e))
            | inr ne ↦ in_others q front p rest (chain.has q (sym (gone_other home p q ne) ∙ e)) ne
          ]

      only : (q : ℕ) → In q (front ++ rest) → gone home p q ≡ Some b
      only q i =
          gone_other home p q (λ s. apart_middle front p rest chain.apart (subst (λ x. In x (front ++ rest)) (sym s) i))
          ∙ chain.only q (in_rest q front p rest i)

  -- the cell that is written is no other home's, nor a link of its places
  not_head : (d : ℕ) → d < heads → (d ≡ b → ⊥) → d ≡ end_cell heads b front → ⊥
  not_head d l ne e =
      elim (end_is heads b front) [
        | inl s ↦ ne (e ∙ s)
        | inr f ↦ absurd (omega (arith, l, e ∙ f.2))
      ]

  not_link : (d q : ℕ) → (d ≡ b → ⊥) → home q ≡ Some d → heads + q ≡ end_cell heads b front → ⊥
  not_link d q ne h e =
      elim (end_is heads b front) [
        | inl s ↦ absurd (omega (arith, low, e ∙ s))
        | inr f ↦
            let same : f.0 ≡ q = omega (arith, e ∙ f.2) in
            ne (some_is d b (sym h ∙ ap home (sym same) ∙ chain.only f.0 (in_left f.0 front (p ∷ rest) f.1)))
      ]

  uncut_chain : (d : ℕ) (ps : List ℕ) → d < heads → (d ≡ b → ⊥) → Chains cells heads home d ps → Chains cut_cells heads (gone home p) d ps
  unfolding cut_cells
  uncut_chain d ps l ne c = record {
    joined = subst (λ v. IsChain cut_cells heads v ps) (sym (get_or-set_other cells (end_cell heads b front) d (at cells (heads + p)) 0 (not_head d l ne)))
        (unread cells heads (end_cell heads b front) (at cells (heads + p)) (at cells d) ps (λ q i e. not_link d q ne (c.only q i) e) c.joined);
    apart = c.apart;
    has = has;
    only = λ q i. gone_other home p q (λ s. ne (some_is d b (sym (c.only q i) ∙ ap home (sym s) ∙ at_p))) ∙ c.only q i;
  }
    where
      has : (q : ℕ) → gone home p q ≡ Some d → In q ps
      has q e =
          elim (cases_eq p q) [
            | inl s ↦ absurd (none_is d (sym (gone_here home p) ∙ ap (gone home p) s ∙ e))
            | inr other ↦ c.has q (sym (gone_other home p q other) ∙ e)
          ]

  cut_chains : (d : ℕ) → d < heads → (ps : List ℕ) × Chains cut_cells heads (gone home p) d ps
  cut_chains d l =
      elim (cases_eq d b) [
        | inl s ↦ (front ++ rest, subst (λ x. Chains cut_cells heads (gone home p) x (front ++ rest)) (sym s) shorter_chain)
        | inr ne ↦ let c = table.chains d l in (c.0, uncut_chain d c.0 l ne c.1)
      ]

  gone_homes : (q d : ℕ) → gone home p q ≡ Some d → d < heads
  gone_homes q d e =
      elim (cases_eq p q) [
        | inl s ↦ absurd (none_is d (sym (gone_here home p) ∙ ap (gone home p) s ∙ e))
        | inr ne ↦ table.homes q d (sym (gone_other home p q ne) ∙ e)
      ]

  pub removed : IsTable (set cells (end_cell heads b front) (at cells (heads + p))) heads (gone home p)
  unfolding cut_cells
  removed = record { wide = subst (λ n. heads ≤ n) (sym length_cut) table.wide; chains = cut_chains; homes = gone_homes }
