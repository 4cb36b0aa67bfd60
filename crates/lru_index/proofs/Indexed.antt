-- Laws of an index and the keys that it is the index of.
use Rattle.std.proofs.Common.{◌≡◌, ℕ, ◌+◌, ◌-◌, ◌*◌, ◌/◌, ◌^◌, ◌<◌, ◌≤◌, ◌⊎◌, Bool, false, cond, List, ◌∷◌, ◌++◌, length, get_or, map, set, replicate, refl, sym, ap, ◌∙◌, subst, arith, inl, inr, Option, Some, None, IsSome, is_some}
use Rattle.std.specs.Prelude.{IsTrue}
use Rattle.std.specs.List.{range_with_len}
use Rattle.std.specs.Option.{option_map}
use Rattle.std.specs.Cmp.{IsEquivalence}
use Rattle.std.proofs.lemmas.List.{length-set, get_or_past}
use Rattle.std.proofs.lemmas.List.FromFn.{length-map-range_with_len, get_or-map-range_with_len}
use Rattle.std.proofs.lemmas.Bool.{cases_eq, cases_Bool, cases_lt, cases_order, both_ways, lt-ltb, le-ltb}
use Rattle.lru_index.specs.Index.{put, gone, IsAbsent, Indexes}
use Rattle.lru_index.specs.Representation.Cells.{at, places_in, Chains, IsTable, Marks, IsKept, IsFilled, known_in, bits_along, home_in, home_of, rest_bits, homes_by, index_of, below, end_cell}
use Rattle.lru_index.specs.Representation.Walks.{IsTold, Reaches}
use Rattle.lru_index.proofs.Chained.{in_right, end_within}
use Rattle.lru_index.proofs.Tables.{put_here, put_other, gone_here, gone_other, some_is, none_is, shown, kept, along, linked, inserted, removed, empty_table}
use Rattle.lru_index.proofs.Marked.{at_places, length_places, places_none, known_is, known_parts, marks_along, no_marks, put_marks, put_marks_here, put_marks_other, places_put, cut_marks, cut_marks_same, places_cut}
use Rattle.lru_index.proofs.Scales.{joined, home_part}
use Rattle.lru_index.proofs.Walked.{all_passed}

-- ---- options and keys
mapped : {K : Type 0} (f : K → ℕ) (o : Option K) (b : ℕ) → option_map f o ≡ Some b → (k : K) × (o ≡ Some k) × (f k ≡ b)
mapped f None b e = absurd (none_is b e)
mapped f (Some k) b e = (k, refl, some_is (f k) b e)

is_some_of : {K : Type 0} (o : Option K) (k : K) → o ≡ Some k → IsSome o
is_some_of o k e = subst IsSome (sym e) refl

unmapped : {K : Type 0} (f : K → ℕ) (o : Option K) → option_map f o ≡ None → o ≡ None
unmapped f None e = refl
unmapped f (Some k) e = absurd (none_is (f k) (sym e))

-- ---- what an index keeps, after a place is put in and after one is taken out
module _ (cells : List ℕ) (heads shift : ℕ) (keeps : IsKept cells heads shift) where
  home : ℕ → Option ℕ
  home = home_in (places_in cells heads) heads

  pub homes_long : length (map (known_in cells heads shift) (range_with_len 0 (length cells - heads))) ≡ length cells - heads
  homes_long = length-map-range_with_len (known_in cells heads shift) 0 (length cells - heads)

  -- past the room there is no place
  past_home : (p : ℕ) (o : Option ℕ) → home p ≡ o → length cells - heads ≤ p → o ≡ None
  unfolding home
  past_home p None e h = refl
  past_home p (Some b) e h =
      absurd (let l = linked (places_in cells heads) heads (home_in (places_in cells heads) heads) keeps.table p b e in omega (arith, l.1, length_places cells heads, h, keeps.some))

  pub past_free : (p : ℕ) → length cells - heads ≤ p → known_in cells heads shift p ≡ None
  unfolding home
  past_free p h =
      known_is cells heads shift (home_in (places_in cells heads) heads) keeps.table keeps.marks p
      ∙ ap (option_map (λ b. b * 2 ^ (shift - 33) + keeps.marks.bits p)) (past_home p (home_in (places_in cells heads) heads p) refl h)

  -- what the index shows of a place
  pub seen : (p : ℕ) → get_or (map (known_in cells heads shift) (range_with_len 0 (length cells - heads))) p None ≡ known_in cells heads shift p
  seen p =
      elim (cases_lt p (length cells - heads)) [
        | inl l ↦ get_or-map-range_with_len (known_in cells heads shift) 0 (length cells - heads) p p None l (omega arith)
        | inr m ↦ get_or_past (map (known_in cells heads shift) (range_with_len 0 (length cells - heads))) p None (omega (arith, homes_long, m)) ∙ sym (past_free p m)
      ]

  -- a place of which nothing is known has no home
  pub unknown_free : (p : ℕ) → known_in cells heads shift p ≡ None → home_in (places_in cells heads) heads p ≡ None
  unknown_free p e = unmapped (λ b. b * 2 ^ (shift - 33) + bits_along cells heads p (length cells) b) (home_in (places_in cells heads) heads p) e

  -- 0 is no place
  pub zero_free : known_in cells heads shift 0 ≡ None
  zero_free = ap (option_map (λ b. b * 2 ^ (shift - 33) + bits_along cells heads 0 (length cells) b)) (go (home_in (places_in cells heads) heads 0) refl)
    where
      go : (o : Option ℕ) → home_in (places_in cells heads) heads 0 ≡ o → o ≡ None
      go None e = refl
      go (Some b) e = absurd (let l = linked (places_in cells heads) heads (home_in (places_in cells heads) heads) keeps.table 0 b e in omega (arith, l.0))

  module _ (b p t : ℕ) (low : b < heads) (some : 0 < p) (room : p < length cells - heads) (free : home_in (places_in cells heads) heads p ≡ None) (small : t < 2 ^ (shift - 33)) where
    new_cells : List ℕ
    new_cells = set (set cells (heads + p) (at cells b)) b (t * (2 * heads) + p)

    fits : heads + p < length cells
    fits = omega (arith, room)

    narrow : p < 2 * heads
    narrow = omega (arith, room, keeps.narrow)

    put_table : IsTable (places_in new_cells heads) heads (put (home_in (places_in cells heads) heads) p b)
    unfolding new_cells
    put_table =
        subst (λ xs. IsTable xs heads (put (home_in (places_in cells heads) heads) p b))
        (sym (places_put cells heads shift (home_in (places_in cells heads) heads) keeps.table keeps.marks b p t low fits free narrow small))
        (inserted (places_in cells heads) heads (home_in (places_in cells heads) heads) keeps.table b p low some (omega (arith, fits, length_places cells heads)) free)

    marks_put : Marks new_cells heads shift (put (home_in (places_in cells heads) heads) p b)
    unfolding new_cells
    marks_put = put_marks cells heads shift (home_in (places_in cells heads) heads) keeps.table keeps.marks b p t low fits free narrow small

    marks_here : marks_put.bits p ≡ t
    unfolding marks_put
    marks_here = put_marks_here cells heads shift (home_in (places_in cells heads) heads) keeps.table keeps.marks b p t low fits free narrow small

    marks_other : (q : ℕ) → (q ≡ p → ⊥) → marks_put.bits q ≡ keeps.marks.bits q
    unfolding marks_put
    marks_other = put_marks_other cells heads shift (home_in (places_in cells heads) heads) keeps.table keeps.marks b p t low fits free narrow small

    put_length : length new_cells ≡ length cells
    unfolding new_cells
    put_length = length-set (set cells (heads + p) (at cells b)) b (t * (2 * heads) + p) ∙ length-set cells (heads + p) (at cells b)

    pub put_shown : (q : ℕ) → known_in (set (set cells (heads + p) (at cells b)) b (t * (2 * heads) + p)) heads shift q ≡ put (known_in cells heads shift) p (b * 2 ^ (shift - 33) + t) q
    unfolding new_cells
    put_shown q =
        let before = known_is cells heads shift (home_in (places_in cells heads) heads) keeps.table keeps.marks q in
        let after = known_is new_cells heads shift (put (home_in (places_in cells heads) heads) p b) put_table marks_put q in
        elim (cases_eq p q) [
          | inl e ↦
              after ∙ ap (option_map (λ c. c * 2 ^ (shift - 33) + marks_put.bits q)) (sym (ap (put (home_in (places_in cells heads) heads) p b) e) ∙ put_here (home_in (places_in cells heads) heads) p b)
              ∙ ap (λ n. Some (b * 2 ^ (shift - 33) + n)) (ap marks_put.bits (sym e) ∙ marks_here)
              ∙ sym (put_here (known_in cells heads shift) p (b * 2 ^ (shift - 33) + t)) ∙ ap (put (known_in cells heads shift) p (b * 2 ^ (shift - 33) + t)) e
          | inr ne ↦
              after ∙ ap (option_map (λ c. c * 2 ^ (shift - 33) + marks_put.bits q)) (put_other (home_in (places_in cells heads) heads) p b q ne)
              ∙ ap (λ n. option_map (λ c. c * 2 ^ (shift - 33) + n) (home_in (places_in cells heads) heads q)) (marks_other q (λ e. ne (sym e)))
              ∙ sym before ∙ sym (put_other (known_in cells heads shift) p (b * 2 ^ (shift - 33) + t) q ne)
        ]

    pub put_keeps : IsKept (set (set cells (heads + p) (at cells b)) b (t * (2 * heads) + p)) heads shift
    unfolding new_cells
    put_keeps = record {
      table = kept (places_in new_cells heads) heads (put (home_in (places_in cells heads) heads) p b) put_table;
      marks = marks_along new_cells heads shift (put (home_in (places_in cells heads) heads) p b) (home_in (places_in new_cells heads) heads)
          (λ q. sym (shown (places_in new_cells heads) heads (put (home_in (places_in cells heads) heads) p b) put_table q)) marks_put;
      scale = keeps.scale;
      some = subst (λ n. heads < n) (sym put_length) keeps.some;
      few = subst (λ n. n ≤ heads + 4294967295) (sym put_length) keeps.few;
      narrow = subst (λ n. n ≤ 3 * heads) (sym put_length) keeps.narrow;
    }

  module _ (b p : ℕ) (front tail : List ℕ) (low : b < heads) (chain : Chains (places_in cells heads) heads (home_in (places_in cells heads) heads) b (front ++ p ∷ tail)) where
    less_cells : List ℕ
    less_cells = set cells (end_cell heads b front) (at cells (heads + p))

    end_inside : end_cell heads b front < length cells
    end_inside =
        omega (arith, length_places cells heads, end_within (places_in cells heads) heads b (at (places_in cells heads) b) front (p ∷ tail) (omega (arith, low, keeps.some, length_places cells heads)) chain.joined)

    cut_table : IsTable (places_in less_cells heads) heads (gone (home_in (places_in cells heads) heads) p)
    unfolding less_cells
    cut_table =
        subst (λ xs. IsTable xs heads (gone (home_in (places_in cells heads) heads) p))
        (sym (places_cut cells heads shift (home_in (places_in cells heads) heads) keeps.marks b p (end_cell heads b front) stands end_inside))
        (removed (places_in cells heads) heads (home_in (places_in cells heads) heads) keeps.table b p front tail low chain)
      where
        stands : home_in (places_in cells heads) heads p ≡ Some b
        stands = chain.only p (in_right p front (p ∷ tail) (inl refl))

    marks_cut : Marks less_cells heads shift (gone (home_in (places_in cells heads) heads) p)
    unfolding less_cells
    marks_cut =
        cut_marks cells heads shift (home_in (places_in cells heads) heads) keeps.marks b p (end_cell heads b front) (chain.only p (in_right p front (p ∷ tail) (inl refl))) end_inside

    marks_same : (q : ℕ) → marks_cut.bits q ≡ keeps.marks.bits q
    unfolding marks_cut
    marks_same = cut_marks_same cells heads shift (home_in (places_in cells heads) heads) keeps.marks b p (end_cell heads b front) (chain.only p (in_right p front (p ∷ tail) (inl refl))) end_inside

    less_length : length less_cells ≡ length cells
    unfolding less_cells
    less_length = length-set cells (end_cell heads b front) (at cells (heads + p))

    pub cut_shown : (q : ℕ) → known_in (set cells (end_cell heads b front) (at cells (heads + p))) heads shift q ≡ gone (known_in cells heads shift) p q
    unfolding less_cells
    cut_shown q =
        let before = known_is cells heads shift (home_in (places_in cells heads) heads) keeps.table keeps.marks q in
        let after = known_is less_cells heads shift (gone (home_in (places_in cells heads) heads) p) cut_table marks_cut q in
        elim (cases_eq p q) [
          | inl e ↦
              after ∙ ap (option_map (λ c. c * 2 ^ (shift - 33) + marks_cut.bits q)) (sym (ap (gone (home_in (places_in cells heads) heads) p) e) ∙ gone_here (home_in (places_in cells heads) heads) p)
              ∙ sym (gone_here (known_in cells heads shift) p) ∙ ap (gone (known_in cells heads shift) p) e
          | inr ne ↦
              after ∙ ap (option_map (λ c. c * 2 ^ (shift - 33) + marks_cut.bits q)) (gone_other (home_in (places_in cells heads) heads) p q ne)
              ∙ ap (λ n. option_map (λ c. c * 2 ^ (shift - 33) + n) (home_in (places_in cells heads) heads q)) (marks_same q)
              ∙ sym before ∙ sym (gone_other (known_in cells heads shift) p q ne)
        ]

    pub cut_keeps : IsKept (set cells (end_cell heads b front) (at cells (heads + p))) heads shift
    unfolding less_cells
    cut_keeps = record {
      table = kept (places_in less_cells heads) heads (gone (home_in (places_in cells heads) heads) p) cut_table;
      marks = marks_along less_cells heads shift (gone (home_in (places_in cells heads) heads) p) (home_in (places_in less_cells heads) heads)
          (λ q. sym (shown (places_in less_cells heads) heads (gone (home_in (places_in cells heads) heads) p) cut_table q)) marks_cut;
      scale = keeps.scale;
      some = subst (λ n. heads < n) (sym less_length) keeps.some;
      few = subst (λ n. n ≤ heads + 4294967295) (sym less_length) keeps.few;
      narrow = subst (λ n. n ≤ 3 * heads) (sym less_length) keeps.narrow;
    }

-- ---- keys
module _ {K : Type 0} (f : K → ℕ) (keys : ℕ → Option K) (p : ℕ) where
  put_known : (key : K) (q : ℕ) (home : ℕ → Option ℕ) → home q ≡ option_map f (keys q) → put home p (f key) q ≡ option_map f (put keys p key q)
  put_known key q home e =
      elim (cases_eq p q) [
        | inl s ↦
            subst (λ x. put home p (f key) x ≡ option_map f (put keys p key x)) s
            (put_here home p (f key) ∙ sym (ap (option_map f) (put_here keys p key)))
        | inr ne ↦ put_other home p (f key) q ne ∙ e ∙ sym (ap (option_map f) (put_other keys p key q ne))
      ]

  gone_known : (q : ℕ) (home : ℕ → Option ℕ) → home q ≡ option_map f (keys q) → gone home p q ≡ option_map f (gone keys p q)
  gone_known q home e =
      elim (cases_eq p q) [
        | inl s ↦
            subst (λ x. gone home p x ≡ option_map f (gone keys p x)) s
            (gone_here home p ∙ sym (ap (option_map f) (gone_here keys p)))
        | inr ne ↦ gone_other home p q ne ∙ e ∙ sym (ap (option_map f) (gone_other keys p q ne))
      ]

module _ {K : Type 0} (keys : ℕ → Option K) (p : ℕ) where
  -- a key that is left was there before, at another place
  gone_was : (q : ℕ) (k : K) → gone keys p q ≡ Some k → keys q ≡ Some k
  gone_was q k e =
      elim (cases_eq p q) [
        | inl s ↦ absurd (none_is k (sym (gone_here keys p) ∙ ap (gone keys p) s ∙ e))
        | inr ne ↦ sym (gone_other keys p q ne) ∙ e
      ]

  put_was : (key : K) (q : ℕ) (k : K) → put keys p key q ≡ Some k → ((p ≡ q) × (key ≡ k)) ⊎ (keys q ≡ Some k)
  put_was key q k e =
      elim (cases_eq p q) [
        | inl s ↦ inl (s, some_is key k (sym (put_here keys p key) ∙ ap (put keys p key) s ∙ e))
        | inr ne ↦ inr (sym (put_other keys p key q ne) ∙ e)
      ]

-- ---- an index of keys
module _ {K S : Type 0} (eq : K → K → Bool) (laws : IsEquivalence eq) (hash : S → K → ℕ) (respects : (s : S) (x y : K) → IsTrue (eq x y) → hash s x ≡ hash s y) (cells : List ℕ) (heads shift : ℕ) (hash_builder : S) (keeps : IsKept cells heads shift) (keys : ℕ → Option K) (index : Indexes eq hash (index_of cells heads shift hash_builder) keys) where
  bits : K → ℕ
  bits k = hash hash_builder k / 2 ^ 33

  known : (p : ℕ) → known_in cells heads shift p ≡ option_map bits (keys p)
  unfolding bits
  known p = sym (seen cells heads shift keeps p) ∙ index.known p

  known_key : (p : ℕ) (k : K) → keys p ≡ Some k → known_in cells heads shift p ≡ Some (hash hash_builder k / 2 ^ 33)
  unfolding bits
  known_key p k e = known p ∙ ap (option_map bits) e

  -- a place with a home has a key
  pub is_live : (p b : ℕ) → home_in (places_in cells heads) heads p ≡ Some b → IsSome (keys p)
  is_live p b e =
      let shows = known_is cells heads shift (home_in (places_in cells heads) heads) keeps.table keeps.marks p ∙ ap (option_map (λ c. c * 2 ^ (shift - 33) + keeps.marks.bits p)) e in
      let h = mapped bits (keys p) (b * 2 ^ (shift - 33) + keeps.marks.bits p) (sym (known p) ∙ shows) in
      is_some_of (keys p) h.0 h.1

  pub no_key : (p : ℕ) → known_in cells heads shift p ≡ None → keys p ≡ None
  no_key p e = unmapped bits (keys p) (sym (known p) ∙ e)

  -- what stands for keys of one hash
  module _ {Q : Type 0} (stands : K → Q → Bool) (query : Q) (hashed : ℕ) (alike : (k : K) → IsTrue (stands k query) → hash hash_builder k ≡ hashed) where
    parts : (q : ℕ) (k : K) → keys q ≡ Some k → IsTrue (stands k query) → (home_in (places_in cells heads) heads q ≡ Some (home_of shift hashed)) × (keeps.marks.bits q ≡ rest_bits shift hashed)
    parts q k e same =
        let p = known_parts cells heads shift (home_in (places_in cells heads) heads) keeps.table keeps.marks q (hash hash_builder k / 2 ^ 33) (known_key q k e) in
        let is = alike k same in (
          p.0 ∙ ap (λ n. Some n) (home_part heads shift keeps.scale (hash hash_builder k) ∙ ap (home_of shift) is),
          p.1 ∙ ap (rest_bits shift) is,
        )

    -- a cell that holds the place of such a key has its bits
    pub told : (bits_of : ℕ) → bits_of / (2 * heads) ≡ rest_bits shift hashed → IsTold stands keys query cells heads bits_of
    told bits_of are c used h =
        let p = parts (at (places_in cells heads) c) h.0 h.1 h.2 in
        let some = linked (places_in cells heads) heads (home_in (places_in cells heads) heads) keeps.table (at (places_in cells heads) c) (home_of shift hashed) p.0 in
        keeps.marks.marked c used (subst (λ x. 0 < x) (at_places cells heads c) some.0) ∙ ap keeps.marks.bits (sym (at_places cells heads c)) ∙ p.1 ∙ sym are

    -- a chain without such a key: no place has one
    pub absent : (b : ℕ) → b ≡ home_of shift hashed → b < heads → (cell : ℕ) → Reaches stands keys query (places_in cells heads) heads b cell → at (places_in cells heads) cell ≡ 0 → IsAbsent stands keys query
    absent b is low cell r end q k e =
        elim (cases_Bool (stands k query)) [
          | inl t ↦ all_passed stands keys query (places_in cells heads) heads b keeps.table low cell r.walk end q ((parts q k e t).0 ∙ ap (λ n. Some n) (sym is)) k e
          | inr f ↦ f
        ]

  module _ (key : K) (b t : ℕ) (b_is : b ≡ home_of shift (hash hash_builder key)) (t_is : t ≡ rest_bits shift (hash hash_builder key)) (low : b < heads) (small : t < 2 ^ (shift - 33)) where
    all_bits : b * 2 ^ (shift - 33) + t ≡ hash hash_builder key / 2 ^ 33
    all_bits = ap (λ n. n * 2 ^ (shift - 33) + t) b_is ∙ ap (λ n. home_of shift (hash hash_builder key) * 2 ^ (shift - 33) + n) t_is ∙ joined heads shift keeps.scale (hash hash_builder key)

    module _ (p : ℕ) (some : 0 < p) (room : p < length cells - heads) (free : home_in (places_in cells heads) heads p ≡ None) (new : IsAbsent eq keys key) where
      put_once : (q r : ℕ) (j k : K) → put keys p key q ≡ Some j → put keys p key r ≡ Some k → IsTrue (eq j k) → q ≡ r
      put_once q r j k ej ek same =
          elim (put_was keys p key q j ej) [
            | inl a ↦
                elim (put_was keys p key r k ek) [
                  | inl b ↦ sym a.0 ∙ b.0
                  | inr b ↦ absurd (both_ways (eq k key) (new r k b) (laws.symm k key ∙ ap (λ x. eq x k) a.1 ∙ same))
                ]
            | inr a ↦
                elim (put_was keys p key r k ek) [
                  | inl b ↦ absurd (both_ways (eq j key) (new q j a) (ap (λ x. eq j x) b.1 ∙ same))
                  | inr b ↦ index.once q r j k a b same
                ]
          ]

      pub put_index : Indexes eq hash (index_of (set (set cells (heads + p) (at cells b)) b (t * (2 * heads) + p)) heads shift hash_builder) (put keys p key)
      unfolding bits
      put_index = record {
        known = λ q.
            seen (set (set cells (heads + p) (at cells b)) b (t * (2 * heads) + p)) heads shift (put_keeps cells heads shift keeps b p t low some room free small) q
            ∙ put_shown cells heads shift keeps b p t low some room free small q ∙ ap (λ x. put (known_in cells heads shift) p x q) all_bits
            ∙ put_known bits keys p key q (known_in cells heads shift) (known q);
        once = put_once;
      }

  module _ (b p : ℕ) (front tail : List ℕ) (low : b < heads) (chain : Chains (places_in cells heads) heads (home_in (places_in cells heads) heads) b (front ++ p ∷ tail)) where
    pub cut_index : Indexes eq hash (index_of (set cells (end_cell heads b front) (at cells (heads + p))) heads shift hash_builder) (gone keys p)
    unfolding bits
    cut_index = record {
      known = λ q.
          seen (set cells (end_cell heads b front) (at cells (heads + p))) heads shift (cut_keeps cells heads shift keeps b p front tail low chain) q
          ∙ cut_shown cells heads shift keeps b p front tail low chain q ∙ gone_known bits keys p q (known_in cells heads shift) (known q);
      once = λ q r j k ej ek same. index.once q r j k (gone_was keys p q j ej) (gone_was keys p r k ek) same;
    }

  -- the same keys in other cells
  module _ (cells' : List ℕ) (heads' shift' : ℕ) (filled : IsFilled (hash hash_builder) heads' shift' (length cells - heads) keys cells') (keeps' : IsKept cells' heads' shift') where
    filled_known : (q : ℕ) (o : Option K) → keys q ≡ o → option_map (λ b. b * 2 ^ (shift' - 33) + filled.marks.bits q) (below (length cells - heads) (homes_by (hash hash_builder) shift' keys) q) ≡ option_map (λ k. hash hash_builder k / 2 ^ 33) o
    filled_known q None e =
        ap (option_map (λ b. b * 2 ^ (shift' - 33) + filled.marks.bits q)) (nothing (cases_lt q (length cells - heads)))
      where
        nothing : (q < length cells - heads) ⊎ (length cells - heads ≤ q) → below (length cells - heads) (homes_by (hash hash_builder) shift' keys) q ≡ None
        nothing (inl l) = ap (λ t. cond t (homes_by (hash hash_builder) shift' keys q) None) (lt-ltb q (length cells - heads) l) ∙ ap (option_map (λ k. home_of shift' (hash hash_builder k))) e
        nothing (inr m) = ap (λ t. cond t (homes_by (hash hash_builder) shift' keys q) None) (le-ltb q (length cells - heads) m)
    filled_known q (Some k) e =
        ap (option_map (λ b. b * 2 ^ (shift' - 33) + filled.marks.bits q))
        (ap (λ t. cond t (homes_by (hash hash_builder) shift' keys q) None) (lt-ltb q (length cells - heads) inside) ∙ ap (option_map (λ k. home_of shift' (hash hash_builder k))) e)
        ∙ ap (λ n. Some (home_of shift' (hash hash_builder k) * 2 ^ (shift' - 33) + n)) (filled.right q k inside e)
        ∙ ap (λ n. Some n) (joined heads' shift' keeps'.scale (hash hash_builder k))
      where
        inside : q < length cells - heads
        inside =
            elim (cases_lt q (length cells - heads)) [
              | inl l ↦ l
              | inr m ↦ absurd (none_is k (sym (no_key q (past_free cells heads shift keeps q m)) ∙ e))
            ]

    pub grown_index : Indexes eq hash (index_of cells' heads' shift' hash_builder) keys
    grown_index = record {
      known = λ q.
          seen cells' heads' shift' keeps' q
          ∙ known_is cells' heads' shift' (below (length cells - heads) (homes_by (hash hash_builder) shift' keys)) filled.table filled.marks q ∙ filled_known q (keys q) refl;
      once = index.once;
    }

-- ---- the places below a number
module _ (home : ℕ → Option ℕ) where
  pub below_start : home 0 ≡ None → (q : ℕ) → None ≡ below 1 home q
  below_start none q =
      elim (cases_eq 0 q) [
        | inl e ↦ subst (λ x. None ≡ below 1 home x) e (sym none)
        | inr ne ↦ sym (ap (λ t. cond t (home q) None) (le-ltb q 1 (omega (arith, ne))))
      ]

  pub below_none : (q : ℕ) → None ≡ below 0 home q
  below_none q = sym (ap (λ t. cond t (home q) None) (le-ltb q 0 (omega arith)))

  pub below_skip : (p : ℕ) → home p ≡ None → (q : ℕ) → below p home q ≡ below (p + 1) home q
  below_skip p none q =
      elim (cases_order q p) [
        | inl e ↦
            ap (λ t. cond t (home q) None) (le-ltb q p (omega (arith, e)))
            ∙ sym (ap (λ t. cond t (home q) None) (lt-ltb q (p + 1) (omega (arith, e))) ∙ ap home e ∙ none)
        | inr (inl l) ↦ ap (λ t. cond t (home q) None) (lt-ltb q p l ∙ sym (lt-ltb q (p + 1) (omega (arith, l))))
        | inr (inr m) ↦ ap (λ t. cond t (home q) None) (le-ltb q p (omega (arith, m)) ∙ sym (le-ltb q (p + 1) (omega (arith, m))))
      ]

  pub below_put : (p b : ℕ) → home p ≡ Some b → (q : ℕ) → put (below p home) p b q ≡ below (p + 1) home q
  below_put p b has q =
      elim (cases_eq p q) [
        | inl e ↦
            subst (λ x. put (below p home) p b x ≡ below (p + 1) home x) e
            (put_here (below p home) p b ∙ sym (ap (λ t. cond t (home p) None) (lt-ltb p (p + 1) (omega arith)) ∙ has))
        | inr ne ↦ put_other (below p home) p b q ne ∙ other (cases_lt q p) ne
      ]
    where
      other : (q < p) ⊎ (p ≤ q) → (p ≡ q → ⊥) → below p home q ≡ below (p + 1) home q
      other (inl l) ne = ap (λ t. cond t (home q) None) (lt-ltb q p l ∙ sym (lt-ltb q (p + 1) (omega (arith, l))))
      other (inr m) ne = ap (λ t. cond t (home q) None) (le-ltb q p m ∙ sym (le-ltb q (p + 1) (omega (arith, m, ne))))

  pub below_free : (p : ℕ) → below p home p ≡ None
  below_free p = ap (λ t. cond t (home p) None) (le-ltb p p (omega arith))

-- ---- cells filled place by place
module _ {K : Type 0} (hash : K → ℕ) (heads shift : ℕ) (keys : ℕ → Option K) where
  home_none : (p : ℕ) → keys p ≡ None → homes_by hash shift keys p ≡ None
  home_none p e = ap (option_map (λ k. home_of shift (hash k))) e

  pub fill_start : (cells : List ℕ) → heads ≤ length cells → cells ≡ replicate (length cells) 0 → keys 0 ≡ None → IsFilled hash heads shift 1 keys cells
  fill_start cells wide empty none =
      subst (IsFilled hash heads shift 1 keys) (sym empty) (record {
        table = along (places_in (replicate (length cells) 0) heads) heads (λ _. None)
            (subst (λ xs. IsTable xs heads (λ _. None)) (sym (places_none heads (length cells))) (empty_table (length cells) heads wide))
            (below 1 (homes_by hash shift keys)) (below_start (homes_by hash shift keys) (home_none 0 none));
        marks = no_marks (length cells) heads shift (below 1 (homes_by hash shift keys));
        right = λ p k l e. absurd (none_is k (sym none ∙ ap keys (omega (arith, l)) ∙ e));
      })

  pub fill_skip : (cells : List ℕ) (p : ℕ) → IsFilled hash heads shift p keys cells → keys p ≡ None → IsFilled hash heads shift (p + 1) keys cells
  unfolding marks_along
  fill_skip cells p filled none = record {
    table = along (places_in cells heads) heads (below p (homes_by hash shift keys)) filled.table (below (p + 1) (homes_by hash shift keys)) (below_skip (homes_by hash shift keys) p (home_none p none));
    marks = marks_along cells heads shift (below p (homes_by hash shift keys)) (below (p + 1) (homes_by hash shift keys)) (below_skip (homes_by hash shift keys) p (home_none p none)) filled.marks;
    right = right;
  }
    where
      right : (q : ℕ) (k : K) → q < p + 1 → keys q ≡ Some k → filled.marks.bits q ≡ rest_bits shift (hash k)
      right q k l e =
          elim (cases_eq q p) [
            | inl s ↦ absurd (none_is k (sym none ∙ ap keys (sym s) ∙ e))
            | inr ne ↦ filled.right q k (omega (arith, l, ne)) e
          ]

  module _ (cells : List ℕ) (p : ℕ) (key : K) (b t : ℕ) (filled : IsFilled hash heads shift p keys cells) (has : keys p ≡ Some key) (b_is : b ≡ home_of shift (hash key)) (t_is : t ≡ rest_bits shift (hash key)) (low : b < heads) (small : t < 2 ^ (shift - 33)) (some : 0 < p) (fits : heads + p < length cells) (narrow : p < 2 * heads) where
    new_home : homes_by hash shift keys p ≡ Some b
    new_home = ap (option_map (λ k. home_of shift (hash k))) has ∙ ap (λ n. Some n) (sym b_is)

    filled_put : Marks (set (set cells (heads + p) (at cells b)) b (t * (2 * heads) + p)) heads shift (put (below p (homes_by hash shift keys)) p b)
    filled_put = put_marks cells heads shift (below p (homes_by hash shift keys)) filled.table filled.marks b p t low fits (below_free (homes_by hash shift keys) p) narrow small

    right_put : (q : ℕ) (k : K) → q < p + 1 → keys q ≡ Some k → filled_put.bits q ≡ rest_bits shift (hash k)
    unfolding filled_put
    right_put q k l e =
        elim (cases_eq q p) [
          | inl s ↦
              ap filled_put.bits s ∙ put_marks_here cells heads shift (below p (homes_by hash shift keys)) filled.table filled.marks b p t low fits (below_free (homes_by hash shift keys) p) narrow small
              ∙ t_is ∙ ap (λ x. rest_bits shift (hash x)) (some_is key k (sym has ∙ ap keys (sym s) ∙ e))
          | inr ne ↦
              put_marks_other cells heads shift (below p (homes_by hash shift keys)) filled.table filled.marks b p t low fits (below_free (homes_by hash shift keys) p) narrow small q ne
              ∙ filled.right q k (omega (arith, l, ne)) e
        ]

    pub fill_put : IsFilled hash heads shift (p + 1) keys (set (set cells (heads + p) (at cells b)) b (t * (2 * heads) + p))
    unfolding filled_put marks_along
    fill_put = record {
      table = subst (λ xs. IsTable xs heads (below (p + 1) (homes_by hash shift keys)))
          (sym (places_put cells heads shift (below p (homes_by hash shift keys)) filled.table filled.marks b p t low fits (below_free (homes_by hash shift keys) p) narrow small))
          (along (set (set (places_in cells heads) (heads + p) (at (places_in cells heads) b)) b p) heads (put (below p (homes_by hash shift keys)) p b)
          (inserted (places_in cells heads) heads (below p (homes_by hash shift keys)) filled.table b p low some (omega (arith, fits, length_places cells heads)) (below_free (homes_by hash shift keys) p))
          (below (p + 1) (homes_by hash shift keys)) (below_put (homes_by hash shift keys) p b new_home));
      marks = marks_along (set (set cells (heads + p) (at cells b)) b (t * (2 * heads) + p)) heads shift (put (below p (homes_by hash shift keys)) p b) (below (p + 1) (homes_by hash shift keys))
          (below_put (homes_by hash shift keys) p b new_home) filled_put;
      right = right_put;
    }

-- a place that is not live has no key
pub not_live : {K : Type 0} (o : Option K) → is_some o ≡ false → o ≡ None
not_live None e = refl
not_live (Some k) e = cc
