-- What the calls of an index owe: bounds, what is kept, and of which keys it is the index then.
use Rattle.std.proofs.Common.{◌≡◌, ℕ, ◌+◌, ◌-◌, ◌*◌, ◌/◌, ◌%◌, ◌^◌, ◌<◌, ◌≤◌, Bool, List, ◌++◌, length, get_or, set, replicate, refl, sym, ap, ◌∙◌, subst, arith, inl, inr, Option, None, Some}
use Rattle.std.specs.Prelude.{IsTrue, IsSome}
use Rattle.std.specs.Option.{option_map}
use Rattle.std.specs.Cmp.{IsEquivalence}
use Rattle.std.proofs.Math.Pow.{pow_mono}
use Rattle.std.proofs.lemmas.List.{get_or_default, length-append}
use Rattle.std.proofs.lemmas.Bool.{cases_lt}
use Rattle.lru_index.specs.Index.{Index, room_of, IsFree, put, gone, HasKey, IsAbsent, Indexes, Knows}
use Rattle.lru_index.specs.Representation.Cells.{IsTable, Marks, IsScale, IsKept, IsFilled, at, places_in, known_in, home_in, home_of, rest_bits, homes_by, index_of, below, end_cell}
use Rattle.lru_index.specs.Representation.Walks.{IsTold, Reaches}
use Rattle.lru_index.proofs.Chained.{within}
use Rattle.lru_index.proofs.Tables.{kept, shown, empty_table, longer_table}
use Rattle.lru_index.proofs.Marked.{at_places, length_places, places_none, places_append, known_is, known_parts, no_marks, longer_marks, marks_along}
use Rattle.lru_index.proofs.Scales.{home_by, home_low, home_part, bits_by, bits_small}
use Rattle.lru_index.proofs.Walked.{cell_within, has_link, split, tail_is, has_found}
use Rattle.lru_index.proofs.Indexed.{homes_long, is_live, seen, zero_free, unknown_free, put_keeps, cut_keeps, no_key, absent, told, put_index, cut_index, grown_index}

-- ---- the hash that was handed in is that of the key
module _ {K S : Type 0} (hash : S → K → ℕ) (cells : List ℕ) (heads shift : ℕ) (hash_builder : S) (index : Index S) (view : index_of cells heads shift hash_builder ≡ index) (key : K) (hashed : ℕ) (given : hashed ≡ hash index.hash_builder key) where
  pub hash_is : hashed ≡ hash hash_builder key
  hash_is = given ∙ ap (λ i. hash i.hash_builder key) (sym view)

-- its home, and its bits
module _ (heads shift : ℕ) (scale : IsScale heads shift) (given hashed : ℕ) (is : given ≡ hashed) where
  pub home_is : (b : ℕ) → b ≡ given * heads / 2 ^ 64 → b ≡ home_of shift hashed
  home_is b e = e ∙ home_by heads shift scale given ∙ ap (home_of shift) is

  pub home_within : given < 2 ^ 64 → (b : ℕ) → b ≡ given * heads / 2 ^ 64 → b < heads
  home_within small b e = subst (λ n. n < heads) (sym (e ∙ home_by heads shift scale given)) (home_low heads shift scale given small)

  pub bits_are : (bits : ℕ) → bits ≡ given * heads / 2 ^ 32 % 2 ^ 32 → bits / (2 * heads) ≡ rest_bits shift hashed
  bits_are bits e = ap (λ n. n / (2 * heads)) e ∙ bits_by heads shift scale given ∙ ap (rest_bits shift) is

  pub bits_fit : (bits : ℕ) → bits ≡ given * heads / 2 ^ 32 % 2 ^ 32 → bits / (2 * heads) < 2 ^ (shift - 33)
  bits_fit bits e = subst (λ n. n < 2 ^ (shift - 33)) (sym (bits_are bits e)) (bits_small heads shift scale hashed)

-- so many links are no more than twice the heads
module _ (heads shift : ℕ) (scale : IsScale heads shift) (places links : ℕ) (wide : 33 < shift → places ≤ 2 ^ (64 - shift) / 4 * 3 + 2) (few : places ≤ heads / 4 * 3 + 2 → links ≤ heads / 4 * 3 + 2) (fits : links < 2 ^ 32) where
  pub links_narrow : links ≤ 2 * heads
  links_narrow =
      elim (cases_lt 33 shift) [
        | inl l ↦
            let two : 2 ^ 1 ≤ 2 ^ (64 - shift) = pow_mono {i = 1} {j = 64 - shift} (omega (arith, scale.most)) in
            let less : links ≤ heads / 4 * 3 + 2 = few (subst (λ n. places ≤ n / 4 * 3 + 2) (sym scale.power) (wide l)) in
            omega (arith, less, two, scale.power)
        | inr m ↦
            let least : shift ≡ 33 = omega (arith, m, scale.least) in
            let all : heads ≡ 2 ^ 31 = scale.power ∙ ap (λ n. 2 ^ (64 - n)) least in
            omega (arith, all, fits)
      ]

-- ---- where a walk has ended
module _ {K Q : Type 0} (eq : K → Q → Bool) (keys : ℕ → Option K) (key : Q) (cells : List ℕ) (heads shift : ℕ) (keeps : IsKept cells heads shift) (b cell : ℕ) (low : b < heads) (given : List ℕ) (same : given ≡ cells) (reached : Reaches eq keys key (places_in given heads) heads b cell) where
  here : Reaches eq keys key (places_in cells heads) heads b cell
  here = subst (λ xs. Reaches eq keys key (places_in xs heads) heads b cell) same reached

  pub within_is : cell < length cells
  within_is = omega (arith, length_places cells heads, cell_within eq keys key (places_in cells heads) heads b keeps.table low cell here.walk)

  module _ (held : ℕ) (read : held ≡ get_or cells cell held) (v : ℕ) (place : v ≡ held % (2 * heads)) where
    read_is : v ≡ at (places_in cells heads) cell
    read_is = place ∙ ap (λ x. x % (2 * heads)) (read ∙ get_or_default cells cell held 0 within_is) ∙ sym (at_places cells heads cell)

    module _ (some : v ≡ 0 → ⊥) where
      pub found_is : HasKey eq keys key v
      found_is = has_found eq keys key (places_in cells heads) heads b keeps.table low cell here v read_is some

      pub link_is : heads + v < length cells
      link_is = omega (arith, length_places cells heads, has_link eq keys key (places_in cells heads) heads b keeps.table low cell here.walk v read_is some)

      module _ (w : ℕ) (next : w ≡ get_or cells (heads + v) w) where
        -- the cells that are left, as the cut of a chain
        left_is : set cells (end_cell heads b here.walk.front) (at cells (heads + v)) ≡ set cells cell w
        left_is =
            ap (λ x. set cells x (at cells (heads + v))) (sym here.walk.cell_is)
            ∙ ap (set cells cell) (sym (next ∙ get_or_default cells (heads + v) w 0 link_is))

        pub cut_kept : IsKept (set cells cell w) heads shift
        cut_kept =
            let tail = (tail_is eq keys key (places_in cells heads) heads b keeps.table low cell here.walk v read_is some).0 in
            let chain = split eq keys key (places_in cells heads) heads b keeps.table low cell here.walk v read_is some in
            subst (λ xs. IsKept xs heads shift) left_is (cut_keeps cells heads shift keeps b v here.walk.front tail low chain)

        module _ {L S : Type 0} (same_key : L → L → Bool) (laws : IsEquivalence same_key) (hash : S → L → ℕ) (respects : (s : S) (x y : L) → IsTrue (same_key x y) → hash s x ≡ hash s y) (hash_builder : S) (held_keys : ℕ → Option L) (index : Index S) (view : index_of cells heads shift hash_builder ≡ index) (of : Indexes same_key hash index held_keys) where
          pub cut_indexes : Indexes same_key hash (index_of (set cells cell w) heads shift hash_builder) (gone held_keys v)
          cut_indexes =
              let tail = (tail_is eq keys key (places_in cells heads) heads b keeps.table low cell here.walk v read_is some).0 in
              let chain = split eq keys key (places_in cells heads) heads b keeps.table low cell here.walk v read_is some in
              subst (λ xs. Indexes same_key hash (index_of xs heads shift hash_builder) (gone held_keys v)) left_is
              (cut_index same_key laws hash respects cells heads shift hash_builder keeps held_keys (subst (λ i. Indexes same_key hash i held_keys) (sym view) of) b v here.walk.front tail low chain)

    module _ {S : Type 0} (same_key : K → K → Bool) (laws : IsEquivalence same_key) (hash : S → K → ℕ) (respects : (s : S) (x y : K) → IsTrue (same_key x y) → hash s x ≡ hash s y) (hash_builder : S) (index : Index S) (view : index_of cells heads shift hash_builder ≡ index) (of : Indexes same_key hash index keys)
        (hashed : ℕ) (alike : (k : K) → IsTrue (eq k key) → hash hash_builder k ≡ hashed) (b_is : b ≡ home_of shift hashed) where
      pub absent_is : v ≡ 0 → IsAbsent eq keys key
      absent_is none =
          absent same_key laws hash respects cells heads shift hash_builder keeps keys (subst (λ i. Indexes same_key hash i keys) (sym view) of) eq key hashed alike b b_is low cell here (sym read_is ∙ none)

-- ---- what a look-up asks of the cells
module _ (cells : List ℕ) (heads shift : ℕ) (keeps : IsKept cells heads shift) (given : List ℕ) (same : given ≡ cells) where
  pub table_given : IsTable (places_in given heads) heads (home_in (places_in given heads) heads)
  table_given = subst (λ xs. IsTable (places_in xs heads) heads (home_in (places_in xs heads) heads)) (sym same) keeps.table

  module _ {K Q S : Type 0} (eq : K → Q → Bool) (keys : ℕ → Option K) (key : Q) (same_key : K → K → Bool) (laws : IsEquivalence same_key) (hash : S → K → ℕ) (respects : (s : S) (x y : K) → IsTrue (same_key x y) → hash s x ≡ hash s y) (hash_builder : S) (index : Index S) (view : index_of cells heads shift hash_builder ≡ index) (of : Indexes same_key hash index keys)
      (hashed : ℕ) (alike : (k : K) → IsTrue (eq k key) → hash hash_builder k ≡ hashed) where
    pub live_given : (p b : ℕ) → home_in (places_in given heads) heads p ≡ Some b → IsSome (keys p)
    live_given p b e =
        is_live same_key laws hash respects cells heads shift hash_builder keeps keys (subst (λ i. Indexes same_key hash i keys) (sym view) of) p b
        (subst (λ xs. home_in (places_in xs heads) heads p ≡ Some b) same e)

    pub told_given : (bits : ℕ) → bits / (2 * heads) ≡ rest_bits shift hashed → IsTold eq keys key given heads bits
    told_given bits are =
        subst (λ xs. IsTold eq keys key xs heads bits) (sym same)
        (told same_key laws hash respects cells heads shift hash_builder keeps keys (subst (λ i. Indexes same_key hash i keys) (sym view) of) eq key hashed alike bits are)

-- ---- a place that the index knows by a key's hash
module _ {K S : Type 0} (hash : S → K → ℕ) (cells : List ℕ) (heads shift : ℕ) (hash_builder : S) (keeps : IsKept cells heads shift) (index : Index S) (view : index_of cells heads shift hash_builder ≡ index) (key : K) (p : ℕ) (known : Knows hash index key p) where
  -- it stands in the home of the key
  pub stands_there : home_in (places_in cells heads) heads p ≡ Some (home_of shift (hash hash_builder key))
  stands_there =
      let all : known_in cells heads shift p ≡ Some (hash hash_builder key / 2 ^ 33) = sym (seen cells heads shift keeps p) ∙ subst (λ i. Knows hash i key p) (sym view) known in
      (known_parts cells heads shift (home_in (places_in cells heads) heads) keeps.table keeps.marks p (hash hash_builder key / 2 ^ 33) all).0
      ∙ ap (λ n. Some n) (home_part heads shift keeps.scale (hash hash_builder key))

  linked : (0 < p) × (heads + p < length (places_in cells heads))
  linked =
      let b = home_of shift (hash hash_builder key) in
      let chain = keeps.table.chains b (keeps.table.homes p b stands_there) in
      within (places_in cells heads) heads (at (places_in cells heads) b) chain.0 chain.1.joined p (chain.1.has p stands_there)

  pub link_there : heads + p < length cells
  link_there = omega (arith, linked.1, length_places cells heads)

  pub some_there : p ≡ 0 → ⊥
  some_there none = omega (arith, linked.0, none)

-- ---- a place put in
module _ {S : Type 0} (cells : List ℕ) (heads shift : ℕ) (hash_builder : S) (keeps : IsKept cells heads shift) (index : Index S) (view : index_of cells heads shift hash_builder ≡ index) where
  pub room_at : length cells - heads ≡ room_of index
  room_at = sym (homes_long cells heads shift keeps) ∙ ap room_of view

  pub is_roomy : 1 ≤ room_of index
  is_roomy = omega (arith, room_at, keeps.some)

  module _ (p : ℕ) (room : p < room_of index) where
    room_in : p < length cells - heads
    room_in = omega (arith, room_at, room)

    pub put_fits : heads + p < length cells
    put_fits = omega (arith, room_in)

    pub put_narrow : p < 2 * heads
    put_narrow = omega (arith, room_in, keeps.narrow)

    module _ (some : 0 < p) (free : IsFree index p) (b t : ℕ) (low : b < heads) (small : t < 2 ^ (shift - 33)) where
      free_in : home_in (places_in cells heads) heads p ≡ None
      free_in = unknown_free cells heads shift keeps p (sym (seen cells heads shift keeps p) ∙ subst (λ i. IsFree i p) (sym view) free)

      pub put_kept : IsKept (set (set cells (heads + p) (get_or cells b 0)) b (t * (2 * heads) + p)) heads shift
      put_kept = put_keeps cells heads shift keeps b p t low some room_in free_in small

      module _ {K : Type 0} (eq : K → K → Bool) (laws : IsEquivalence eq) (hash : S → K → ℕ) (respects : (s : S) (x y : K) → IsTrue (eq x y) → hash s x ≡ hash s y) (key : K) (b_is : b ≡ home_of shift (hash hash_builder key)) (t_is : t ≡ rest_bits shift (hash hash_builder key)) where
        pub put_indexes : (keys : ℕ → Option K) → IsAbsent eq keys key → Indexes eq hash index keys → Indexes eq hash (index_of (set (set cells (heads + p) (get_or cells b 0)) b (t * (2 * heads) + p)) heads shift hash_builder) (put keys p key)
        put_indexes keys new of =
            put_index eq laws hash respects cells heads shift hash_builder keeps keys (subst (λ i. Indexes eq hash i keys) (sym view) of) key b t b_is t_is low small p some room_in free_in new

  -- ---- other cells for the same keys
  module _ {K : Type 0} (eq : K → K → Bool) (laws : IsEquivalence eq) (hash : S → K → ℕ) (respects : (s : S) (x y : K) → IsTrue (eq x y) → hash s x ≡ hash s y) (keys : ℕ → Option K) (of : Indexes eq hash index keys) where
    of_in : Indexes eq hash (index_of cells heads shift hash_builder) keys
    of_in = subst (λ i. Indexes eq hash i keys) (sym view) of

    pub zero_keyless : keys 0 ≡ None
    zero_keyless = no_key eq laws hash respects cells heads shift hash_builder keeps keys of_in 0 (zero_free cells heads shift keeps)

    module _ (cells' : List ℕ) (heads' shift' room : ℕ) (scale : IsScale heads' shift') (rooms : room ≡ room_of index) (filled : IsFilled (hash hash_builder) (2 ^ (64 - shift')) shift' room keys cells') where
      filled_in : IsFilled (hash hash_builder) heads' shift' (length cells - heads) keys cells'
      filled_in =
          subst (λ n. IsFilled (hash hash_builder) n shift' (length cells - heads) keys cells') (sym scale.power)
          (subst (λ n. IsFilled (hash hash_builder) (2 ^ (64 - shift')) shift' n keys cells') (rooms ∙ sym room_at) filled)

      pub grown_kept : heads' < length cells' → length cells' ≤ heads' + 4294967295 → length cells' ≤ 3 * heads' → IsKept cells' heads' shift'
      grown_kept some few narrow = record {
        table = kept (places_in cells' heads') heads' (below (length cells - heads) (homes_by (hash hash_builder) shift' keys)) filled_in.table;
        marks = marks_along cells' heads' shift' (below (length cells - heads) (homes_by (hash hash_builder) shift' keys)) (home_in (places_in cells' heads') heads')
            (λ q. sym (shown (places_in cells' heads') heads' (below (length cells - heads) (homes_by (hash hash_builder) shift' keys)) filled_in.table q)) filled_in.marks;
        scale = scale;
        some = some;
        few = few;
        narrow = narrow;
      }

      pub grown_indexes : heads' < length cells' → length cells' ≤ heads' + 4294967295 → length cells' ≤ 3 * heads' → Indexes eq hash (index_of cells' heads' shift' hash_builder) keys
      grown_indexes some few narrow = grown_index eq laws hash respects cells heads shift hash_builder keeps keys of_in cells' heads' shift' filled_in (grown_kept some few narrow)

  -- ---- more cells behind the others
  -- the heads do not become fewer where the shift does not become greater
  pub heads_on : (heads' shift' : ℕ) → heads' ≡ 2 ^ (64 - shift') → shift' ≤ shift → heads ≤ heads'
  heads_on heads' shift' scale small = omega (arith, scale, keeps.scale.power, pow_mono {i = 64 - shift} {j = 64 - shift'} (omega (arith, small)))

  module _ (more : List ℕ) (few : length (cells ++ more) ≤ heads + 4294967295) (narrow : length (cells ++ more) ≤ 3 * heads) where
    longer_in : IsTable (places_in (cells ++ more) heads) heads (home_in (places_in cells heads) heads)
    longer_in =
        subst (λ xs. IsTable xs heads (home_in (places_in cells heads) heads)) (sym (places_append cells heads more))
        (longer_table (places_in cells heads) (places_in more heads) heads (home_in (places_in cells heads) heads) keeps.table)

    longer_marked : Marks (cells ++ more) heads shift (home_in (places_in cells heads) heads)
    longer_marked = longer_marks cells more heads shift (home_in (places_in cells heads) heads) keeps.table keeps.marks

    same_bits : (q : ℕ) → longer_marked.bits q ≡ keeps.marks.bits q
    unfolding longer_marked longer_marks
    same_bits q = refl

    kept_on : IsKept (cells ++ more) heads shift
    kept_on = record {
      table = kept (places_in (cells ++ more) heads) heads (home_in (places_in cells heads) heads) longer_in;
      marks = marks_along (cells ++ more) heads shift (home_in (places_in cells heads) heads) (home_in (places_in (cells ++ more) heads) heads)
          (λ q. sym (shown (places_in (cells ++ more) heads) heads (home_in (places_in cells heads) heads) longer_in q)) longer_marked;
      scale = keeps.scale;
      some = omega (arith, keeps.some, length-append cells more);
      few = few;
      narrow = narrow;
    }

    known_on : (q : ℕ) → known_in (cells ++ more) heads shift q ≡ known_in cells heads shift q
    known_on q =
        known_is (cells ++ more) heads shift (home_in (places_in cells heads) heads) longer_in longer_marked q
        ∙ ap (λ n. option_map (λ b. b * 2 ^ (shift - 33) + n) (home_in (places_in cells heads) heads q)) (same_bits q)
        ∙ sym (known_is cells heads shift (home_in (places_in cells heads) heads) keeps.table keeps.marks q)

    module _ (cells' : List ℕ) (made : cells' ≡ cells ++ more) where
      pub longer_kept : IsKept cells' heads shift
      longer_kept = subst (λ xs. IsKept xs heads shift) (sym made) kept_on

      pub longer_indexes : {K : Type 0} (eq : K → K → Bool) (hash : S → K → ℕ) (keys : ℕ → Option K) → Indexes eq hash index keys → Indexes eq hash (index_of cells' heads shift hash_builder) keys
      longer_indexes eq hash keys of =
          let old = subst (λ i. Indexes eq hash i keys) (sym view) of in
          subst (λ xs. Indexes eq hash (index_of xs heads shift hash_builder) keys) (sym made) (record {
            known = λ q. seen (cells ++ more) heads shift kept_on q ∙ known_on q ∙ sym (seen cells heads shift keeps q) ∙ old.known q;
            once = old.once;
          })

-- ---- no place at all
module _ (cells : List ℕ) (heads : ℕ) (empty : cells ≡ replicate (length cells) 0) (some : heads < length cells) where
  table_empty : IsTable (places_in cells heads) heads (λ _. None)
  table_empty =
      subst (λ xs. IsTable xs heads (λ _. None)) (sym (ap (λ xs. places_in xs heads) empty ∙ places_none heads (length cells)))
      (empty_table (length cells) heads (omega (arith, some)))

  marks_empty : (shift : ℕ) → Marks cells heads shift (λ _. None)
  marks_empty shift = subst (λ xs. Marks xs heads shift (λ _. None)) (sym empty) (no_marks (length cells) heads shift (λ _. None))

  pub empty_kept : (shift : ℕ) → IsScale heads shift → length cells ≤ heads + 4294967295 → length cells ≤ 3 * heads → IsKept cells heads shift
  empty_kept shift scale few narrow = record {
    table = kept (places_in cells heads) heads (λ _. None) table_empty;
    marks = marks_along cells heads shift (λ _. None) (home_in (places_in cells heads) heads) (λ q. sym (shown (places_in cells heads) heads (λ _. None) table_empty q)) (marks_empty shift);
    scale = scale;
    some = some;
    few = few;
    narrow = narrow;
  }

  pub empty_shown : (shift p : ℕ) → known_in cells heads shift p ≡ None
  empty_shown shift p = known_is cells heads shift (λ _. None) table_empty (marks_empty shift) p
