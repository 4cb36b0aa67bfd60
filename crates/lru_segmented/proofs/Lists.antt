-- Lists of entries, and what has a key among them.
use Rattle.std.proofs.Common.{◌≡◌, ◌+◌, ◌≤◌, cond, not, List, [], ◌∷◌, ◌++◌, length, Some, None, refl, sym, ap, ◌∙◌, arith, true, false}
use Rattle.std.specs.Prelude.{Bool}
use Rattle.std.proofs.lemmas.List.Sums.{sum_by-cons, sum_by-append}
use Rattle.std.proofs.lemmas.List.Elements.{filter-append}
use Rattle.lru_owned_cache.specs.declared.entry.Entry.{Entry}
use Rattle.lru_owned_cache.specs.Entries.{weight_of}
use Rattle.lru_owned_cache.specs.Cache.{entry_of, without}
use Rattle.lru_segmented.specs.Segmented.{Segmented, entries, removed, with_segments}

pub by_test : (b : Bool) (P : Bool → Type 0) → (b ≡ true → P true) → (b ≡ false → P false) → P b
by_test true P hit miss = hit refl
by_test false P hit miss = miss refl

pub nil_cons : {A : Type 0} (a : A) (xs : List A) → [] ≡ a ∷ xs → ⊥
nil_cons a xs e = cc

pub some_is : {A : Type 0} (a b : A) → Some a ≡ Some b → a ≡ b
some_is a b e = cc

pub none_some : {A : Type 0} (a : A) → None ≡ Some a → ⊥
none_some a e = cc

-- what is put together of nothing is nothing
pub nil_append : {A : Type 0} (xs ys : List A) → [] ≡ xs ++ ys → (xs ≡ []) × (ys ≡ [])
nil_append [] ys e = (refl, sym e)
nil_append (x ∷ xs) ys e = absurd (nil_cons x (xs ++ ys) e)

module _ {K V : Type 0} where
  pub weight-append : (xs ys : List (Entry K V)) → weight_of (xs ++ ys) ≡ weight_of xs + weight_of ys
  weight-append xs ys = sum_by-append (λ (e : Entry K V). e.weight) xs ys

  pub weight-cons : (e : Entry K V) (es : List (Entry K V)) → weight_of (e ∷ es) ≡ e.weight + weight_of es
  weight-cons e es = sum_by-cons (λ (x : Entry K V). x.weight) e es

  module _ {Q : Type 0} (eq : K → Q → Bool) (key : Q) where
    has : (e : Entry K V) (es : List (Entry K V)) → eq e.key key ≡ true → entry_of eq (e ∷ es) key ≡ Some e
    has e es it = ap (λ b. cond b (Some e) (entry_of eq es key)) it

    pub has_not : (e : Entry K V) (es : List (Entry K V)) → eq e.key key ≡ false → entry_of eq (e ∷ es) key ≡ entry_of eq es key
    has_not e es it = ap (λ b. cond b (Some e) (entry_of eq es key)) it

    -- a key that has no entry is not that of the first, nor of the others
    absent_first : (e : Entry K V) (es : List (Entry K V)) → entry_of eq (e ∷ es) key ≡ None → eq e.key key ≡ false
    absent_first e es none = by_test (eq e.key key) (λ b. eq e.key key ≡ b → b ≡ false) (λ it f. absurd (none_some e (sym none ∙ has e es it))) (λ it f. refl) refl

    absent_rest : (e : Entry K V) (es : List (Entry K V)) → entry_of eq (e ∷ es) key ≡ None → entry_of eq es key ≡ None
    absent_rest e es none = sym (has_not e es (absent_first e es none)) ∙ none

    -- and has none in a part of them
    pub absent_front : (xs ys : List (Entry K V)) → entry_of eq (xs ++ ys) key ≡ None → entry_of eq xs key ≡ None
    absent_front [] ys none = refl
    absent_front (x ∷ xs) ys none = has_not x xs (absent_first x (xs ++ ys) none) ∙ absent_front xs ys (absent_rest x (xs ++ ys) none)

    pub absent_back : (xs ys : List (Entry K V)) → entry_of eq (xs ++ ys) key ≡ None → entry_of eq ys key ≡ None
    absent_back [] ys none = none
    absent_back (x ∷ xs) ys none = absent_back xs ys (absent_rest x (xs ++ ys) none)

    pub absent_both : (xs ys : List (Entry K V)) → entry_of eq xs key ≡ None → entry_of eq ys key ≡ None → entry_of eq (xs ++ ys) key ≡ None
    absent_both [] ys one two = two
    absent_both (x ∷ xs) ys one two = has_not x (xs ++ ys) (absent_first x xs one) ∙ absent_both xs ys (absent_rest x xs one) two

    -- the entries without its own
    pub without-append : (xs ys : List (Entry K V)) → without eq (xs ++ ys) key ≡ without eq xs key ++ without eq ys key
    without-append xs ys = filter-append (λ (e : Entry K V). not (eq e.key key)) xs ys

    without_hit : (e : Entry K V) (es : List (Entry K V)) → eq e.key key ≡ true → without eq (e ∷ es) key ≡ without eq es key
    without_hit e es it = ap (λ b. cond (not b) (e ∷ without eq es key) (without eq es key)) it

    without_miss : (e : Entry K V) (es : List (Entry K V)) → eq e.key key ≡ false → without eq (e ∷ es) key ≡ e ∷ without eq es key
    without_miss e es it = ap (λ b. cond (not b) (e ∷ without eq es key) (without eq es key)) it

    pub without_absent : (es : List (Entry K V)) → entry_of eq es key ≡ None → without eq es key ≡ es
    without_absent [] none = refl
    without_absent (e ∷ es) none = without_miss e es (absent_first e es none) ∙ ap (λ xs. e ∷ xs) (without_absent es (absent_rest e es none))

    pub without_short : (es : List (Entry K V)) → length (without eq es key) ≤ length es
    without_short [] = omega arith
    without_short (e ∷ es) =
        let rest = without_short es in
        by_test (eq e.key key) (λ b. eq e.key key ≡ b → length (without eq (e ∷ es) key) ≤ length (e ∷ es))
        (λ _ it. omega (arith, rest, ap length (without_hit e es it)))
        (λ _ it. omega (arith, rest, ap length (without_miss e es it))) refl

    -- one is fewer where it has one
    pub without_fewer : (es : List (Entry K V)) (e : Entry K V) → entry_of eq es key ≡ Some e → length (without eq es key) + 1 ≤ length es
    without_fewer [] e found = absurd (none_some e found)
    without_fewer (x ∷ xs) e found =
        by_test (eq x.key key) (λ b. eq x.key key ≡ b → length (without eq (x ∷ xs) key) + 1 ≤ length (x ∷ xs))
        (λ _ it. omega (arith, without_short xs, ap length (without_hit x xs it)))
        (λ _ it. omega (arith, without_fewer xs e (sym (has_not x xs it) ∙ found), ap length (without_miss x xs it))) refl

    -- the key has no entry among those without its own
    pub without_absent_key : (es : List (Entry K V)) → entry_of eq (without eq es key) key ≡ None
    without_absent_key [] = refl
    without_absent_key (e ∷ es) =
        let rest = without_absent_key es in
        by_test (eq e.key key) (λ b. eq e.key key ≡ b → entry_of eq (without eq (e ∷ es) key) key ≡ None)
        (λ _ it. ap (λ xs. entry_of eq xs key) (without_hit e es it) ∙ rest)
        (λ _ it. ap (λ xs. entry_of eq xs key) (without_miss e es it) ∙ has_not e (without eq es key) it ∙ rest) refl

    -- a key that has no entry leaves its cache as it is
    pub not_removed : {S : Type 0} (c : Segmented K V S) → entry_of eq (entries c) key ≡ None → removed eq c key ≡ c
    not_removed c none =
        ap (λ us. with_segments c us (without eq c.lower key)) (without_absent c.upper (absent_front c.upper c.lower none))
        ∙ ap (λ ls. with_segments c c.upper ls) (without_absent c.lower (absent_back c.upper c.lower none))
