-- The temp files of a folder are there, each once.
use Rattle.std.proofs.Common.{◌≡◌, ◌≢◌, ◌⊎◌, inl, inr, ℕ, Bool, true, false, cond, T, ◌&&◌, ◌||◌, ◌==◌, List, [], ◌∷◌, ◌++◌, length, drop, map, filter, Option, Some, None, refl, sym, ◌∙◌, ap, subst, arith, zero-add}
use Rattle.std.specs.Prelude.{All, Contains, ◌<◌, ◌^◌, not, nat_eq, if◌then◌else◌, is_some, replicate, count_by, is_none, suc, zero, ◌+◌}
use Rattle.std.specs.List.{filter_map, starts_with, list_any}
use Rattle.std.specs.Ordering.{nat_cmp, eq_by_cmp, is_lt, is_eq}
use Rattle.std.specs.declared.cmp.Ordering.TheVariants.{Equal}
use Rattle.std.specs.Cmp.{tied_itself}
use Rattle.std.specs.Cmp.Lexicographic.{slice_cmp, nat_list_cmp_total}
use Rattle.std.specs.FinMap.{get, keys, entries, entries_sorted, is_sorted, contains_key-keys}
use Rattle.std.specs.FinMap.Entries.{below_all}
use Rattle.std.specs.Str.{is_utf8}
use Rattle.std.proofs.lemmas.Bool.{true≢false}
use Rattle.std.proofs.lemmas.Bool.Decides.{Decides-eqb}
use Rattle.std.proofs.lemmas.List.Elements.{All-nil, All-cons, All-head, All-tail, All-contains}
use Rattle.std.proofs.lemmas.List.Sums.{sum_by-append}
use Rattle.std.proofs.lemmas.Slice.Eq.{starts_is}
use Rattle.lru_folder.specs.Names.{has_slash, is_temp_name, path_text, shard_path, shard_text}
use Rattle.lru_folder.specs.declared.listed.Listed.{Listed}
use Rattle.lru_folder.specs.Listings.{name_of}
use Rattle.lru_folder.specs.Files.{Files}
use Rattle.lru_folder.specs.Places.{name_in, names_in, listing}
use Rattle.lru_shard_files.specs.Cleanup.{AreThere, temp_paths, unreadable_count}
use Rattle.lru_folder.proofs.NamesLemmas.{path_text-front, path_text-injective, shard-is_temp_name}

first_true : (a b c : Bool) → (a && b && c) ≡ true → a ≡ true
first_true true b c e = refl
first_true false b c e = absurd (true≢false (sym e))

-- a name that stands in a path gives the path back
name_in-path : (dir path name : List ℕ) → name_in dir path ≡ Some name → path_text dir name ≡ path
name_in-path dir path name found =
    let front = path_text dir [] in
    let rest = drop (length front) path in
    elim (starts_with nat_eq path front && not (length rest == 0) && not (has_slash rest)) as (λ (b : Bool). (starts_with nat_eq path front && not (length rest == 0) && not (has_slash rest)) ≡ b → (if b then Some rest else None) ≡ Some name → path_text dir name ≡ path) [
      | true ↦ λ passed is.
          let starts = first_true (starts_with nat_eq path front) (not (length rest == 0)) (not (has_slash rest)) passed in
          let parts = (starts_is Decides-eqb path front (starts_with nat_eq path front) refl).0 starts in
          let name_is : rest ≡ name = cc in
          path_text-front dir name ∙ ap (λ (n : List ℕ). front ++ n) (sym name_is) ∙ sym parts
      | false ↦ λ failed is. cc
    ] refl found

abbrev cons : Option (List ℕ) → List (List ℕ) → List (List ℕ)
cons None names = names
cons (Some name) names = name ∷ names

module _ (dir file_name : List ℕ) where
  abbrev temp_of : List (List ℕ) → List (List ℕ)
  temp_of paths = map (path_text dir) (filter (is_temp_name file_name) (filter is_utf8 (filter_map (name_in dir) paths)))

  temp_cons : (path : List ℕ) (paths : List (List ℕ)) → (temp_of (path ∷ paths) ≡ temp_of paths) ⊎ (temp_of (path ∷ paths) ≡ path ∷ temp_of paths)
  temp_cons path paths =
      let names = filter_map (name_in dir) paths in
      elim (name_in dir path) as (λ (o : Option (List ℕ)). name_in dir path ≡ o → (map (path_text dir) (filter (is_temp_name file_name) (filter is_utf8 (cons o names))) ≡ temp_of paths) ⊎ (map (path_text dir) (filter (is_temp_name file_name) (filter is_utf8 (cons o names))) ≡ path ∷ temp_of paths)) [
        | None ↦ λ none. inl refl
        | Some name ↦ λ found. elim (is_utf8 name) as (λ (b : Bool). (map (path_text dir) (filter (is_temp_name file_name) (cond b (name ∷ filter is_utf8 names) (filter is_utf8 names))) ≡ temp_of paths) ⊎ (map (path_text dir) (filter (is_temp_name file_name) (cond b (name ∷ filter is_utf8 names) (filter is_utf8 names))) ≡ path ∷ temp_of paths)) [
          | false ↦ inl refl
          | true ↦ elim (is_temp_name file_name name) as (λ (b : Bool). (map (path_text dir) (cond b (name ∷ filter (is_temp_name file_name) (filter is_utf8 names)) (filter (is_temp_name file_name) (filter is_utf8 names))) ≡ temp_of paths) ⊎ (map (path_text dir) (cond b (name ∷ filter (is_temp_name file_name) (filter is_utf8 names)) (filter (is_temp_name file_name) (filter is_utf8 names))) ≡ path ∷ temp_of paths)) [
            | false ↦ inl refl
            | true ↦ inr (ap (λ p. p ∷ temp_of paths) (name_in-path dir path name found))
          ]
        ]
      ] refl

  All-temp : (P : List ℕ → Type 0) (paths : List (List ℕ)) → All P paths → All P (temp_of paths)
  All-temp P [] all = All-nil P
  All-temp P (path ∷ paths) all =
      let rest = All-temp P paths (All-tail P path paths all) in
      elim (temp_cons path paths) [
        | inl same ↦ subst (All P) (sym same) rest
        | inr more ↦ subst (All P) (sym more) (All-cons P path (temp_of paths) (All-head P path paths all) rest)
      ]

  AreThere-temp : (files : Files) (paths : List (List ℕ)) → AreThere files paths → AreThere files (temp_of paths)
  AreThere-temp files [] there = tt
  AreThere-temp files (path ∷ paths) there =
      let rest = AreThere-temp files paths there.1.1 in
      elim (temp_cons path paths) [
        | inl same ↦ subst (AreThere files) (sym same) rest
        | inr more ↦ subst (AreThere files) (sym more) (there.0, (All-temp (λ other. other ≢ path) paths there.1.0, rest))
      ]

abbrev Entry : Type 0
Entry = List ℕ × List ℕ

both_hold : (a b : Bool) → T (a && b) → T a × T b
both_hold true b h = (tt, h)
both_hold false b h = absurd h

-- a path that stands later is another
later_apart : (path other : List ℕ) → other ≡ path → T (is_lt (slice_cmp nat_cmp path other)) → ⊥
later_apart path other same less =
    let tie : slice_cmp nat_cmp path other ≡ Equal = ap (slice_cmp nat_cmp path) same ∙ tied_itself nat_list_cmp_total path in
    subst (λ o. T (is_lt o)) tie less

rising_apart : (path : List ℕ) (es : List Entry) → T (below_all (slice_cmp nat_cmp) path es) → All (λ other. other ≢ path) (map (λ (e : Entry). e.0) es)
rising_apart path [] rises = All-nil (λ other. other ≢ path)
rising_apart path (e ∷ es) rises =
    let both = both_hold (is_lt (slice_cmp nat_cmp path e.0)) (below_all (slice_cmp nat_cmp) path es) rises in
    All-cons (λ other. other ≢ path) e.0 (map (λ (e : Entry). e.0) es) (λ same. later_apart path e.0 same both.0) (rising_apart path es both.1)

either_true : (a b : Bool) → b ≡ true → (a || b) ≡ true
either_true true b e = refl
either_true false b e = e

-- the paths of a map's entries
entries_there : (files : Files) (es : List Entry) → T (is_sorted (slice_cmp nat_cmp) es)
    → ((path : List ℕ) → list_any (eq_by_cmp (slice_cmp nat_cmp) path) (map (λ (e : Entry). e.0) es) ≡ true → get files path ≢ None) → AreThere files (map (λ (e : Entry). e.0) es)
entries_there files [] sorted held = tt
entries_there files (e ∷ es) sorted held =
    let both = both_hold (below_all (slice_cmp nat_cmp) e.0 es) (is_sorted (slice_cmp nat_cmp) es) sorted in
    let paths = map (λ (e : Entry). e.0) es in
    let itself : (is_eq (slice_cmp nat_cmp e.0 e.0) || list_any (eq_by_cmp (slice_cmp nat_cmp) e.0) paths) ≡ true =
    ap (λ o. is_eq o || list_any (eq_by_cmp (slice_cmp nat_cmp) e.0) paths) (tied_itself nat_list_cmp_total e.0) in (
      held e.0 itself,
      (
        rising_apart e.0 es both.0,
        entries_there files es both.1 (λ path found. held path (either_true (eq_by_cmp (slice_cmp nat_cmp) path e.0) (list_any (eq_by_cmp (slice_cmp nat_cmp) path) paths) found)),
      ),
    )

not_none : (o : Option (List ℕ)) → is_some o ≡ true → o ≢ None
not_none None e none = true≢false (sym e)
not_none (Some x) e none = cc

pub AreThere-temp_paths : (dir file_name : List ℕ) (files : Files) → AreThere files (temp_paths dir file_name files)
AreThere-temp_paths dir file_name files = AreThere-temp dir file_name files (keys files)
    (entries_there files (entries files) (entries_sorted files) (λ path found. not_none (get files path) (contains_key-keys files path ∙ found)))

-- what was listed, name by name
readable : (names : List (List ℕ)) (n : ℕ) → filter_map (λ (o : Option (List ℕ)). o) (map Some names ++ replicate n None) ≡ names
readable [] zero = refl
readable [] (suc n) = readable [] n
readable (name ∷ names) n = ap (λ ns. name ∷ ns) (readable names n)

readable_named : (listed : List Listed) → filter_map (λ (o : Option (List ℕ)). o) (map name_of listed) ≡ filter_map name_of listed
readable_named [] = refl
readable_named (x ∷ xs) = elim (name_of x) as (λ (o : Option (List ℕ)). cons o (filter_map (λ (o : Option (List ℕ)). o) (map name_of xs)) ≡ cons o (filter_map name_of xs)) [
  | None ↦ readable_named xs
  | Some name ↦ ap (λ ns. name ∷ ns) (readable_named xs)
]

count_cons : {X : Type 0} (p : X → Bool) (x : X) (xs : List X) → count_by p (x ∷ xs) ≡ cond (p x) 1 0 + count_by p xs
count_cons p x xs = sum_by-append (λ y. cond (p y) 1 0) (x ∷ []) xs ∙ omega arith

unreadable : (names : List (List ℕ)) (n : ℕ) → count_by is_none (map Some names ++ replicate n None) ≡ n
unreadable [] zero = refl
unreadable [] (suc n) = count_cons is_none None (replicate n None) ∙ ap (λ k. 1 + k) (unreadable [] n) ∙ omega arith
unreadable (name ∷ names) n = count_cons is_none (Some name) (map Some names ++ replicate n None) ∙ zero-add (count_by is_none (map Some names ++ replicate n None)) ∙ unreadable names n

unreadable_named : (listed : List Listed) → count_by is_none (map name_of listed) ≡ count_by (λ entry. is_none (name_of entry)) listed
unreadable_named [] = refl
unreadable_named (x ∷ xs) = count_cons is_none (name_of x) (map name_of xs) ∙ ap (λ k. cond (is_none (name_of x)) 1 0 + k) (unreadable_named xs) ∙ sym (count_cons (λ entry. is_none (name_of entry)) x xs)

pub found_listed : (dir file_name : List ℕ) (files : Files) (listed : List Listed) → map name_of listed ≡ listing dir files
    → map (path_text dir) (filter (is_temp_name file_name) (filter_map name_of listed)) ≡ temp_paths dir file_name files
found_listed dir file_name files listed is =
    let names = names_in dir files in
    ap (λ ns. map (path_text dir) (filter (is_temp_name file_name) ns))
    (sym (readable_named listed) ∙ ap (filter_map (λ (o : Option (List ℕ)). o)) is ∙ readable (filter is_utf8 names) (count_by (λ name. not (is_utf8 name)) names))

pub nameless_listed : (dir : List ℕ) (files : Files) (listed : List Listed) → map name_of listed ≡ listing dir files
    → count_by (λ entry. is_none (name_of entry)) listed ≡ unreadable_count dir files
nameless_listed dir files listed is =
    let names = names_in dir files in
    sym (unreadable_named listed) ∙ ap (count_by is_none) is ∙ unreadable (filter is_utf8 names) (count_by (λ name. not (is_utf8 name)) names)

-- no shard's file is among them
module _ (dir file_name : List ℕ) (s : ℕ) (small : s < 2 ^ 64) where
  abbrev IsOther : List ℕ → Type 0
  IsOther path = path ≢ shard_path dir file_name s

  temp_name_other : (name : List ℕ) → is_temp_name file_name name ≡ true → IsOther (path_text dir name)
  temp_name_other name temp same =
      let is : name ≡ shard_text file_name s = path_text-injective dir name (shard_text file_name s) same in
      true≢false (sym temp ∙ ap (is_temp_name file_name) is ∙ shard-is_temp_name file_name file_name s small)

  temp_names_other : (names : List (List ℕ)) → All IsOther (map (path_text dir) (filter (is_temp_name file_name) names))
  temp_names_other [] = All-nil IsOther
  temp_names_other (name ∷ names) =
      let rest = filter (is_temp_name file_name) names in
      elim (is_temp_name file_name name) as (λ (b : Bool). is_temp_name file_name name ≡ b → All IsOther (map (path_text dir) (cond b (name ∷ rest) rest))) [
        | true ↦ λ temp. All-cons IsOther (path_text dir name) (map (path_text dir) rest) (temp_name_other name temp) (temp_names_other names)
        | false ↦ λ other. temp_names_other names
      ] refl

  pub shard-no_temp_path : (files : Files) → ¬ (Contains (temp_paths dir file_name files) (shard_path dir file_name s))
  shard-no_temp_path files there =
      All-contains IsOther (temp_paths dir file_name files) (shard_path dir file_name s) (temp_names_other (filter is_utf8 (names_in dir files))) there refl
