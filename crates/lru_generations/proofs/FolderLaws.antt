-- The files of a folder, and the names that are listed.
use Rattle.std.proofs.Common.{◌≡◌, ⊎_elim, ℕ, zero, suc, ◌^◌, ◌<◌, Bool, true, false, not, cond, ◌&&◌, ◌==◌, nat_lt, List, [], ◌∷◌, ◌++◌, length, drop, replicate, Option, Some, None, is_some, refl, sym, ◌∙◌, ap, subst, arith}
use Rattle.std.specs.Prelude.{◌↔◌, Contains, codes, count_by, filter, map, nat_eq}
use Rattle.std.specs.List.{starts_with}
use Rattle.std.specs.Str.{IsAscii, IsUtf8, is_utf8}
use Rattle.std.specs.Fmt.{decimal}
use Rattle.std.specs.FinMap.{contains_key-keys, get, keys, slice_cmp-IsAntisymmetric, nat_cmp-IsAntisymmetric}
use Rattle.std.specs.Ordering.{eq_by_cmp, is_eq, nat_cmp}
use Rattle.std.specs.declared.cmp.Ordering.{Ordering}
use Rattle.std.specs.declared.cmp.Ordering.TheVariants.{Less, Equal, Greater}
use Rattle.std.specs.Cmp.{tied_itself}
use Rattle.std.specs.Cmp.Lexicographic.{slice_cmp, nat_list_cmp_total}
use Rattle.std.proofs.lemmas.Bool.{false_from_ne_true, eqb-true}
use borrow.Author.Tests.{ltb-true}
use Rattle.std.proofs.lemmas.Bool.Decides.{Decides-eqb}
use Rattle.std.proofs.lemmas.Fmt.{IsAscii-decimal}
use Rattle.std.proofs.lemmas.List.{drop_at, length-append}
use Rattle.std.proofs.lemmas.Slice.Eq.{starts_is}
use Rattle.std.proofs.lemmas.Str.{IsAscii-append, IsUtf8-append, IsUtf8-from_ascii, is_utf8-from_IsUtf8}
use Rattle.lru_folder.specs.Files.{Files}
use Rattle.lru_folder.specs.Names.{has_slash, path_text, shard_text}
use Rattle.lru_folder.specs.Places.{listing, name_after, name_in, names_in}
use Rattle.lru_folder.proofs.NamesLemmas.{path_text-front}
use Rattle.lru_generations.specs.declared.names.PartName.{PartName}
use Rattle.lru_generations.specs.declared.names.PartName.TheVariants.{Frame, Manifest, Temp}
use Rattle.lru_generations.specs.Listing.{HasParts}
use Rattle.lru_generations.specs.Names.{IsPart, generation_of, part_text}
use Rattle.lru_generations.proofs.Members.{Among, among, among_any, among_append, among_filter, among_filter_map, among_map, among_replicate, any_among, append_among, contains, filter_among, filter_map_among, map_among}
use Rattle.lru_generations.proofs.NameLaws.{front_parts, has_slash-part_text, kind_text}

-- paths, and the keys of a map
same_path : (p q : List ℕ) → eq_by_cmp (slice_cmp nat_cmp) p q ≡ true → p ≡ q
same_path p q e = elim (slice_cmp nat_cmp p q) as (λ (r : Ordering). slice_cmp nat_cmp p q ≡ r → is_eq r ≡ true → p ≡ q) [
  | Less ↦ λ s h. let f : ⊥ = cc in absurd f
  | Equal ↦ λ s h. slice_cmp-IsAntisymmetric nat_cmp-IsAntisymmetric p q s
  | Greater ↦ λ s h. let f : ⊥ = cc in absurd f
] refl e

some_bytes : (o : Option (List ℕ)) → is_some o ≡ true → (bytes : List ℕ) × (o ≡ Some bytes)
some_bytes (Some bytes) e = (bytes, refl)
some_bytes None e = let f : ⊥ = cc in absurd f

key_there : (files : Files) (path : List ℕ) → Among (keys files) path → (bytes : List ℕ) × (get files path ≡ Some bytes)
key_there files path h =
    let tie : eq_by_cmp (slice_cmp nat_cmp) path path ≡ true = ap is_eq (tied_itself nat_list_cmp_total path) in
    some_bytes (get files path) (contains_key-keys files path ∙ any_among (eq_by_cmp (slice_cmp nat_cmp) path) (keys files) path h tie)

there_key : (files : Files) (path bytes : List ℕ) → get files path ≡ Some bytes → Among (keys files) path
there_key files path bytes h =
    let found = among_any (eq_by_cmp (slice_cmp nat_cmp) path) (keys files) (sym (contains_key-keys files path) ∙ ap is_some h) in
    subst (Among (keys files)) (sym (same_path path found.0 found.1.1)) found.1.0

-- tests
both : (a b : Bool) → (a && b) ≡ true → (a ≡ true) × (b ≡ true)
both true b e = (refl, e)
both false b e = let f : ⊥ = cc in absurd f

all_three : (a b c : Bool) → a ≡ true → b ≡ true → c ≡ true → (a && b && c) ≡ true
all_three a b c p q r = cc

chosen : (t : Bool) (name text : List ℕ) → cond t (Some name) None ≡ Some text → (t ≡ true) × (name ≡ text)
chosen true name text e = (refl, cc)
chosen false name text e = let f : ⊥ = cc in absurd f

-- the name of a path
module _ (front text : List ℕ) where
  name_read : (path : List ℕ) → name_after front path ≡ Some text → path ≡ front ++ text
  name_read path h =
      let name = drop (length front) path in
      let one = chosen (starts_with nat_eq path front && not (length name == 0) && not (has_slash name)) name text h in
      let tests = both (starts_with nat_eq path front && not (length name == 0)) (not (has_slash name)) one.0 in
      let starts = (both (starts_with nat_eq path front) (not (length name == 0)) tests.0).0 in
      (starts_is Decides-eqb path front _ refl).0 starts ∙ ap (λ (l : List ℕ). front ++ l) one.1

  name_told : 0 < length text → has_slash text ≡ false → name_after front (front ++ text) ≡ Some text
  name_told some none =
      let name = drop (length front) (front ++ text) in
      let is : name ≡ text = drop_at front text (length front) refl in
      let starts : starts_with nat_eq (front ++ text) front ≡ true = (starts_is Decides-eqb (front ++ text) front _ refl).1 text refl in
      let not_empty : not (length text == 0) ≡ true = ap not (false_from_ne_true (length text == 0) (λ e. absurd (omega (arith, eqb-true (length text) 0 e)))) in
      let tests : (starts_with nat_eq (front ++ text) front && not (length name == 0) && not (has_slash name)) ≡ true =
      all_three (starts_with nat_eq (front ++ text) front) (not (length name == 0)) (not (has_slash name)) starts
      (ap (λ (l : List ℕ). not (length l == 0)) is ∙ not_empty) (ap (λ (l : List ℕ). not (has_slash l)) is ∙ ap not none) in
      ap (λ t. cond t (Some name) None) tests ∙ ap Some is

module _ (dir text : List ℕ) (files : Files) where
  abbrev Readable : List (Option (List ℕ))
  Readable = map Some (filter is_utf8 (names_in dir files))

  abbrev Unread : List (Option (List ℕ))
  Unread = replicate (count_by (λ name. not (is_utf8 name)) (names_in dir files)) None

  read_file : Among Readable (Some text) → (bytes : List ℕ) × (get files (path_text dir text) ≡ Some bytes)
  read_file h =
      let found = among_map Some (filter is_utf8 (names_in dir files)) (Some text) h in
      let same : found.0 ≡ text = let e = found.1.1 in cc in
      let kept = among_filter is_utf8 (names_in dir files) found.0 found.1.0 in
      let path = among_filter_map (name_in dir) (keys files) found.0 kept.0 in
      let is = name_read (path_text dir []) text path.0 (path.1.1 ∙ ap Some same) ∙ sym (path_text-front dir text) in
      let file = key_there files path.0 path.1.0 in
      (file.0, ap (get files) (sym is) ∙ file.1)

  -- a name that is listed has a file,
  pub listed_file : Contains (listing dir files) (Some text) → (bytes : List ℕ) × (get files (path_text dir text) ≡ Some bytes)
  listed_file h = ⊎_elim read_file (λ none. let f : ⊥ = let e = among_replicate (count_by (λ name. not (is_utf8 name)) (names_in dir files)) None (Some text) none in cc in absurd f)
      (among_append Readable Unread (Some text) (among (listing dir files) (Some text) h))

  -- and a file whose name is text is listed
  pub file_listed : 0 < length text → has_slash text ≡ false → is_utf8 text ≡ true → (bytes : List ℕ) → get files (path_text dir text) ≡ Some bytes → Contains (listing dir files) (Some text)
  file_listed some none utf8 bytes h =
      let key = there_key files (path_text dir text) bytes h in
      let name = ap (name_in dir) (path_text-front dir text) ∙ name_told (path_text dir []) text some none in
      let named = filter_map_among (name_in dir) (keys files) (path_text dir text) text key name in
      let readable = map_among Some (filter is_utf8 (names_in dir files)) text (filter_among is_utf8 (names_in dir files) text named utf8) in
      contains (listing dir files) (Some text) (append_among Readable Unread (Some text) readable)

-- the text of a part
small_bytes : List ℕ → Bool
small_bytes [] = true
small_bytes (c ∷ cs) = nat_lt c 128 && small_bytes cs

ascii : (bytes : List ℕ) → small_bytes bytes ≡ true → IsAscii bytes
unfolding small_bytes
ascii [] e i = omega arith
ascii (c ∷ cs) e zero = let tests = both (nat_lt c 128) (small_bytes cs) e in omega (arith, ltb-true c 128 tests.0)
ascii (c ∷ cs) e (suc i) = let tests = both (nat_lt c 128) (small_bytes cs) e in ascii cs tests.1 i

utf8_more : (front back : List ℕ) → IsUtf8 front → small_bytes back ≡ true → IsUtf8 (front ++ back)
utf8_more front back text small = IsUtf8-append front back text (IsUtf8-from_ascii back (ascii back small))

utf8_shard : (file_name : List ℕ) (n : ℕ) → IsUtf8 file_name → n < 2 ^ 64 → IsUtf8 (shard_text file_name n)
unfolding small_bytes
utf8_shard file_name n text small =
    IsUtf8-append file_name (codes "." ++ decimal n) text (IsUtf8-from_ascii (codes "." ++ decimal n) (IsAscii-append (codes ".") (decimal n) (ascii (codes ".") refl) (IsAscii-decimal n small)))

utf8_part : (file_name : List ℕ) (part : PartName) → IsUtf8 file_name → IsPart part → IsUtf8 (part_text file_name part)
unfolding small_bytes
utf8_part file_name (Frame generation shard) text is = utf8_shard (shard_text file_name generation) shard (utf8_shard file_name generation text is.0) is.1
utf8_part file_name (Manifest generation) text is = utf8_more (shard_text file_name generation) (codes ".manifest") (utf8_shard file_name generation text is) refl
utf8_part file_name (Temp generation) text is = utf8_more (shard_text file_name generation) (codes ".manifest.tmp") (utf8_shard file_name generation text is) refl

some_text : (file_name : List ℕ) (part : PartName) → 0 < length (part_text file_name part)
some_text file_name part =
    let rest = decimal (generation_of part) ++ 46 ∷ kind_text part in
    omega (arith, ap length (front_parts file_name part), length-append file_name (46 ∷ rest))

-- the parts whose names are listed
pub has_parts : (dir file_name : List ℕ) (files : Files) (names : List (Option (List ℕ))) (parts : List PartName) → has_slash file_name ≡ false → IsUtf8 file_name → names ≡ listing dir files
    → ((part : PartName) → Contains parts part ↔ (IsPart part × Contains names (Some (part_text file_name part)))) → HasParts dir file_name files parts
has_parts dir file_name files names parts none text is listed = record {
  fits = λ part h. ((listed part).0 h).0;
  there = λ part fits. (
    λ h. listed_file dir (part_text file_name part) files (subst (λ (l : List (Option (List ℕ))). Contains l (Some (part_text file_name part))) is ((listed part).0 h).1),
    λ h. (listed part).1 (
      fits,
      subst (λ (l : List (Option (List ℕ))). Contains l (Some (part_text file_name part))) (sym is)
          (file_listed dir (part_text file_name part) files (some_text file_name part) (has_slash-part_text file_name part fits ∙ none)
          (is_utf8-from_IsUtf8 (part_text file_name part) (utf8_part file_name part text fits)) h.0 h.1),
    ),
  );
}
