-- What a listing tells of the files of a map.
use Rattle.std.proofs.Common.{◌≡◌, ◌&&◌, ◌+◌, ℕ, Bool, true, false, cond, not, List, [], ◌∷◌, ◌++◌, map, filter, count_by, replicate, Some, None, String, Vec, string_bytes, refl, sym, ◌∙◌, ap, subst, zero-add}
use Rattle.std.proofs.Math.Dec.{T}
use Rattle.std.specs.declared.alloc.Global.{Global}
use Rattle.std.specs.declared.cmp.Ordering.TheVariants.{Less}
use Rattle.std.specs.Ordering.{nat_cmp, is_lt}
use Rattle.std.specs.Cmp.Lexicographic.{slice_cmp, nat_list_cmp_total}
use Rattle.std.specs.List.{AllByRecursion}
use Rattle.std.specs.List.Sorted.{IsStrictlySortedBy}
use Rattle.std.specs.Map.{keys_of}
use Rattle.std.specs.Str.{IsUtf8, is_utf8}
use Rattle.std.specs.String.{string_cmp}
use Rattle.std.proofs.lemmas.List.{append-nil}
use Rattle.std.proofs.lemmas.List.Sums.{sum_by-cons}
use Rattle.std.proofs.lemmas.Str.{IsUtf8-string_bytes, is_utf8-from_IsUtf8}
use Rattle.std.specs.FinMap.{from_sorted, keys, is_sorted, entries-from_sorted, get-from_sorted, get-from_entries}
use Rattle.lru_folder.specs.declared.listed.Listed.{Listed}
use Rattle.lru_folder.specs.declared.listed.Listed.TheVariants.{Name, Unreadable}
use Rattle.lru_folder.proofs.FilesLemmas.{alike}
use Rattle.lru_memory_folder.specs.HeldInside.{entries_of, files_in}
use Rattle.lru_folder.specs.Listings.{name_of}

both : (a b : Bool) → T a → T b → T (a && b)
both true b h k = k
both false b h k = h

first : (a b : Bool) → T (a && b) → T a
first true b h = tt
first false b h = h

second : (a b : Bool) → T (a && b) → T b
second true b h = h
second false b h = absurd h

-- a key below all others goes in front
sorted_front : (k : String Global) (w : List ℕ) (es : List (String Global × Vec ℕ Global)) → AllByRecursion (λ y. string_cmp k y ≡ Less) (keys_of es)
    → T (is_sorted (slice_cmp nat_cmp) (entries_of es)) → T (is_sorted (slice_cmp nat_cmp) ((string_bytes k, w) ∷ entries_of es))
sorted_front k w [] all rest = tt
sorted_front k w (e ∷ es) all rest =
    let under = sorted_front k w es all.1 (second _ _ rest) in
    both _ _ (both _ _ (subst (λ r. T (is_lt r)) (sym all.0) tt) (first _ _ under)) rest

keys_sorted : (es : List (String Global × Vec ℕ Global)) → IsStrictlySortedBy string_cmp (keys_of es) → T (is_sorted (slice_cmp nat_cmp) (entries_of es))
unfolding IsStrictlySortedBy
keys_sorted [] s = tt
keys_sorted (e ∷ es) s = sorted_front e.0 e.1.items es s.0 (keys_sorted es s.1)

keys_of-entries : (es : List (String Global × Vec ℕ Global)) → map (λ e. e.0) (entries_of es) ≡ map string_bytes (keys_of es)
keys_of-entries [] = refl
keys_of-entries (e ∷ es) = ap (λ l. string_bytes e.0 ∷ l) (keys_of-entries es)

-- the paths of a map in order are its keys
pub keys-files_in : (es : List (String Global × Vec ℕ Global)) → IsStrictlySortedBy string_cmp (keys_of es) → keys (files_in es) ≡ map string_bytes (keys_of es)
keys-files_in es s =
    let sorted = keys_sorted es s in
    let same : files_in es ≡ from_sorted (entries_of es) =
    alike (files_in es) (from_sorted (entries_of es)) (λ q. get-from_entries nat_list_cmp_total (entries_of es) q ∙ sym (get-from_sorted (slice_cmp nat_cmp) (entries_of es) q sorted)) in
    ap keys same ∙ ap (map (λ e. e.0)) (entries-from_sorted (slice_cmp nat_cmp) (entries_of es) sorted) ∙ keys_of-entries es

-- a name that was told can be read
readable : (l : Listed) (name : List ℕ) → name_of l ≡ Some name → is_utf8 name ≡ true
readable (Name s) name e = is_utf8-from_IsUtf8 name (subst IsUtf8 (let same : string_bytes s ≡ name = cc in same) (IsUtf8-string_bytes s))
readable Unreadable name e = absurd (let f : ⊥ = cc in f)

head_is : {A : Type 0} (x y : A) (xs ys : List A) → x ∷ xs ≡ y ∷ ys → x ≡ y
head_is x y xs ys e = cc

tail_is : {A : Type 0} (x y : A) (xs ys : List A) → x ∷ xs ≡ y ∷ ys → xs ≡ ys
tail_is x y xs ys e = cc

-- the names that were told can all be read
all_kept : (listed : List Listed) (names : List (List ℕ)) → map name_of listed ≡ map Some names → filter is_utf8 names ≡ names
all_kept listed [] e = refl
all_kept [] (n ∷ ns) e = absurd (let f : ⊥ = cc in f)
all_kept (l ∷ ls) (n ∷ ns) e =
    ap (λ b. cond b (n ∷ filter is_utf8 ns) (filter is_utf8 ns)) (readable l n (head_is (name_of l) (Some n) (map name_of ls) (map Some ns) e))
    ∙ ap (λ rest. n ∷ rest) (all_kept ls ns (tail_is (name_of l) (Some n) (map name_of ls) (map Some ns) e))

none_lost : (listed : List Listed) (names : List (List ℕ)) → map name_of listed ≡ map Some names → count_by (λ name. not (is_utf8 name)) names ≡ 0
none_lost listed [] e = refl
none_lost [] (n ∷ ns) e = absurd (let f : ⊥ = cc in f)
none_lost (l ∷ ls) (n ∷ ns) e =
    sum_by-cons (λ name. cond (not (is_utf8 name)) 1 0) n ns
    ∙ ap (λ b. cond (not b) 1 0 + count_by (λ name. not (is_utf8 name)) ns) (readable l n (head_is (name_of l) (Some n) (map name_of ls) (map Some ns) e))
    ∙ zero-add _ ∙ none_lost ls ns (tail_is (name_of l) (Some n) (map name_of ls) (map Some ns) e)

-- so they are the listing, with nothing behind them
pub all_readable : (listed : List Listed) (names : List (List ℕ)) → map name_of listed ≡ map Some names
    → map name_of listed ≡ map Some (filter is_utf8 names) ++ replicate (count_by (λ name. not (is_utf8 name)) names) None
all_readable listed names e =
    e ∙ sym ((λ i. map Some (all_kept listed names e i) ++ replicate (none_lost listed names e i) None) ∙ append-nil (map Some names))
