-- The files of a map, after a change of the map.
use Rattle.std.proofs.Common.{◌≡◌, inl, inr, ℕ, true, false, cond, List, [], ◌∷◌, Option, Some, None, Result, Ok, Err, is_ok, unwrap_or, ◌++◌, String, Vec, string_bytes, vec_len, refl, sym, ◌∙◌, ap}
use Rattle.std.specs.Prelude.{OnOk, OnErr}
use Rattle.std.specs.List.{AllZip}
use Rattle.lru_folder.specs.Files.{Files, appended, moved, renamed}
use Rattle.std.specs.Option.{option_map}
use Rattle.std.specs.declared.alloc.Global.{Global}
use Rattle.std.specs.Ordering.{nat_cmp, is_eq}
use Rattle.std.specs.Cmp.Lexicographic.{slice_cmp, nat_list_cmp_total}
use Rattle.std.specs.Map.{lookup, update}
use Rattle.std.specs.BTreeMap.{BTreeMap, is_at, get_by_text}
use Rattle.std.specs.Str.{bytes_eq}
use Rattle.std.proofs.lemmas.Slice.Eq.{bytes_eq-Decides}
use Rattle.std.proofs.lemmas.Bool.{false_from_ne_true}
use Rattle.std.specs.FinMap.{find, get, insert, remove, get-from_entries}
use Rattle.lru_folder.proofs.FilesLemmas.{decide, alike, get-insert_same, get-insert_other, get-remove_same, get-remove_other, insert-remove}
use Rattle.lru_memory_folder.specs.HeldInside.{entries_of, files_in}
use Rattle.lru_memory_folder.specs.MadeInside.{texts_of}

-- the bytes in the program's hand
abbrev pub items_of : Vec ℕ Global → List ℕ
items_of v = v.items

find_entries : (es : List (String Global × Vec ℕ Global)) (q : List ℕ) → find (slice_cmp nat_cmp) q (entries_of es) ≡ option_map items_of (lookup (is_at (λ k. slice_cmp nat_cmp q (string_bytes k))) es)
find_entries [] q = refl
find_entries (e ∷ es) q =
    elim (is_eq (slice_cmp nat_cmp q (string_bytes e.0))) as
    (λ b. cond b (Some e.1.items) (find (slice_cmp nat_cmp) q (entries_of es)) ≡ option_map items_of (cond b (Some e.1) (lookup (is_at (λ k. slice_cmp nat_cmp q (string_bytes k))) es)))
    [ true ↦ refl | false ↦ find_entries es q ]

-- a look-up in the map is one in its files
pub get-files_in : (m : BTreeMap (String Global) (Vec ℕ Global)) (q : List ℕ) → get (files_in m.entries) q ≡ option_map items_of (get_by_text m q)
get-files_in m q = get-from_entries nat_list_cmp_total (entries_of m.entries) q ∙ find_entries m.entries q

-- bytes that a path has already
pub insert-own : (m : Files) (path bytes : List ℕ) → get m path ≡ Some bytes → insert m path bytes ≡ m
insert-own m path bytes here = alike _ _ (λ q. elim (decide q path) [
  | inl e ↦ ap (get (insert m path bytes)) e ∙ get-insert_same m path bytes ∙ sym here ∙ sym (ap (get m) e)
  | inr ne ↦ get-insert_other m path bytes q ne
])

-- a path that is given its bytes after it was put there
pub insert-again : (m : Files) (path one two : List ℕ) → insert (insert m path one) path two ≡ insert m path two
insert-again m path one two = alike _ _ (λ q. elim (decide q path) [
  | inl e ↦ ap (get (insert (insert m path one) path two)) e ∙ get-insert_same (insert m path one) path two ∙ sym (ap (get (insert m path two)) e ∙ get-insert_same m path two)
  | inr ne ↦ get-insert_other (insert m path one) path two q ne ∙ get-insert_other m path one q ne ∙ sym (get-insert_other m path two q ne)
])

-- a path that gives its name to itself
pub renamed-own : (m : Files) (path : List ℕ) → renamed path path m ≡ m
renamed-own m path = elim (get m path) as (λ o. get m path ≡ o → moved path o path m ≡ m) [
  | None ↦ λ none. refl
  | Some bytes ↦ λ here. insert-remove m path bytes ∙ insert-own m path bytes here
] refl

-- after a change at one path
module _ (m n : BTreeMap (String Global) (Vec ℕ Global)) (path : List ℕ) (w : Option (Vec ℕ Global))
    (changed : (q : List ℕ) → get_by_text n q ≡ update bytes_eq (get_by_text m) path w q) where
  at_path : get (files_in n.entries) path ≡ option_map items_of w
  at_path =
      let hit : bytes_eq path path ≡ true = (bytes_eq-Decides path path).1 refl in
      get-files_in n path ∙ ap (option_map items_of) (changed path ∙ ap (λ b. cond b w (get_by_text m path)) hit)

  elsewhere : (q : List ℕ) → (q ≡ path → ⊥) → get (files_in n.entries) q ≡ get (files_in m.entries) q
  elsewhere q ne =
      let miss : bytes_eq path q ≡ false = false_from_ne_true _ (λ t. ne (sym ((bytes_eq-Decides path q).0 t))) in
      get-files_in n q ∙ ap (option_map items_of) (changed q ∙ ap (λ b. cond b w (get_by_text m q)) miss) ∙ sym (get-files_in m q)

pub files_in-insert : (m n : BTreeMap (String Global) (Vec ℕ Global)) (path : List ℕ) (bytes : Vec ℕ Global)
    → ((q : List ℕ) → get_by_text n q ≡ update bytes_eq (get_by_text m) path (Some bytes) q) → files_in n.entries ≡ insert (files_in m.entries) path bytes.items
files_in-insert m n path bytes changed = alike _ _ (λ q. elim (decide q path) [
  | inl e ↦ ap (get (files_in n.entries)) e ∙ at_path m n path (Some bytes) changed ∙ sym (ap (get (insert (files_in m.entries) path bytes.items)) e ∙ get-insert_same (files_in m.entries) path bytes.items)
  | inr ne ↦ elsewhere m n path (Some bytes) changed q ne ∙ sym (get-insert_other (files_in m.entries) path bytes.items q ne)
])

pub files_in-remove : (m n : BTreeMap (String Global) (Vec ℕ Global)) (path : List ℕ)
    → ((q : List ℕ) → get_by_text n q ≡ update bytes_eq (get_by_text m) path None q) → files_in n.entries ≡ remove (files_in m.entries) path
files_in-remove m n path changed = alike _ _ (λ q. elim (decide q path) [
  | inl e ↦ ap (get (files_in n.entries)) e ∙ at_path m n path None changed ∙ sym (ap (get (remove (files_in m.entries) path)) e ∙ get-remove_same (files_in m.entries) path)
  | inr ne ↦ elsewhere m n path None changed q ne ∙ sym (get-remove_other (files_in m.entries) path q ne)
])

-- at a path that is there, bytes that are put in the place of its own
module _ (m n : BTreeMap (String Global) (Vec ℕ Global)) (path : List ℕ) (old new : Vec ℕ Global) (here : Some old ≡ get_by_text m path)
    (changed : (q : List ℕ) → get_by_text n q ≡ update bytes_eq (get_by_text m) path (Some new) q) where
  held_here : get (files_in m.entries) path ≡ Some old.items
  held_here = get-files_in m path ∙ ap (option_map items_of) (sym here)

  pub extended : {T E : Type 0} (piece : List ℕ) (r : Result T E) → new.items ≡ cond (is_ok r) (old.items ++ piece) old.items
      → OnOk r (files_in n.entries ≡ appended path piece (files_in m.entries))
  extended piece (Err e) items = tt
  extended piece (Ok x) items =
      files_in-insert m n path new changed ∙ ap (λ b. insert (files_in m.entries) path b) (items ∙ ap (λ b. b ++ piece) (sym (ap (λ o. unwrap_or o []) held_here)))

  pub not_extended : {T E : Type 0} (piece : List ℕ) (r : Result T E) → new.items ≡ cond (is_ok r) (old.items ++ piece) old.items
      → OnErr r (files_in n.entries ≡ files_in m.entries)
  not_extended piece (Ok x) items = tt
  not_extended piece (Err e) items =
      files_in-insert m n path new changed ∙ ap (λ b. insert (files_in m.entries) path b) items ∙ insert-own (files_in m.entries) path old.items held_here

same_items : (xs ys : List ℕ) → AllZip (λ x y. y ≡ x) xs ys → ys ≡ xs
same_items [] [] h = refl
same_items [] (y ∷ ys) h = absurd h
same_items (x ∷ xs) [] h = absurd h
same_items (x ∷ xs) (y ∷ ys) h = λ i. h.0 i ∷ same_items xs ys h.1 i

-- a copy, entry by entry, has the same files
pub entries_of-copy : (es fs : List (String Global × Vec ℕ Global))
    → AllZip (λ p q. (string_bytes q.0 ≡ string_bytes p.0) × (AllZip (λ x y. y ≡ x) p.1.items q.1.items × (vec_len q.1 ≡ vec_len p.1))) es fs → entries_of fs ≡ entries_of es
entries_of-copy [] [] h = refl
entries_of-copy [] (f ∷ fs) h = absurd h
entries_of-copy (e ∷ es) [] h = absurd h
entries_of-copy (e ∷ es) (f ∷ fs) h = λ i. (h.0.0 i, same_items e.1.items f.1.items h.0.1.0 i) ∷ entries_of-copy es fs h.1 i

-- a copy of texts has the same texts
pub texts_of-copy : (ts us : List (Vec ℕ Global)) → AllZip (λ t u. AllZip (λ x y. y ≡ x) t.items u.items × (vec_len u ≡ vec_len t)) ts us → texts_of us ≡ texts_of ts
texts_of-copy [] [] h = refl
texts_of-copy [] (u ∷ us) h = absurd h
texts_of-copy (t ∷ ts) [] h = absurd h
texts_of-copy (t ∷ ts) (u ∷ us) h = λ i. same_items t.items u.items h.0.0 i ∷ texts_of-copy ts us h.1 i
