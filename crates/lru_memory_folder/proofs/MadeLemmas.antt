-- The folders of a list, and texts with slashes.
use Rattle.std.proofs.Common.{◌≡◌, ◌≢◌, ◌⊎◌, inl, inr, ⊎_elim, ℕ, zero, suc, ◌+◌, ◌-◌, ◌<◌, nat_eq, ◌==◌, ◌||◌, ◌&&◌, Bool, true, false, not, cond, List, [], ◌∷◌, ◌++◌, length, take, drop, get_or, Some, None, Vec, refl, sym, ◌∙◌, ap, subst, arith}
use Rattle.std.specs.declared.alloc.Global.{Global}
use Rattle.std.specs.List.{list_any, starts_with, suffix_len}
use Rattle.std.proofs.lemmas.List.{take-append-drop, length-append}
use Rattle.std.proofs.lemmas.List.Sums.{suffix_len_is}
use Rattle.std.proofs.Math.Seq.{take-append_seam, get_or-append_seam, drop-cons}
use Rattle.std.specs.Str.{bytes_eq}
use Rattle.std.specs.Ordering.{nat_cmp, eq_by_cmp, is_eq}
use Rattle.std.specs.Cmp.Lexicographic.{slice_cmp, nat_list_cmp_total}
use Rattle.std.specs.FinSet.{contains, insert, from_list, contains-from_list, contains-insert, same_set, from_list_push, slice_cmp-IsAntisymmetric, nat_cmp-IsAntisymmetric}
use Rattle.std.proofs.lemmas.Bool.{cases_Bool, cases_eq, eqb-true, eq-eqb, false_from_ne_true}
use Rattle.std.proofs.lemmas.Slice.Eq.{bytes_eq-Decides, starts_is}
use Rattle.std.proofs.lemmas.Bool.Decides.{Decides-eqb}
use Rattle.std.proofs.lemmas.Map.Text.{is_eq-slice_cmp}
use Rattle.lru_folder.specs.Names.{has_slash}
use Rattle.lru_folder.specs.Places.{Folders, folder_of, name_after, without_last_slash, IsOneOf, MakesAll, MakesSome}
use Rattle.lru_memory_folder.specs.MadeInside.{texts_of, folders_in}

-- two texts are the same either way round
bytes_eq-swap : (a b : List ℕ) → bytes_eq a b ≡ bytes_eq b a
bytes_eq-swap a b = elim (cases_Bool (bytes_eq a b)) [
  | inl e ↦ e ∙ sym ((bytes_eq-Decides b a).1 (sym ((bytes_eq-Decides a b).0 e)))
  | inr e ↦ e ∙ sym (false_from_ne_true (bytes_eq b a) (λ t. let hit = (bytes_eq-Decides a b).1 (sym ((bytes_eq-Decides b a).0 t)) in cc))
]

list_any-texts : (made : List (Vec ℕ Global)) (text : List ℕ) → list_any (λ f. bytes_eq f.items text) made ≡ list_any (eq_by_cmp (slice_cmp nat_cmp) text) (texts_of made)
list_any-texts [] text = refl
list_any-texts (f ∷ fs) text = λ i. (bytes_eq-swap f.items text ∙ sym (is_eq-slice_cmp text f.items)) i || list_any-texts fs text i

-- a scan of the list finds the folders that the set has
pub has_is : (made : List (Vec ℕ Global)) (text : List ℕ) → list_any (λ f. bytes_eq f.items text) made ≡ contains (folders_in made) text
has_is made text = list_any-texts made text ∙ sym (contains-from_list nat_list_cmp_total (texts_of made) text)

texts_of-push : (made : List (Vec ℕ Global)) (text : Vec ℕ Global) → texts_of (made ++ text ∷ []) ≡ texts_of made ++ text.items ∷ []
texts_of-push [] text = refl
texts_of-push (f ∷ fs) text = ap (λ l. f.items ∷ l) (texts_of-push fs text)

pub folders_in-push : (made : List (Vec ℕ Global)) (text : Vec ℕ Global) → folders_in (made ++ text ∷ []) ≡ insert (folders_in made) text.items
folders_in-push made text = ap from_list (texts_of-push made text) ∙ from_list_push nat_list_cmp_total (slice_cmp-IsAntisymmetric nat_cmp-IsAntisymmetric) (texts_of made) text.items

same_or : (b c : Bool) → (b ≡ true → c ≡ true) → c ≡ (b || c)
same_or true c h = h refl
same_or false c h = refl

-- what is there stays as it is
pub insert-has : (s : Folders) (text : List ℕ) → contains s text ≡ true → s ≡ insert s text
insert-has s text has = same_set nat_list_cmp_total (slice_cmp-IsAntisymmetric nat_cmp-IsAntisymmetric) s (insert s text)
    (λ q. same_or (is_eq (slice_cmp nat_cmp q text)) (contains s q)
    (λ t. ap (contains s) ((bytes_eq-Decides q text).0 (sym (is_eq-slice_cmp q text) ∙ t)) ∙ has) ∙ sym (contains-insert nat_list_cmp_total s text q))

-- a text has a slash just where one of its bytes is one
slash_at : (text : List ℕ) → has_slash text ≡ true → (k : ℕ) × (k < length text) × (get_or text k 0 ≡ 47)
slash_at [] e = absurd (let f : ⊥ = cc in f)
slash_at (x ∷ xs) e = elim (cases_Bool (x == 47)) [
  | inl hit ↦ (0, omega arith, eqb-true x 47 hit)
  | inr miss ↦ let later = slash_at xs (ap (λ b. b || has_slash xs) (sym miss) ∙ e) in (suc later.0, omega (arith, later.1), later.2)
]

or_true : (a b : Bool) → b ≡ true → (a || b) ≡ true
or_true true b e = refl
or_true false b e = e

pub has_slash_from : (text : List ℕ) (k : ℕ) → k < length text → get_or text k 0 ≡ 47 → has_slash text ≡ true
has_slash_from [] k lt e = absurd (omega arith)
has_slash_from (x ∷ xs) zero lt e = ap (λ b. b || has_slash xs) (eq-eqb x 47 e)
has_slash_from (x ∷ xs) (suc k) lt e = or_true (x == 47) (has_slash xs) (has_slash_from xs k (omega arith) e)

-- what `contains` answers of a slash
pub contains_slash : (text : List ℕ) (r : Bool) → (r ≡ true → (k : ℕ) × (k < length text) × (get_or text k 0 ≡ 47))
    → ((k : ℕ) → k < length text → get_or text k 0 ≡ 47 → r ≡ true) → r ≡ has_slash text
contains_slash text r finds found = elim (cases_Bool r) [
  | inl e ↦ let at = finds e in e ∙ sym (has_slash_from text at.0 at.1 at.2)
  | inr e ↦ e ∙ sym (false_from_ne_true (has_slash text) (λ t. let at = slash_at text t in let hit = found at.0 at.1 at.2 in cc))
]

not_slash : (x : ℕ) → x ≢ 47 → not (x == 47) ≡ true
not_slash x ne = ap not (false_from_ne_true (x == 47) (λ t. ne (eqb-true x 47 t)))

-- the folder of a path is cut at its last slash
pub folder_of-at : (path : List ℕ) (at : ℕ) → at < length path → get_or path at 0 ≡ 47 → ((i : ℕ) → at < i → i < length path → get_or path i 0 ≢ 47) → take at path ≡ folder_of path
folder_of-at path at lt slash others =
    let n = suffix_len (λ x. not (x == 47)) path in
    let all : n ≡ length path - (at + 1) =
    suffix_len_is (λ x. not (x == 47)) path (at + 1) 0 (omega arith) (λ k low below. not_slash (get_or path k 0) (others k (omega arith) below))
    (λ pos. let place : at + 1 - 1 ≡ at = omega arith in ap (λ j. not (get_or path j 0 == 47)) place ∙ ap (λ x. not (x == 47)) slash) in
    let cut : length path - n - 1 ≡ at = omega arith in
    ap (λ k. take k path) (sym cut)

pub folder_of-none : (path : List ℕ) → ((i : ℕ) → i < length path → get_or path i 0 ≢ 47) → [] ≡ folder_of path
folder_of-none path others =
    let n = suffix_len (λ x. not (x == 47)) path in
    let all : n ≡ length path - 0 = suffix_len_is (λ x. not (x == 47)) path 0 0 (omega arith) (λ k low below. not_slash (get_or path k 0) (others k below)) (λ pos. absurd (omega arith)) in
    let cut : length path - n - 1 ≡ 0 = omega arith in
    ap (λ k. take k path) (sym cut)

and_rest : (a b c : Bool) → a ≡ true → (b && c) ≡ true → (a && b && c) ≡ true
and_rest true true true e f = refl
and_rest true true false e f = f
and_rest true false c e f = f
and_rest false b c e f = e

-- the name behind a front that the path has
pub name_after-some : (front path name : List ℕ) (n : ℕ) → n ≡ length front → path ≡ front ++ drop n path → name ≡ drop n path
    → (not (length name == 0) && not (has_slash name)) ≡ true → name_after front path ≡ Some name
name_after-some front path name n count starts is passes =
    let name_is : drop (length front) path ≡ name = ap (λ k. drop k path) (sym count) ∙ sym is in
    let hit = (starts_is Decides-eqb path front _ refl).1 (drop n path) starts in
    ap (λ (l : List ℕ). cond (starts_with nat_eq path front && not (length l == 0) && not (has_slash l)) (Some l) None) name_is
    ∙ ap (λ b. cond b (Some name) None) (and_rest (starts_with nat_eq path front) (not (length name == 0)) (not (has_slash name)) hit passes)

-- and none behind another front
pub name_after-none : (front path : List ℕ) → ((rest : List ℕ) → path ≢ front ++ rest) → name_after front path ≡ None
name_after-none front path other =
    let name = drop (length front) path in
    let miss = false_from_ne_true (starts_with nat_eq path front) (λ t. other name ((starts_is Decides-eqb path front _ refl).0 t)) in
    ap (λ b. cond (b && not (length name == 0) && not (has_slash name)) (Some name) None) miss

-- of three tests the third decides
pub by_third : (a b c r : Bool) → a ≡ false → b ≡ false → r ≡ c → r ≡ (a || b || c)
by_third true b c r e f g = absurd (let f : ⊥ = cc in f)
by_third false true c r e f g = absurd (let f : ⊥ = cc in f)
by_third false false c r e f g = g

insert_stays : (s : Folders) (text d : List ℕ) → contains s d ≡ true → contains (insert s text) d ≡ true
insert_stays s text d has = contains-insert nat_list_cmp_total s text d ∙ or_true (is_eq (slice_cmp nat_cmp d text)) (contains s d) has

pub insert_itself : (s : Folders) (text : List ℕ) → contains (insert s text) text ≡ true
insert_itself s text = contains-insert nat_list_cmp_total s text text ∙ ap (λ b. b || contains s text) (is_eq-slice_cmp text text ∙ (bytes_eq-Decides text text).1 refl)

insert_only : (s : Folders) (text d : List ℕ) → contains (insert s text) d ≡ true → (contains s d ≡ true) ⊎ (d ≡ text)
insert_only s text d has = elim (cases_Bool (is_eq (slice_cmp nat_cmp d text))) [
  | inl hit ↦ inr ((bytes_eq-Decides d text).0 (sym (is_eq-slice_cmp d text) ∙ hit))
  | inr miss ↦ inl (ap (λ b. b || contains s d) (sym miss) ∙ sym (contains-insert nat_list_cmp_total s text d) ∙ has)
]

-- nothing made yet
pub makes_none : (dir : List ℕ) (s : Folders) → MakesSome dir s s
makes_none dir s = record { stays = λ d has. has; only = λ d has. inl has }

-- one folder more
pub makes_one : (dir text : List ℕ) (old mid new : Folders) → MakesSome dir old mid → IsOneOf dir text → new ≡ insert mid text → MakesSome dir old new
makes_one dir text old mid new some one is = record {
  stays = λ d has. ap (λ (s : Folders). contains s d) is ∙ insert_stays mid text d (some.stays d has);
  only = λ d has. ⊎_elim (λ was. some.only d was) (λ e. inr (subst (IsOneOf dir) (sym e) one)) (insert_only mid text d (sym (ap (λ (s : Folders). contains s d) is) ∙ has));
}

-- each text before a slash was made
abbrev pub MadeBelow : List ℕ → ℕ → Folders → Type 0
MadeBelow text n s = (k : ℕ) → k < n → get_or text k 0 ≡ 47 → contains s (take k text) ≡ true

pub below_same : (text : List ℕ) (n : ℕ) (s : Folders) → get_or text n 0 ≢ 47 → MadeBelow text n s → MadeBelow text (n + 1) s
below_same text n s other made k lt slash = elim (cases_eq k n) [
  | inl e ↦ absurd (other (ap (λ j. get_or text j 0) (sym e) ∙ slash))
  | inr ne ↦ made k (omega arith) slash
]

pub below_one : (text : List ℕ) (n : ℕ) (s new : Folders) → new ≡ insert s (take n text) → MadeBelow text n s → MadeBelow text (n + 1) new
below_one text n s new is made k lt slash = elim (cases_eq k n) [
  | inl e ↦ ap (contains new) (ap (λ j. take j text) e) ∙ ap (λ (f : Folders). contains f (take n text)) is ∙ insert_itself s (take n text)
  | inr ne ↦ ap (λ (f : Folders). contains f (take k text)) is ∙ insert_stays s (take n text) (take k text) (made k (omega arith) slash)
]

-- the text before a slash is a parent
pub is_parent : (dir text : List ℕ) (n : ℕ) → text ≡ without_last_slash dir → n < length text → get_or text n 0 ≡ 47 → IsOneOf dir (take n text)
is_parent dir text n is lt slash = inr (drop (suc n) text, sym is ∙ sym (take-append-drop n text) ∙ ap (λ l. take n text ++ l) (drop-cons text n 0 lt ∙ ap (λ x. x ∷ drop (suc n) text) slash))

-- all were made
pub makes_all : (dir text : List ℕ) (old mid new : Folders) → text ≡ without_last_slash dir → MakesSome dir old mid → MadeBelow text (length text) mid → new ≡ insert mid text → MakesAll dir old new
makes_all dir text old mid new is some made added d =
    let end = makes_one dir text old mid new some (inl is) added in
    (end.only d, λ h. ⊎_elim (λ was. end.stays d was) (λ one. has d one) h)
  where
    has : (d : List ℕ) → IsOneOf dir d → contains new d ≡ true
    has d (inl e) = ap (contains new) (e ∙ sym is) ∙ ap (λ (s : Folders). contains s text) added ∙ insert_itself mid text
    has d (inr h) =
        let whole : text ≡ d ++ 47 ∷ h.0 = is ∙ h.1 in
        let front : take (length d) text ≡ d = ap (take (length d)) whole ∙ take-append_seam d (47 ∷ h.0) in
        let slash : get_or text (length d) 0 ≡ 47 = ap (λ l. get_or l (length d) 0) whole ∙ get_or-append_seam d 47 h.0 0 in
        let within : length d < length text = omega (arith, ap length whole, length-append d (47 ∷ h.0)) in
        ap (contains new) (sym front) ∙ ap (λ (s : Folders). contains s (take (length d) text)) added ∙ insert_stays mid text (take (length d) text) (made (length d) within slash)
