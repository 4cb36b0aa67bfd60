-- After a folder was made, the folder of each path in it is there.
use Rattle.std.proofs.Common.{◌≡◌, ◌≢◌, ◌⊎◌, inl, inr, ℕ, zero, suc, ◌+◌, ◌-◌, ◌<◌, ◌≤◌, ◌==◌, ◌||◌, ◌&&◌, Bool, true, false, not, cond, nat_lt, List, [], ◌∷◌, ◌++◌, length, take, get_or, codes, refl, sym, ◌∙◌, ap, subst, arith}
use Rattle.std.specs.Str.{bytes_eq}
use Rattle.std.specs.List.{suffix_len}
use Rattle.std.specs.FinSet.{contains}
use Rattle.std.proofs.lemmas.Bool.{eqb-true, eq-eqb, lt-ltb, false_from_ne_true, cases_eq}
use Rattle.std.proofs.lemmas.List.{append_assoc, length-append, get_or-append-add}
use Rattle.std.proofs.Math.Seq.{take-append_seam, get_or-append_seam}
use Rattle.std.proofs.lemmas.List.Sums.{suffix_len_is}
use Rattle.lru_folder.specs.Names.{has_slash, is_closed, path_text}
use Rattle.lru_folder.specs.Places.{Folders, without_last_slash, is_there, folder_of, MakesAll}

-- a list is empty or ends in an element
abbrev Ends : List ℕ → Type 0
Ends xs = (xs ≡ []) ⊎ ((front : List ℕ) × (c : ℕ) × (xs ≡ front ++ c ∷ []))

ends : (xs : List ℕ) → Ends xs
ends [] = inl refl
ends (x ∷ xs) = elim (ends xs) [
  | inl none ↦ inr ([], x, ap (λ l. x ∷ l) none)
  | inr h ↦ inr (x ∷ h.0, h.1, ap (λ l. x ∷ l) h.2)
]

-- of two tests, where the first is false
or_first : (a b : Bool) → a ≡ true → (a || b) ≡ true
or_first a b e = ap (λ x. x || b) e

or_last : (a b : Bool) → b ≡ true → (a || b) ≡ true
or_last true b e = refl
or_last false b e = e

or_neither : (a b : Bool) → a ≡ false → b ≡ false → (a || b) ≡ false
or_neither true b e f = e
or_neither false b e f = f

left_false : (a b : Bool) → (a || b) ≡ false → a ≡ false
left_false true b e = e
left_false false b e = refl

right_false : (a b : Bool) → (a || b) ≡ false → b ≡ false
right_false true b e = absurd (let f : ⊥ = cc in f)
right_false false b e = e

and_both : (a b : Bool) → a ≡ true → b ≡ true → (a && b) ≡ true
and_both a b e f = cc

and_last : (a b : Bool) → b ≡ false → (a && b) ≡ false
and_last true b e = e
and_last false b e = refl

length-last : (front : List ℕ) (c : ℕ) → length (front ++ c ∷ []) ≡ length front + 1
length-last front c = length-append front (c ∷ [])

last_is : (front : List ℕ) (c : ℕ) → get_or (front ++ c ∷ []) (length (front ++ c ∷ []) - 1) 0 ≡ c
last_is front c =
    let at : length (front ++ c ∷ []) - 1 ≡ length front = omega (arith, length-last front c) in
    ap (λ k. get_or (front ++ c ∷ []) k 0) at ∙ get_or-append_seam front c [] 0

is_closed-last : (front : List ℕ) (c : ℕ) → c ≡ 47 → is_closed (front ++ c ∷ []) ≡ true
is_closed-last front c e = or_last (length (front ++ c ∷ []) == 0) (get_or (front ++ c ∷ []) (length (front ++ c ∷ []) - 1) 0 == 47) (eq-eqb _ 47 (last_is front c ∙ e))

not_closed-last : (front : List ℕ) (c : ℕ) → c ≢ 47 → is_closed (front ++ c ∷ []) ≡ false
not_closed-last front c ne =
    let some : (length (front ++ c ∷ []) == 0) ≡ false = false_from_ne_true _ (λ t. absurd (omega (arith, eqb-true (length (front ++ c ∷ [])) 0 t, length-last front c))) in
    let other : (get_or (front ++ c ∷ []) (length (front ++ c ∷ []) - 1) 0 == 47) ≡ false = false_from_ne_true _ (λ t. ne (sym (last_is front c) ∙ eqb-true _ 47 t)) in
    or_neither _ _ some other

without_last_slash-slash : (b : ℕ) (bs : List ℕ) (c : ℕ) → c ≡ 47 → without_last_slash ((b ∷ bs) ++ c ∷ []) ≡ b ∷ bs
without_last_slash-slash b bs c slash =
    let xs = (b ∷ bs) ++ c ∷ [] in
    let long : (nat_lt 1 (length xs)) ≡ true = lt-ltb 1 (length xs) (omega (arith, length-last (b ∷ bs) c)) in
    let count : length xs - 1 ≡ length (b ∷ bs) = omega (arith, length-last (b ∷ bs) c) in
    ap (λ t. cond t (take (length xs - 1) xs) xs) (and_both _ _ long (is_closed-last (b ∷ bs) c slash))
    ∙ ap (λ n. take n xs) count ∙ take-append_seam (b ∷ bs) (c ∷ [])

without_last_slash-other : (front : List ℕ) (c : ℕ) → c ≢ 47 → without_last_slash (front ++ c ∷ []) ≡ front ++ c ∷ []
without_last_slash-other front c ne =
    let xs = front ++ c ∷ [] in
    ap (λ t. cond t (take (length xs - 1) xs) xs) (and_last (nat_lt 1 (length xs)) _ (not_closed-last front c ne))

-- a folder's text stays, or loses the slash at its end
taken_cases : (dir : List ℕ) → (without_last_slash dir ≡ dir) ⊎ ((front : List ℕ) × (dir ≡ front ++ 47 ∷ []) × (without_last_slash dir ≡ front))
taken_cases dir = elim (ends dir) [
  | inl none ↦ inl (ap without_last_slash none ∙ sym none)
  | inr h ↦
      let front = h.0 in
      let c = h.1 in
      elim (cases_eq c 47) [
        | inl slash ↦ elim front as (λ f. dir ≡ f ++ c ∷ [] → (without_last_slash dir ≡ dir) ⊎ ((front : List ℕ) × (dir ≡ front ++ 47 ∷ []) × (without_last_slash dir ≡ front))) [
          | [] ↦ λ e. inl (ap without_last_slash e ∙ sym e)
          | (b ∷ bs) ↦ λ e. inr (b ∷ bs, e ∙ ap (λ x. (b ∷ bs) ++ x ∷ []) slash, ap without_last_slash e ∙ without_last_slash-slash b bs c slash)
        ] h.2
        | inr ne ↦ inl (ap without_last_slash h.2 ∙ without_last_slash-other front c ne ∙ sym h.2)
      ]
]

-- a folder is there where its text, without the slash at its end, was made
there_from : (new : Folders) (d : List ℕ) → contains new (without_last_slash d) ≡ true → is_there new d ≡ true
there_from new d has = or_last (length (without_last_slash d) == 0 || bytes_eq (without_last_slash d) (codes "/")) (contains new (without_last_slash d)) has

-- a folder that was made is there,
made_is_there : (dir : List ℕ) (old new : Folders) → MakesAll dir old new → is_there new dir ≡ true
made_is_there dir old new made = there_from new dir ((made (without_last_slash dir)).1 (inr (inl refl)))

-- and so it is without the slash at its end
front_is_there : (dir front : List ℕ) (old new : Folders) → MakesAll dir old new → dir ≡ front ++ 47 ∷ [] → is_there new front ≡ true
front_is_there dir [] old new made is = refl
front_is_there dir (b ∷ bs) old new made is =
    let own : without_last_slash dir ≡ b ∷ bs = ap without_last_slash is ∙ without_last_slash-slash b bs 47 refl in
    there_from new (b ∷ bs) (elim (taken_cases (b ∷ bs)) [
      | inl same ↦ (made (without_last_slash (b ∷ bs))).1 (inr (inl (same ∙ sym own)))
      | inr h ↦ (made (without_last_slash (b ∷ bs))).1 (inr (inr ([], own ∙ h.1 ∙ ap (λ l. l ++ 47 ∷ []) (sym h.2))))
    ])

-- a name without a slash has none anywhere
no_slash_at : (name : List ℕ) → has_slash name ≡ false → (k : ℕ) → k < length name → not (get_or name k 0 == 47) ≡ true
no_slash_at [] none k lt = absurd (omega arith)
no_slash_at (x ∷ xs) none zero lt = ap not (left_false (x == 47) (has_slash xs) none)
no_slash_at (x ∷ xs) none (suc k) lt = no_slash_at xs (right_false (x == 47) (has_slash xs) none) k (omega arith)

folder_of-name : (name : List ℕ) → has_slash name ≡ false → folder_of name ≡ []
folder_of-name name none =
    let n = suffix_len (λ x. not (x == 47)) name in
    let all : n ≡ length name - 0 = suffix_len_is (λ x. not (x == 47)) name 0 0 (omega arith) (λ k low lt. no_slash_at name none k lt) (λ pos. absurd (omega arith)) in
    let nothing : length name - n - 1 ≡ 0 = omega arith in
    ap (λ k. take k name) nothing

folder_of-path : (front name : List ℕ) → has_slash name ≡ false → folder_of (front ++ 47 ∷ name) ≡ front
folder_of-path front name none =
    let xs = front ++ 47 ∷ name in
    let long : length xs ≡ length front + (length name + 1) = omega (arith, length-append front (47 ∷ name)) in
    let n = suffix_len (λ x. not (x == 47)) xs in
    let all : n ≡ length xs - (length front + 1) =
    suffix_len_is (λ x. not (x == 47)) xs (length front + 1) 0 (omega arith)
    (λ k low lt. subst (λ y. not (y == 47) ≡ true) (sym (behind front name k low)) (no_slash_at name none (k - (length front + 1)) (omega arith)))
    (λ pos. subst (λ y. not (y == 47) ≡ false) (sym (at_slash front name)) refl) in
    let nothing : length xs - n - 1 ≡ length front = omega arith in
    ap (λ k. take k xs) nothing ∙ take-append_seam front (47 ∷ name)
  where
    behind : (front name : List ℕ) (k : ℕ) → length front + 1 ≤ k → get_or (front ++ 47 ∷ name) k 0 ≡ get_or name (k - (length front + 1)) 0
    behind front name k low =
        let at : k ≡ length front + suc (k - (length front + 1)) = omega arith in
        ap (λ j. get_or (front ++ 47 ∷ name) j 0) at ∙ get_or-append-add front (47 ∷ name) (suc (k - (length front + 1))) 0

    at_slash : (front name : List ℕ) → get_or (front ++ 47 ∷ name) (length front + 1 - 1) 0 ≡ 47
    at_slash front name =
        let at : length front + 1 - 1 ≡ length front = omega arith in
        ap (λ j. get_or (front ++ 47 ∷ name) j 0) at ∙ get_or-append_seam front 47 name 0

-- the folder of each path in it is there
pub there : (dir name : List ℕ) (old new : Folders) → MakesAll dir old new → has_slash name ≡ false → is_there new (folder_of (path_text dir name)) ≡ true
there dir name old new made none = elim (ends dir) [
  | inl empty ↦ ap (λ d. is_there new (folder_of (path_text d name))) empty ∙ ap (is_there new) (folder_of-name name none)
  | inr h ↦
      let front = h.0 in
      let c = h.1 in
      elim (cases_eq c 47) [
        | inl slash ↦
            let path_is : path_text dir name ≡ front ++ 47 ∷ name =
            ap (λ d. path_text d name) h.2 ∙ ap (λ t. cond t ((front ++ c ∷ []) ++ name) ((front ++ c ∷ []) ++ (codes "/" ++ name))) (is_closed-last front c slash)
            ∙ append_assoc front (c ∷ []) name ∙ ap (λ x. front ++ x ∷ name) slash in
            ap (λ p. is_there new (folder_of p)) path_is ∙ ap (is_there new) (folder_of-path front name none) ∙ front_is_there dir front old new made (h.2 ∙ ap (λ x. front ++ x ∷ []) slash)
        | inr ne ↦
            let path_is : path_text dir name ≡ dir ++ 47 ∷ name =
            ap (λ t. cond t (dir ++ name) (dir ++ (codes "/" ++ name))) (ap is_closed h.2 ∙ not_closed-last front c ne) in
            ap (λ p. is_there new (folder_of p)) path_is ∙ ap (is_there new) (folder_of-path dir name none) ∙ made_is_there dir old new made
      ]
]
