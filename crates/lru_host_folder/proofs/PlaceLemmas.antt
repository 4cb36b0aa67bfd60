-- The folder of a path, by the place of its last slash.
use Rattle.std.proofs.Common.{◌≡◌, ◌≢◌, ℕ, zero, suc, ◌+◌, ◌-◌, ◌<◌, ◌==◌, ◌||◌, Bool, true, false, not, cond, List, [], ◌∷◌, length, take, get_or, refl, sym, ◌∙◌, ap, arith}
use Rattle.std.specs.Prelude.{codes}
use Rattle.std.specs.List.{suffix_len}
use Rattle.std.proofs.lemmas.List.Sums.{suffix_len_is}
use Rattle.std.proofs.lemmas.Bool.{eqb-true, eq-eqb, false_from_ne_true}
use Rattle.lru_folder.specs.Names.{has_slash}
use Rattle.lru_folder.specs.Places.{folder_of}
use Rattle.lru_host_folder.specs.Steps.{place_of}

not_slash : (x : ℕ) → x ≢ 47 → not (x == 47) ≡ true
not_slash x ne = ap not (false_from_ne_true (x == 47) (λ t. ne (eqb-true x 47 t)))

or_true : (a b : Bool) → b ≡ true → (a || b) ≡ true
or_true true b e = refl
or_true false b e = e

has_slash_from : (text : List ℕ) (k : ℕ) → k < length text → get_or text k 0 ≡ 47 → has_slash text ≡ true
has_slash_from [] k lt e = absurd (omega arith)
has_slash_from (x ∷ xs) zero lt e = ap (λ b. b || has_slash xs) (eq-eqb x 47 e)
has_slash_from (x ∷ xs) (suc k) lt e = or_true (x == 47) (has_slash xs) (has_slash_from xs k (omega arith) e)

has_no_slash : (text : List ℕ) → ((i : ℕ) → i < length text → get_or text i 0 ≢ 47) → has_slash text ≡ false
has_no_slash [] others = refl
has_no_slash (x ∷ xs) others =
    ap (λ b. b || has_slash xs) (false_from_ne_true (x == 47) (λ t. others 0 (omega arith) (eqb-true x 47 t))) ∙ has_no_slash xs (λ i lt. others (suc i) (omega arith))

-- the folder of a path is cut at its last slash
folder_of-at : (path : List ℕ) (at : ℕ) → at < length path → get_or path at 0 ≡ 47 → ((i : ℕ) → at < i → i < length path → get_or path i 0 ≢ 47) → folder_of path ≡ take at path
folder_of-at path at lt slash others =
    let n = suffix_len (λ x. not (x == 47)) path in
    let all : n ≡ length path - (at + 1) =
    suffix_len_is (λ x. not (x == 47)) path (at + 1) 0 (omega arith) (λ k low below. not_slash (get_or path k 0) (others k (omega arith) below))
    (λ pos. let place : at + 1 - 1 ≡ at = omega arith in ap (λ j. not (get_or path j 0 == 47)) place ∙ ap (λ x. not (x == 47)) slash) in
    let cut : length path - n - 1 ≡ at = omega arith in
    ap (λ k. take k path) cut

cut_at : (path : List ℕ) (at : ℕ) → at < length path → get_or path at 0 ≡ 47 → ((i : ℕ) → at < i → i < length path → get_or path i 0 ≢ 47)
    → place_of path ≡ cond (length (take at path) == 0) (codes "/") (take at path)
cut_at path at lt slash others =
    ap (λ b. cond b (cond (length (folder_of path) == 0) (codes "/") (folder_of path)) (codes ".")) (has_slash_from path at lt slash)
    ∙ ap (λ f. cond (length f == 0) (codes "/") f) (folder_of-at path at lt slash others)

front_of : (path : List ℕ) (at : ℕ) → at < length path → (at ≡ 0 → ⊥) → (length (take at path) == 0) ≡ false
front_of [] at lt pos = absurd (omega arith)
front_of (x ∷ xs) zero lt pos = absurd (pos refl)
front_of (x ∷ xs) (suc at) lt pos = false_from_ne_true (length (take (suc at) (x ∷ xs)) == 0) (λ t. let e : suc (length (take at xs)) ≡ 0 = eqb-true (suc (length (take at xs))) 0 t in cc)

-- a slash at the start alone
pub place_of-root : (path : List ℕ) → 0 < length path → get_or path 0 0 ≡ 47 → ((i : ℕ) → 0 < i → i < length path → get_or path i 0 ≢ 47) → codes "/" ≡ place_of path
place_of-root path lt slash others = sym (cut_at path 0 lt slash others)

pub place_of-at : (path : List ℕ) (at : ℕ) → (at ≡ 0 → ⊥) → at < length path → get_or path at 0 ≡ 47 → ((i : ℕ) → at < i → i < length path → get_or path i 0 ≢ 47) → take at path ≡ place_of path
place_of-at path at pos lt slash others =
    sym (cut_at path at lt slash others ∙ ap (λ b. cond b (codes "/") (take at path)) (front_of path at lt pos))

pub place_of-none : (path : List ℕ) → ((i : ℕ) → i < length path → get_or path i 0 ≢ 47) → codes "." ≡ place_of path
place_of-none path others =
    sym (ap (λ b. cond b (cond (length (folder_of path) == 0) (codes "/") (folder_of path)) (codes ".")) (has_no_slash path others))
