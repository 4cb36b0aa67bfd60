-- What a path holds after a change.
use Rattle.std.specs.Prelude.{◌≡◌, ◌≢◌, ◌⊎◌, ℕ, List, Some, None, cond}
use Rattle.std.proofs.Common.{inl, inr, refl, sym, ◌∙◌, ap, subst}
use Rattle.std.specs.Ordering.{nat_cmp, is_eq}
use Rattle.std.specs.declared.cmp.Ordering.TheVariants.{Less, Equal, Greater}
use Rattle.std.specs.Cmp.{tied_itself}
use Rattle.std.specs.Cmp.Lexicographic.{slice_cmp, nat_list_cmp_total}
use Rattle.std.specs.FinMap.{code, get, insert, remove, same_map, get-insert, get-remove, slice_cmp-IsAntisymmetric, nat_cmp-IsAntisymmetric}
use Rattle.std.specs.Coded.{Coded-set, coded_list, coded_ℕ}
use Rattle.lru_folder.specs.Files.{Files, moved, renamed}

-- two paths are one, or they are not
pub decide : (q k : List ℕ) → (q ≡ k) ⊎ (q ≢ k)
decide q k = elim (slice_cmp nat_cmp q k) as (λ r. slice_cmp nat_cmp q k ≡ r → (q ≡ k) ⊎ (q ≢ k)) [
  | Less ↦ λ e. inr (λ s. let tie = subst (λ z. slice_cmp nat_cmp q z ≡ Equal) s (tied_itself nat_list_cmp_total q) in cc)
  | Equal ↦ λ e. inl (slice_cmp-IsAntisymmetric nat_cmp-IsAntisymmetric q k e)
  | Greater ↦ λ e. inr (λ s. let tie = subst (λ z. slice_cmp nat_cmp q z ≡ Equal) s (tied_itself nat_list_cmp_total q) in cc)
] refl

-- a choice at another path
tested : {A : Type 0} (q k : List ℕ) (x y : A) → q ≢ k → cond (is_eq (slice_cmp nat_cmp q k)) x y ≡ y
tested q k x y ne = elim (slice_cmp nat_cmp q k) as (λ r. slice_cmp nat_cmp q k ≡ r → cond (is_eq r) x y ≡ y) [
  | Less ↦ λ e. refl
  | Equal ↦ λ e. absurd (ne (slice_cmp-IsAntisymmetric nat_cmp-IsAntisymmetric q k e))
  | Greater ↦ λ e. refl
] refl

-- and at the path itself
same : {A : Type 0} (k : List ℕ) (x y : A) → cond (is_eq (slice_cmp nat_cmp k k)) x y ≡ x
same k x y = ap (λ r. cond (is_eq r) x y) (tied_itself nat_list_cmp_total k)

pub get-insert_same : (m : Files) (k v : List ℕ) → get (insert m k v) k ≡ Some v
get-insert_same m k v = get-insert nat_list_cmp_total m k v k ∙ same k (Some v) (get m k)

pub get-insert_other : (m : Files) (k v q : List ℕ) → q ≢ k → get (insert m k v) q ≡ get m q
get-insert_other m k v q ne = get-insert nat_list_cmp_total m k v q ∙ tested q k (Some v) (get m q) ne

pub get-remove_same : (m : Files) (k : List ℕ) → get (remove m k) k ≡ None
get-remove_same m k = get-remove nat_list_cmp_total m k k ∙ same k None (get m k)

pub get-remove_other : (m : Files) (k q : List ℕ) → q ≢ k → get (remove m k) q ≡ get m q
get-remove_other m k q ne = get-remove nat_list_cmp_total m k q ∙ tested q k None (get m q) ne

-- a path that has bytes gives them to another
pub renamed-here : (from to bytes : List ℕ) (m : Files) → get m from ≡ Some bytes → renamed from to m ≡ insert (remove m from) to bytes
renamed-here from to bytes m here = ap (λ b. moved from b to m) here

-- maps that answer alike are one
pub alike : (m n : Files) → ((q : List ℕ) → get m q ≡ get n q) → m ≡ n
alike = same_map nat_list_cmp_total (slice_cmp-IsAntisymmetric nat_cmp-IsAntisymmetric)

-- two maps are equal in one way, so a ghost field may say that they are
pub Files-set : IsSet Files
Files-set = Coded-set (code (coded_list coded_ℕ) (coded_list coded_ℕ))

-- what a path held before doesn't count where it gets other bytes
pub insert-remove : (m : Files) (k v : List ℕ) → insert (remove m k) k v ≡ insert m k v
insert-remove m k v = alike _ _ (λ q. elim (decide q k) [
  | inl e ↦ subst (λ z. get (insert (remove m k) k v) z ≡ get (insert m k v) z) (sym e) (get-insert_same (remove m k) k v ∙ sym (get-insert_same m k v))
  | inr ne ↦ get-insert_other (remove m k) k v q ne ∙ get-remove_other m k q ne ∙ sym (get-insert_other m k v q ne)
])

-- changes of two paths come in any order
pub remove-insert_other : (m : Files) (p v k : List ℕ) → p ≢ k → remove (insert m p v) k ≡ insert (remove m k) p v
remove-insert_other m p v k apart = alike _ _ (λ q. elim (decide q k) [
  | inl e ↦ subst (λ z. get (remove (insert m p v) k) z ≡ get (insert (remove m k) p v) z) (sym e)
      (get-remove_same (insert m p v) k ∙ sym (get-insert_other (remove m k) p v k (λ s. apart (sym s)) ∙ get-remove_same m k))
  | inr other ↦ get-remove_other (insert m p v) k q other ∙ (elim (decide q p) [
    | inl e ↦ subst (λ z. get (insert m p v) z ≡ get (insert (remove m k) p v) z) (sym e) (get-insert_same m p v ∙ sym (get-insert_same (remove m k) p v))
    | inr ne ↦ get-insert_other m p v q ne ∙ sym (get-insert_other (remove m k) p v q ne ∙ get-remove_other m k q other)
  ])
])
