-- Entries that have what comes of their keys.
use Rattle.std.proofs.Common.{◌≡◌, ℕ, Bool, true, false, cond, not, nat_eq, List, [], ◌∷◌, ◌++◌, Option, Some, None, refl, sym, ap, ◌∙◌, subst}
use Rattle.std.proofs.lemmas.Bool.{eqb-true}
use Rattle.lru_owned_cache.specs.declared.entry.Entry.{Entry}
use Rattle.std.specs.Prelude.{Result, Ok, Err}
use Rattle.lru_owned_cache.specs.declared.cache.Refused.{Refused}
use Rattle.lru_owned_cache.specs.Cache.{Cached, entry_of, without, Puts}
use Rattle.example_memo.specs.Answers.{AreRight}

-- the entry that a key finds is that key's
pub found_key : (es : List (Entry ℕ ℕ)) (k : ℕ) (e : Entry ℕ ℕ) → entry_of nat_eq es k ≡ Some e → e.key ≡ k
found_key [] k e found = cc found
found_key (x ∷ es) k e found =
    elim (nat_eq x.key k) as (λ b. nat_eq x.key k ≡ b → cond b (Some x) (entry_of nat_eq es k) ≡ Some e → e.key ≡ k) [
      | true ↦ λ same first.
          let is : x ≡ e = cc first in
          sym (ap (λ (a : Entry ℕ ℕ). a.key) is) ∙ eqb-true x.key k same
      | false ↦ λ other later. found_key es k e later
    ] refl found

module _ (outcome : ℕ → ℕ) where
  -- and has what comes of it
  pub found_right : (es : List (Entry ℕ ℕ)) (k : ℕ) (e : Entry ℕ ℕ) → AreRight outcome es → entry_of nat_eq es k ≡ Some e → e.value ≡ outcome e.key
  found_right [] k e right found = cc found
  found_right (x ∷ es) k e right found =
      elim (nat_eq x.key k) as (λ b. cond b (Some x) (entry_of nat_eq es k) ≡ Some e → e.value ≡ outcome e.key) [
        | true ↦ λ first.
            let is : x ≡ e = cc first in
            subst (λ (a : Entry ℕ ℕ). a.value ≡ outcome a.key) is right.0
        | false ↦ λ later. found_right es k e right.1 later
      ] found

  -- and so has each of the others, also without one of them, and at the front
  pub without_right : (es : List (Entry ℕ ℕ)) (k : ℕ) → AreRight outcome es → AreRight outcome (without nat_eq es k)
  without_right [] k right = right
  without_right (x ∷ es) k right =
      elim (nat_eq x.key k) as (λ b. AreRight outcome (cond (not b) (x ∷ without nat_eq es k) (without nat_eq es k))) [
        | true ↦ without_right es k right.1
        | false ↦ (right.0, without_right es k right.1)
      ]

  pub front_right : (front gone : List (Entry ℕ ℕ)) → AreRight outcome (front ++ gone) → AreRight outcome front
  front_right [] gone right = tt
  front_right (x ∷ front) gone right = (right.0, front_right front gone right.1)

  -- a put of what comes of a key leaves only such entries, also where it is refused
  pub put_right : {F S : Type 0} (old : Cached ℕ ℕ S) (k v : ℕ) (answer : Result (Option (Entry ℕ ℕ)) (Refused ℕ ℕ)) (new : Cached ℕ ℕ S) (Step : F → Entry ℕ ℕ → F → Type 0) (visit : F) →
      AreRight outcome old.entries → v ≡ outcome k → Puts nat_eq Step visit old k v 1 answer new → AreRight outcome new.entries
  put_right {F} {S} old k v answer new Step visit right is puts =
      elim answer as (λ a. Puts nat_eq Step visit old k v 1 a new → AreRight outcome new.entries) [
        | Ok was ↦ λ p.
            let leaves = p.1.1.1.1.0 in
            let front = front_right p.1.1.0 p.1.1.1.0 (subst (λ (es : List (Entry ℕ ℕ)). AreRight outcome es) leaves.parts (without_right old.entries k right)) in
            subst (λ (x : Cached ℕ ℕ S). AreRight outcome x.entries) (sym p.1.1.1.1.1.1) (is, front)
        | Err refused ↦ λ p. subst (λ (x : Cached ℕ ℕ S). AreRight outcome x.entries) (sym p.1.1.1) right
      ] puts
