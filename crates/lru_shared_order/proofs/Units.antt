-- Shards that are put into a list one after another, each at its place.
use Rattle.std.proofs.Common.{◌≡◌, ℕ, zero, suc, List, [], ◌∷◌, ◌++◌, length, Some, None, refl, ap, subst, ◌⊎◌, inl, inr, ⊎_elim}
use Rattle.std.specs.Prelude.{slice_get}
use Rattle.lru_shard.specs.Shard.{Shard}
use Rattle.lru_shard.specs.Shards.{IsOwn, AreOwn}

some_same : {A : Type 0} (x y : A) → Some x ≡ Some y → x ≡ y
some_same x y e = cc

none_some : {A : Type 0} (x : A) → None ≡ Some x → ⊥
none_some x e = cc

at_snoc : {A : Type 0} (xs : List A) (z : A) (k : ℕ) (x : A) → slice_get (xs ++ z ∷ []) k ≡ Some x → (slice_get xs k ≡ Some x) ⊎ ((k ≡ length xs) × (z ≡ x))
at_snoc [] z zero x e = inr (refl, some_same z x e)
at_snoc [] z (suc k) x e = absurd (none_some x e)
at_snoc (y ∷ ys) z zero x e = inl e
at_snoc (y ∷ ys) z (suc k) x e = ⊎_elim (λ a. inl a) (λ (b : (k ≡ length ys) × (z ≡ x)). inr (ap suc b.0, b.1)) (at_snoc ys z k x e)

pub own_more : {T : Type 0} (n number : ℕ) (us more : List (Shard T)) (u : Shard T) → more ≡ us ++ u ∷ [] → number ≡ length us → AreOwn n us → IsOwn n number u → AreOwn n more
own_more n number us more u e here all own s x at = ⊎_elim
    (λ (a : slice_get us s ≡ Some x). all s x a)
    (λ (b : (s ≡ length us) × (u ≡ x)). subst (λ m. IsOwn n m x) (here_is s b.0) (subst (IsOwn n number) b.1 own))
    (at_snoc us u s x (subst (λ l. slice_get l s ≡ Some x) e at))
  where
    here_is : (s : ℕ) → s ≡ length us → number ≡ s
    here_is s b = cc
