-- All shards in turn: one more of them, and what is known of them where they are seen otherwise.
use Rattle.std.proofs.Common.{◌≡◌, ℕ, zero, suc, ◌+◌, ◌<◌, List, [], ◌∷◌, ap, subst, arith}
use Rattle.std.specs.Prelude.{Bool, reverse}
use Rattle.std.specs.List.{FoldsTo}
use Rattle.std.specs.Borrow.{Bor}
use Rattle.lru_owned_cache.specs.declared.entry.Entry.{Entry}
use Rattle.lru_owned_cache.specs.Entries.{Asks}
use Rattle.lru_shared_cache.specs.Counting.{ShardOf}
use Rattle.lru_shared_cache.specs.Calls.{RetainsShard}
use Rattle.lru_shared_cache.specs.Shards.{Owns, MayDo}
use Rattle.lru_shared_cache.specs.Turns.{InTurn, EachInTurn, GoesOn}

next : (n : ℕ) → suc n ≡ n + 1
next n = omega arith

module _ {F S T : Type 0} (does : T → ℕ → (S → S → Type 0) → T → Type 0) where
  pub one_more : (Step : F → S → F → S → Type 0) (n : ℕ) (old mid new : T) (visit state left : F) → InTurn does Step n old visit state mid → does mid n (λ a b. Step state a left b) new → InTurn does Step (n + 1) old visit left new
  one_more Step n old mid new visit state left so_far act = subst (λ k. InTurn does Step k old visit left new) (next n) (mid, (state, (so_far, act)))

module _ {S T : Type 0} (does : T → ℕ → (S → S → Type 0) → T → Type 0) where
  pub each_more : (P : S → S → Type 0) (n : ℕ) (old mid new : T) → EachInTurn does P n old mid → does mid n P new → EachInTurn does P (n + 1) old new
  each_more P n old mid new so_far act = subst (λ k. EachInTurn does P k old new) (next n) (mid, (so_far, act))

module _ {F : Type 0} where
  pub goes_one : (Step : ℕ → F → F → Type 0) (n : ℕ) (visit state left : F) → GoesOn Step n visit state → Step n state left → GoesOn Step (n + 1) visit left
  goes_one Step n visit state left so_far act = subst (λ k. GoesOn Step k visit left) (next n) (state, (so_far, act))

  pub goes_more : (P Q : ℕ → F → F → Type 0) → ((i : ℕ) (v u : F) → P i v u → Q i v u) → (n : ℕ) (visit left : F) → GoesOn P n visit left → GoesOn Q n visit left
  goes_more P Q more zero visit left same = same
  goes_more P Q more (suc n) visit left (state, (so_far, act)) = (state, (goes_more P Q more n visit state so_far, more n state left act))

  -- behind locks nothing else is known
  pub goes_on : {S T : Type 0} (Step : F → S → F → S → Type 0) (May : ℕ → F → F → Type 0) → ((i : ℕ) (v u : F) (a b : S) → Step v a u b → May i v u)
      → (n : ℕ) (old new : T) (visit left : F) → InTurn (λ s i P t. MayDo P) Step n old visit left new → GoesOn May n visit left
  goes_on Step May more zero old new visit left (same, is) = is
  goes_on Step May more (suc n) old new visit left (mid, (state, (so_far, (a, (b, act))))) = (state, (goes_on Step May more n old mid visit state so_far, more n state left a b act))

pub one_of : {S T : Type 0} (P : S → S → Type 0) (n : ℕ) (old new : T) → 0 < n → EachInTurn (λ s i P t. MayDo P) P n old new → MayDo P
one_of P zero old new some each = absurd (omega (arith, some))
one_of P (suc n) old new some (mid, (so_far, act)) = act

-- shards that are a list behind a view
module _ {F S T U : Type 0} (seen : T → U) (does : U → ℕ → (S → S → Type 0) → U → Type 0) where
  pub turns_seen : (Step : F → S → F → S → Type 0) (n : ℕ) (old new : T) (visit left : F) → InTurn (λ s i P t. does (seen s) i P (seen t)) Step n old visit left new → InTurn does Step n (seen old) visit left (seen new)
  turns_seen Step zero old new visit left (same, is) = (ap seen same, is)
  turns_seen Step (suc n) old new visit left (mid, (state, (so_far, act))) = (seen mid, (state, (turns_seen Step n old mid visit state so_far, act)))

module _ {S T U : Type 0} (seen : T → U) (does : U → ℕ → (S → S → Type 0) → U → Type 0) where
  pub each_seen : (P : S → S → Type 0) (n : ℕ) (old new : T) → EachInTurn (λ s i P t. does (seen s) i P (seen t)) P n old new → EachInTurn does P n (seen old) (seen new)
  each_seen P zero old new same = ap seen same
  each_seen P (suc n) old new (mid, (so_far, act)) = (seen mid, (each_seen P n old mid so_far, act))

-- what follows from how a shard is changed is known of that
pub owns_more : {S : Type 0} (P Q : S → S → Type 0) → ((a b : S) → P a b → Q a b) → (s t : List S) (i : ℕ) → Owns s i P t → Owns s i Q t
owns_more P Q more s t i d = (d.0, (d.1.0, (d.1.1.0, (more d.0 d.1.0 d.1.1.1.0, d.1.1.1.1))))

-- a test that is lent is that test
module _ {K V F G : Type 0} (step : G → Bor K → Bor V → ℕ → Bool → G → Type 0) (other : F → Bor K → Bor V → ℕ → Bool → F → Type 0) (seen : G → F)
    (same : (p : G) (k : Bor K) (v : Bor V) (w : ℕ) (b : Bool) (q : G) → step p k v w b q → other (seen p) k v w b (seen q)) where
  asks_as : (asked : List (Entry K V × Bool)) (p q : G) → FoldsTo (λ p a q. Asks step p a.0 a.1 q) p asked q → FoldsTo (λ p a q. Asks other p a.0 a.1 q) (seen p) asked (seen q)
  asks_as [] p q is = ap seen is
  asks_as (a ∷ asked) p q (m, asks, rest) =
      (seen m, record { key = asks.key; value = asks.value; shows_key = asks.shows_key; shows_value = asks.shows_value; called = same p asks.key asks.value a.0.weight a.1 m asks.called }, asks_as asked m q rest)

  pub retains_as : {S : Type 0} (keep : G) (before after : ShardOf K V S) → RetainsShard step keep before after → RetainsShard other (seen keep) before after
  retains_as keep before after retains =
      (record { asked = retains.0.asked; left = seen retains.0.left; all = retains.0.all; called = asks_as (reverse retains.0.asked) keep retains.0.left retains.0.called; kept = retains.0.kept }, retains.1)
