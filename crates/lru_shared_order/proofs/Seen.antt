-- What a look for a key may have seen: a row of a key shows that the shard is the key's own, and where none is found, a shard
-- without rows has none.
use Rattle.std.proofs.Common.{◌≡◌, ℕ, ◌<◌, eqb, List, [], ◌∷◌, Some, None, inl, inr, refl, sym, ap, subst, ◌∙◌, arith, Bool, true, false, zero, suc}
use Rattle.std.specs.Prelude.{take, is_some, not, Option}
use Rattle.std.proofs.lemmas.Bool.{cases_Bool, cond-true, cond-false, not-false, false≢true}
use Rattle.lru_shard.specs.Row.{Row, row_of, times, is_held}
use Rattle.lru_shard.specs.Shard.{Shard, shard, IsShard}
use Rattle.lru_shard.specs.Shards.{AreAtHome}
use Rattle.lru_shard.specs.Limits.{cap_of}
use Rattle.lru_shard.specs.Unit.{needs_promote}
use Rattle.lru_shared_order.specs.LruCalls.{MayHold}
use Rattle.lru_shared_order.proofs.Homes.{has_row}

not_not : (b : Bool) → not (not b) ≡ b
not_not true = refl
not_not false = refl

module _ {T : Type 0} where
  row_held : (o : Option (Row T)) → is_some o ≡ true → (r : Row T) × (o ≡ Some r)
  row_held None h = absurd (false≢true h)
  row_held (Some r) h = (r, refl)

  held_times : (n s : ℕ) (rows : List (Row T)) (k : ℕ) → is_held rows k ≡ true → 0 < times k rows
  held_times n s rows k h = let r = row_held (row_of rows k) h in has_row n s k rows r.0 r.1

  -- what is told of a shard that was asked for a key
  pub seen_key : (n s : ℕ) (u : Shard T) (k : ℕ) (held : Bool) → IsShard u → u.cap ≡ cap_of n → AreAtHome n s u.rows → held ≡ is_held u.rows k → MayHold T n k held
  seen_key n s u k true valid cap home is = record {
    seen = u;
    valid = valid;
    cap = cap;
    home = subst (λ t. AreAtHome n t u.rows) (sym (home k (held_times n s u.rows k (sym is)))) home;
    told = is;
  }
  seen_key n s u k false valid cap home is = record {
    seen = shard [] (cap_of n);
    valid = record { keys = λ j. omega arith; light = omega arith; short = omega arith };
    cap = refl;
    home = λ j h. absurd (omega (arith, h));
    told = refl;
  }

  held_front : (n : ℕ) (rows : List (Row T)) (k : ℕ) → is_held (take n rows) k ≡ true → is_held rows k ≡ true
  held_front zero rows k h = absurd (false≢true h)
  held_front (suc n) [] k h = absurd (false≢true h)
  held_front (suc n) (r ∷ rows) k h =
      elim (cases_Bool (eqb r.key k)) [
        | inl e ↦ ap is_some (cond-true (eqb r.key k) (Some r) (row_of rows k) e)
        | inr e ↦ ap is_some (cond-false (eqb r.key k) (Some r) (row_of rows k) e) ∙ held_front n rows k (sym (ap is_some (cond-false (eqb r.key k) (Some r) (row_of (take n rows) k) e)) ∙ h)
      ]

  -- a key among the first so many is there
  pub first_held : (rows : List (Row T)) (k top : ℕ) → true ≡ not (needs_promote rows k top) → true ≡ is_held rows k
  first_held rows k top h = sym (held_front top rows k (sym (h ∙ not_not (is_held (take top rows) k))))
