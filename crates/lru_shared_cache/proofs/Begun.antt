-- What a closure answered that looked for a value.
use Rattle.std.proofs.Common.{◌≡◌, Ok, Err, None, inl, inr, refl, sym, subst}
use Rattle.std.specs.Prelude.{Option, Result}
use Rattle.std.specs.Borrow.{MutBor}
use Rattle.lru_shared_cache.specs.Shards.{Acts, Begins}

module _ {S V E : Type 0} (post : MutBor S → Result (Option V) E → MutBor S → Type 0) (lent left : MutBor S) where
  acts : (answer : Result (Option V) E) → post lent answer left → Acts post answer lent.now left.now
  acts answer called = record { lent = lent; left = left; shows = refl; called = called; leaves = refl }

  -- it is what is told
  pub begins : (answer : Result (Option V) E) → post lent answer left → Begins post answer lent.now left.now
  begins (Ok found) called = acts (Ok found) called
  begins (Err e) called = inl (acts (Err e) called)

  -- it found none, and there was no memory for the note
  pub begins_unnoted : (answer told : Result (Option V) E) (e : E) → answer ≡ Ok None → told ≡ Err e → post lent answer left → Begins post told lent.now left.now
  begins_unnoted answer told e none is called = subst (λ t. Begins post t lent.now left.now) (sym is) (inr (acts (Ok None) (subst (λ a. post lent a left) none called)))
