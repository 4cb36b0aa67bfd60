-- What a shard answers of a value that was lent and cloned, and of an entry that was refused.
use Rattle.std.proofs.Common.{◌≡◌, ℕ, ◌∙◌, Some, None, Ok, Err, sym, ap, subst, true, false}
use Rattle.std.specs.Prelude.{Bool, Option, Result, IfOk, IfErr, is_some}
use Rattle.std.specs.Borrow.{MutBor}
use Rattle.std.specs.declared.alloc.AllocError.{AllocError}
use Rattle.lru_owned_cache.specs.declared.entry.Entry.{Entry}
use Rattle.lru_owned_cache.specs.Entries.{entry}
use Rattle.lru_owned_cache.specs.declared.cache.Refused.{Refused}
use Rattle.lru_owned_cache.specs.Cache.{entry_of}
use Rattle.lru_segmented.specs.Segmented.{entries, Uses, Raises}
use Rattle.lru_shared_cache.specs.Calls.{IsCloned}
use Rattle.lru_shared_cache.specs.Counts.{looked}
use Rattle.lru_shared_segmented.specs.Calls.{ShardOf, Lends, Gets, PutsCounted}

-- a clone is answered as one of an entry
abbrev pub as_found : {V : Type 0} → Result V AllocError → Result (Option V) AllocError
as_found (Ok v) = Ok (Some v)
as_found (Err e) = Err e

module _ {K V S Q : Type 0} (eq : K → Q → Bool) (clones : V → V → Type 0) (key : Q) (before after : ShardOf K V S) where
  abbrev found : Option (Entry K V)
  found = entry_of eq (entries before.cache) key

  -- an entry is there, was used, and its value is this one's
  hit : (e : Entry K V) → found ≡ Some e → Raises eq before.cache key e after.cache → after.counts ≡ looked before.counts true → Uses eq before.cache key (is_some found) after.cache × (after.counts ≡ looked before.counts (is_some found))
  hit e is raises counted = (subst (λ b. Uses eq before.cache key b after.cache) (sym (ap is_some is)) (e, (is, raises)), counted ∙ ap (λ b. looked before.counts b) (sym (ap is_some is)))

  cloned : (e : Entry K V) → found ≡ Some e → (r : Result V AllocError) → IfOk r (λ v. clones e.value v) → IfOk (as_found r) (λ o. IsCloned clones found o)
  cloned e is (Ok v) told = subst (λ o. IsCloned clones o (Some v)) (sym is) told
  cloned e is (Err error) told = tt

  -- a closure that leaves the value and answers a clone of it gets it
  pub gets : (own : MutBor V → ℕ → Result V AllocError → MutBor V → Type 0) (r : Result V AllocError) → Lends eq own before key (Some r) after
      → ((lent : MutBor V) (w : ℕ) (r : Result V AllocError) (left : MutBor V) → own lent w r left → (left.now ≡ lent.now) × IfOk r (λ v. clones lent.now v)) → Gets eq clones before key (as_found r) after
  gets own r ((e, (is, (v, (updates, raises)))), counted) each =
      let told = each updates.lent e.weight r updates.left updates.called in
      let same : v ≡ e.value = sym updates.leaves ∙ told.0 ∙ updates.shows in
      (cloned e is r (subst (λ x. IfOk r (λ v. clones x v)) updates.shows told.1), hit e is (subst (λ x. Raises eq before.cache key (entry e.key x e.weight) after.cache) same raises) counted)

  -- where there is no entry, nothing is used
  pub gets_none : (found ≡ None) × (after.cache ≡ before.cache) → after.counts ≡ looked before.counts false → Gets eq clones before key (Ok None) after
  gets_none (is, same) counted = (
    subst (λ o. IsCloned clones o None) (sym is) tt,
    (subst (λ b. Uses eq before.cache key b after.cache) (sym (ap is_some is)) (is, same), counted ∙ ap (λ b. looked before.counts b) (sym (ap is_some is))),
  )

-- what is refused is handed back
module _ {K V S F : Type 0} (Step : F → Entry K V → F → Type 0) (visit : F) (eq : K → K → Bool) (before after : ShardOf K V S) (k : K) (v : V) (w : ℕ) where
  pub key_back : (answer : Result (Option (Entry K V)) (Refused K V)) → PutsCounted Step visit eq before k v w answer after → IfErr answer (λ r. r.key ≡ k)
  key_back (Ok was) puts = tt
  key_back (Err r) puts = puts.0.1.0

  pub value_back : (answer : Result (Option (Entry K V)) (Refused K V)) → PutsCounted Step visit eq before k v w answer after → IfErr answer (λ r. r.value ≡ v)
  value_back (Ok was) puts = tt
  value_back (Err r) puts = puts.0.1.1.0
