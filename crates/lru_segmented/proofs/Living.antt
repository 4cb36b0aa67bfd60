-- What a look at an entry's deadline says of what follows.
use Rattle.std.proofs.Common.{◌≡◌, ℕ, List, [], ◌∷◌, Some, None, refl, sym, ap, ◌∙◌, subst, true, false}
use Rattle.std.proofs.lemmas.Bool.{false≢true}
use Rattle.std.specs.Prelude.{Bool, Option, Result, is_some, filter, if◌then◌else◌}
use Rattle.std.specs.Borrow.{MutBor}
use Rattle.std.specs.List.{FoldsTo}
use Rattle.lru_owned_cache.specs.declared.entry.Entry.{Entry}
use Rattle.lru_owned_cache.specs.Entries.{IsShown}
use Rattle.lru_owned_cache.specs.declared.cache.Refused.{Refused}
use Rattle.lru_deadlines.specs.declared.deadlines.Until.{Until}
use Rattle.lru_deadlines.specs.Deadlines.{where_it, living, is_past, last_of, look, has_room}
use Rattle.lru_segmented.specs.Segmented.{Segmented, entries, plain, UpdatesEntry, Puts}
use Rattle.lru_segmented.specs.SegmentedDeadlines.{swept_at, Sweeps, MakesRoom, UpdatesIfLiving}

module _ {K V : Type 0} where
  kept : (test : Entry K (Until V) → Bool) (e : Entry K (Until V)) (b : Bool) → test e ≡ b → is_some (where_it test (Some e)) ≡ true → where_it test (Some e) ≡ Some e
  kept test e true is here = ap (λ b. if b then Some e else None) is
  kept test e false is here = absurd (false≢true (sym (ap (λ b. is_some (if b then Some e else None)) is) ∙ here))

  -- an entry that is found, and stands the test
  lives : (test : Entry K (Until V) → Bool) (o : Option (Entry K (Until V))) (e : Entry K (Until V)) → o ≡ Some e → is_some (where_it test o) ≡ true → where_it test o ≡ Some e
  lives test o e found here = subst (λ x. is_some (where_it test x) ≡ true → where_it test x ≡ Some e) (sym found) (kept test e (test e) refl) here

  pub updates_if_living : {Q R S : Type 0} (eq : K → Q → Bool) (post : MutBor (Until V) → ℕ → R → MutBor (Until V) → Type 0) (time : ℕ) (old : Segmented K (Until V) S) (key : Q) (answer : Option R) (new : Segmented K (Until V) S)
      → is_some (living eq time (entries old) key) ≡ true → UpdatesEntry eq post old key answer new → UpdatesIfLiving eq post time old key answer new
  updates_if_living eq post time old key None new here (none, is) = (ap (where_it _) none, is)
  updates_if_living eq post time old key (Some answer) new here (e, (found, (u, (updates, raises)))) = (e, (lives _ _ e found here, (u, (updates, raises))))

-- calls of a closure, seen as calls of what it calls
pub folds_from : {A P Q : Type 0} (R : P → A → P → Type 0) (xs : List A) (p q : P) → FoldsTo R p xs q → (T : Q → A → Q → Type 0) (get : P → Q) → ((p : P) (a : A) (q : P) → R p a q → T (get p) a (get q)) → FoldsTo T (get p) xs (get q)
folds_from R [] p q h T get each = ap get h
folds_from R (x ∷ xs) p q (j, called, rest) T get each = (get j, each p x j called, folds_from R xs j q rest T get each)

module _ {K V S F : Type 0} (Step : F → Entry K (Until V) → F → Type 0) (visit : F) (time w : ℕ) (old new : Segmented K (Until V) S) where
  abbrev Room : Bool → Type 0
  Room b = IsShown Step visit (if b then [] else filter (is_past time) (last_of look (entries old))) × (new ≡ (if b then old else swept_at time look old))

  -- there was room
  pub spares : has_room w (plain old) ≡ true → new ≡ old → MakesRoom Step visit time w old new
  spares has is = subst Room (sym has) ((visit, refl), is)

  -- there was none
  pub makes : has_room w (plain old) ≡ false → Sweeps Step visit time look old new → MakesRoom Step visit time w old new
  makes has sweeps = subst Room (sym has) sweeps

-- a closure, in whichever state it is, is shown what goes for an entry that is put
pub puts_then : {K V S F : Type 0} (eq : K → K → Bool) (Step : F → Entry K V → F → Type 0) (visit : F) (x y : Segmented K V S) → x ≡ y → (k : K) (v : V) (w : ℕ) (r : Result (Option (Entry K V)) (Refused K V)) (new : Segmented K V S)
    → Puts eq Step visit x k v w r new → (seen : F) × Puts eq Step seen y k v w r new
puts_then eq Step visit x y is k v w r new h = (visit, subst (λ z. Puts eq Step visit z k v w r new) is h)
