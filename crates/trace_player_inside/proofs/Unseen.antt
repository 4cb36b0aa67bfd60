-- What goes for an object is shown to nobody: what a put does is the same, whoever is shown what goes.
use Rattle.std.proofs.Common.{◌≡◌, ◌∙◌, sym, ap, subst, refl, ℕ, List, [], ◌∷◌, reverse}
use Rattle.std.specs.Prelude.{Option, Some, None, Ok, false, is_some, nat_eq}
use Rattle.std.specs.List.{FoldsTo}
use Rattle.lru_index.specs.declared.hashing.SeededHashes.{SeededHashes}
use Rattle.lru_owned_cache.specs.declared.entry.Entry.{Entry}
use Rattle.lru_owned_cache.specs.Entries.{IsShown}
use Rattle.lru_owned_cache.specs.Cache.{Puts, entry_of}
use Rattle.lru_segmented.specs.Segmented.{entries}
use Rattle.lru_segmented.specs.Segmented.{Puts as PutsLower}
use Rattle.lru_admission.specs.Sketch.{Counted}
use Rattle.lru_admission.specs.Admission.{watched, PutsIfAsked}
use Rattle.trace_player_inside.specs.declared.player.Request.{Request}
use Rattle.trace_player_inside.specs.Traces.{load}
use Rattle.trace_player_inside.specs.Policies.{Plain, InSegments, Asking, Unseen, after_use}

abbrev pub Object : Type 0
Object = Entry ℕ (Unit {0})

folds_unseen : (xs : List Object) → FoldsTo (Unseen {A = Object}) tt xs tt
folds_unseen [] = refl
folds_unseen (x ∷ xs) = (tt, tt, folds_unseen xs)

shown_unseen : (gone : List Object) → IsShown (Unseen {A = Object}) tt gone
shown_unseen gone = (tt, folds_unseen (reverse gone))

pub none_of : {X : Type 0} (o : Option X) → false ≡ is_some o → o ≡ None
none_of None e = refl
none_of (Some x) e = cc

module _ {F : Type 0} (Step : F → Object → F → Type 0) (visit : F) where
  -- a put of an object that was not there
  pub put_unseen : (old : Plain) (k w : ℕ) (was : Option Object) (new : Plain) → entry_of nat_eq old.entries k ≡ None →
      Puts nat_eq Step visit old k tt w (Ok was) new → Puts nat_eq (Unseen {A = Object}) tt old k tt w (Ok None) new
  put_unseen old k w was new none p = (p.0, (sym none, (p.1.1.0, (p.1.1.1.0, (p.1.1.1.1.0, (shown_unseen p.1.1.1.0, p.1.1.1.1.1.1))))))

  put_lower_unseen : (old : InSegments) (k w : ℕ) (was : Option Object) (new : InSegments) → entry_of nat_eq (entries old) k ≡ None →
      PutsLower nat_eq Step visit old k tt w (Ok was) new → PutsLower nat_eq (Unseen {A = Object}) tt old k tt w (Ok None) new
  put_lower_unseen old k w None new none p =
      let went = p.1.1.1.0 in
      (p.0, (none, (p.1.1.0, (record { gone = went.gone; recedes = went.recedes; shown = shown_unseen went.gone; same = went.same }, p.1.1.1.1))))
  put_lower_unseen old k w (Some was) new none p = let there = p.1.0 in absurd (let both : None ≡ Some was = sym none ∙ there in cc)

  -- the same of a cache that was looked at before, with a weight that was computed
  pub put_first_come : (old : Plain) (q : Request) (w : ℕ) (was : Option Object) (new : Plain) → entry_of nat_eq old.entries q.key ≡ None → w ≡ load q →
      Puts nat_eq Step visit old q.key tt w (Ok was) new → Puts nat_eq (Unseen {A = Object}) tt old q.key tt (load q) (Ok None) new
  put_first_come old q w was new none weighs p =
      let P : ℕ → Type 0 = λ u. Puts nat_eq (Unseen {A = Object}) tt old q.key tt u (Ok None) new in
      subst P weighs (put_unseen old q.key w was new none p)

  pub put_in_segments : (old mid : InSegments) (q : Request) (w : ℕ) (was : Option Object) (new : InSegments) → entry_of nat_eq (entries old) q.key ≡ None → mid ≡ old → w ≡ load q →
      PutsLower nat_eq Step visit mid q.key tt w (Ok was) new → PutsLower nat_eq (Unseen {A = Object}) tt old q.key tt (load q) (Ok None) new
  put_in_segments old mid q w was new none same weighs p =
      let M : InSegments → Type 0 = λ m. PutsLower nat_eq Step visit m q.key tt w (Ok was) new in
      let P : ℕ → Type 0 = λ u. PutsLower nat_eq (Unseen {A = Object}) tt old q.key tt u (Ok None) new in
      subst P weighs (put_lower_unseen old q.key w was new none (subst M same p))

-- a cache with a sketch whose parts are known
watched_same : (w : Asking) (cache : Plain) (sketch : Counted) → w.cache ≡ cache → w.sketch ≡ sketch → w ≡ watched cache sketch
watched_same w cache sketch p q = ap (λ (c : Plain). watched c w.sketch) p ∙ ap (λ (s : Counted). watched cache s) q

module _ (hash : SeededHashes → ℕ → ℕ) where
  pub is_used : (old mid : Asking) (q : Request) → mid.cache ≡ (after_use hash old q).cache → mid.sketch ≡ (after_use hash old q).sketch → mid ≡ after_use hash old q
  is_used old mid q p r = watched_same mid (after_use hash old q).cache (after_use hash old q).sketch p r

  -- the use of an object that is not there leaves it so
  none_used : (old : Asking) (q : Request) → entry_of nat_eq old.cache.entries q.key ≡ None → entry_of nat_eq (after_use hash old q).cache.entries q.key ≡ None
  none_used old q none = rw none none

  pub put_asking : {F : Type 0} (Step : F → Object → F → Type 0) (visit : F) (old mid : Asking) (q : Request) (w : ℕ) (was : Option Object) (new : Asking) →
      entry_of nat_eq old.cache.entries q.key ≡ None → mid ≡ after_use hash old q → w ≡ load q →
      PutsIfAsked nat_eq (hash mid.cache.hashes) Step visit mid q.key tt w (Ok was) new →
      PutsIfAsked nat_eq (hash old.cache.hashes) (Unseen {A = Object}) tt (after_use hash old q) q.key tt (load q) (Ok None) new
  put_asking Step visit old mid q w was new none same weighs p =
      let M : Asking → Type 0 = λ m. PutsIfAsked nat_eq (hash m.cache.hashes) Step visit m q.key tt w (Ok was) new in
      let P : ℕ → Type 0 = λ u. PutsIfAsked nat_eq (hash old.cache.hashes) (Unseen {A = Object}) tt (after_use hash old q) q.key tt u (Ok None) new in
      let asked = subst M same p in
      subst P weighs (asked.0, (put_unseen Step visit (after_use hash old q).cache q.key w was new.cache (none_used old q none) asked.1.0, asked.1.1))
