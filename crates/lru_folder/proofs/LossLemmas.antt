-- What a loss of power may leave, after calls.
use Rattle.std.proofs.Common.{◌≡◌, ◌≢◌, inl, inr, ⊎_elim, ◌≤◌, ℕ, List, ◌++◌, Option, Some, None, is_some, refl, sym, ◌∙◌, ap, subst, arith}
use Rattle.std.specs.FinMap.{get, insert, remove}
use Rattle.lru_folder.specs.Files.{Files, bytes_at, appended}
use Rattle.lru_folder.specs.Losses.{IsSpread, LossStep, Loses, LosesOnly, IsFromStart, loss_of, loosened}
use Rattle.lru_folder.specs.Meaning.{Meaning}
use Rattle.lru_folder.proofs.FilesLemmas.{decide, get-insert_same, get-insert_other, get-remove_same, get-remove_other}

-- a map with these bytes at a path, or with none there
abbrev pub put_back : List ℕ → Option (List ℕ) → Files → Files
put_back path None m = remove m path
put_back path (Some bytes) m = insert m path bytes

pub get-put_back_same : (path : List ℕ) (bytes : Option (List ℕ)) (m : Files) → get (put_back path bytes m) path ≡ bytes
get-put_back_same path None m = get-remove_same m path
get-put_back_same path (Some bytes) m = get-insert_same m path bytes

pub get-put_back_other : (path : List ℕ) (bytes : Option (List ℕ)) (m : Files) (q : List ℕ) → q ≢ path → get (put_back path bytes m) q ≡ get m q
get-put_back_other path None m q ne = get-remove_other m path q ne
get-put_back_other path (Some bytes) m q ne = get-insert_other m path bytes q ne

-- a map is in its own spread
pub spread-self : (loose : List ℕ → Type 0) (m : Files) → IsSpread loose m m
spread-self loose m = record { there = λ q. refl; others = λ q firm. refl }

-- with more loose paths there is no less in it
pub spread-more : (loose looser : List ℕ → Type 0) (files m : Files) → ((q : List ℕ) → loose q → looser q) → IsSpread loose files m → IsSpread looser files m
spread-more loose looser files m more h = record { there = h.there; others = λ q firm. h.others q (λ l. firm (more q l)) }

-- nor where the map differs at loose paths alone
pub spread-then : (loose : List ℕ → Type 0) (files was m : Files) → IsSpread loose files was → IsSpread loose was m → IsSpread loose files m
spread-then loose files was m first second = record {
  there = λ q. second.there q ∙ first.there q;
  others = λ q firm. second.others q firm ∙ first.others q firm;
}

-- other bytes at a loose path
pub spread-overwritten : (path : List ℕ) (loose : List ℕ → Type 0) (files was m : Files) → loose path → IsSpread loose files was → IsSpread (λ q. q ≡ path) was m
    → IsSpread loose files m
spread-overwritten path loose files was m here first second =
    spread-then loose files was m first (spread-more (λ q. q ≡ path) loose was m (λ q e. subst loose (sym e) here) second)

-- a loose path's bytes do not count
pub spread-alike : (path : List ℕ) (loose : List ℕ → Type 0) (files other m : Files) → loose path → is_some (get files path) ≡ is_some (get other path)
    → ((q : List ℕ) → q ≢ path → get files q ≡ get other q) → IsSpread loose files m → IsSpread loose other m
spread-alike path loose files other m here some same h = record {
  there = λ q. elim (decide q path) [
    | inl e ↦ subst (λ p. is_some (get m p) ≡ is_some (get other p)) (sym e) (h.there path ∙ some)
    | inr ne ↦ h.there q ∙ ap is_some (same q ne)
  ];
  others = λ q firm. h.others q firm ∙ same q (λ e. firm (subst loose (sym e) here));
}

-- nor does how much was written there
pub spread-appended : (path one two : List ℕ) (loose : List ℕ → Type 0) (files m : Files) → IsSpread (loosened path loose) (appended path one files) m
    → IsSpread (loosened path loose) (appended path two files) m
spread-appended path one two loose files m h =
    spread-alike path (loosened path loose) (appended path one files) (appended path two files) m (inl refl)
    (ap is_some (get-insert_same files path (bytes_at files path ++ one)) ∙ sym (ap is_some (get-insert_same files path (bytes_at files path ++ two))))
    (λ q ne. get-insert_other files path (bytes_at files path ++ one) q ne ∙ sym (get-insert_other files path (bytes_at files path ++ two) q ne)) h

-- a map that is spread from one that differs at a path alone, with what stood at that path
pub spread-back : (path : List ℕ) (loose before : List ℕ → Type 0) (files old m : Files) → ((q : List ℕ) → q ≢ path → get files q ≡ get old q)
    → ((q : List ℕ) → q ≢ path → loose q → before q) → IsSpread loose files m → IsSpread before old (put_back path (get old path) m)
spread-back path loose before files old m same less h = record {
  there = λ q. elim (decide q path) [
    | inl e ↦ subst (λ p. is_some (get (put_back path (get old path) m) p) ≡ is_some (get old p)) (sym e) (ap is_some (get-put_back_same path (get old path) m))
    | inr ne ↦ ap is_some (get-put_back_other path (get old path) m q ne) ∙ h.there q ∙ ap is_some (same q ne)
  ];
  others = λ q firm. elim (decide q path) [
    | inl e ↦ subst (λ p. get (put_back path (get old path) m) p ≡ get old p) (sym e) (get-put_back_same path (get old path) m)
    | inr ne ↦ get-put_back_other path (get old path) m q ne ∙ h.others q (λ l. firm (less q ne l)) ∙ same q ne
  ];
}

-- What is there now, with any bytes at its loose paths, is among what a loss now could leave.
pub lost_now : {F : Type 0} (meaning : Meaning F) (folder : F) → meaning.keeps folder → (m : Files) → IsSpread (meaning.loose folder) (meaning.files folder) m
    → meaning.lost_since folder (meaning.clock folder) m
lost_now meaning folder kept m spread = meaning.counts_lost folder (meaning.clock folder) m kept (omega arith) spread

-- Before the first call.
pub loss_started : {F : Type 0} (meaning : Meaning F) (R : Files → Files → Type 0) (old : F) → ((m : Files) → R m m)
    → LosesOnly meaning R old old
loss_started meaning R old same =
    record { later = omega arith; each = λ m s. (m, (s, same m)); now = λ m s. (m, (s, same m)); before = λ t m le s. inl s }

-- One call more, which adds only what is R of a map that a loss at the start could have left.
pub loses_on : {F : Type 0} (meaning : Meaning F) (R : Files → Files → Type 0)
    (step : LossStep) (old mid new : F) → meaning.clock mid ≤ meaning.clock new → LosesOnly meaning R old mid → Loses meaning step mid new
    → ((m : Files) → step.maps (loss_of meaning mid) m → IsFromStart meaning R old m) → LosesOnly meaning R old new
loses_on meaning R step old mid new le so_far call here = record {
  later = omega (arith, so_far.later, le);
  each = λ m s. ⊎_elim (so_far.each m) (here m) (call.nothing_else (meaning.clock old) m so_far.later s);
  now = λ m s. ⊎_elim (so_far.now m) (here m) (call.now m s);
  before = λ t m earlier s. ⊎_elim (so_far.before t m earlier) (λ p. inr (here m p)) (call.nothing_else t m (omega (arith, earlier, so_far.later)) s);
}

-- One run after another.
module _ {F : Type 0} (meaning : Meaning F) (P Q R : Files → Files → Type 0) (old mid new : F)
    (first : LosesOnly meaning P old mid) (second : LosesOnly meaning Q mid new)
    (p : (was m : Files) → P was m → R was m) (both : (was then m : Files) → P was then → Q then m → R was m) where
  early : (m : Files) → IsFromStart meaning P old m → IsFromStart meaning R old m
  early m h = (h.0, (h.1.0, p h.0 m h.1.1))

  late : (m : Files) → IsFromStart meaning Q mid m → IsFromStart meaning R old m
  late m h =
      let was = first.now h.0 h.1.0 in
      (was.0, (was.1.0, both was.0 h.0 m was.1.1 h.1.1))

  pub then_loses : LosesOnly meaning R old new
  then_loses = record {
    later = omega (arith, first.later, second.later);
    each = λ m s. ⊎_elim (λ before. early m (first.each m before)) (late m) (second.before (meaning.clock old) m first.later s);
    now = λ m s. late m (second.now m s);
    before = λ t m le s. ⊎_elim (λ before. ⊎_elim inl (λ h. inr (early m h)) (first.before t m le before)) (λ h. inr (late m h)) (second.before t m (omega (arith, le, first.later)) s);
  }
