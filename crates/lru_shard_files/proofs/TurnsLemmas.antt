-- One turn more.
use Rattle.std.proofs.Common.{◌≡◌, ◌≢◌, ◌⊎◌, inl, inr, ⊎_elim, ℕ, zero, suc, ◌+◌, ◌^◌, ◌<◌, List, [], ◌∷◌, ◌++◌, length, Option, Some, None, Ok, Err, IsOkAnd, IfOk, IfNone, slice_get, refl, sym, ◌∙◌, ap, subst, arith}
use Rattle.std.proofs.lemmas.List.Elements.{filter_map-append}
use Rattle.std.specs.FinMap.{get}
use Rattle.rand_core.specs.Stream.{Stream, next_u32}
use Rattle.lru_folder.specs.declared.errors.ShardSaveFailure.{ShardSaveFailure}
use Rattle.lru_folder.specs.Files.{Files}
use Rattle.lru_folder.specs.Losses.{loosened}
use Rattle.lru_shard_files.specs.Turns.{shard_path, temp_path, Given, SaveTurn, EachTurn, failures_of, IsKept, OldOrGiven, IsOldOrGiven, IsOldOrGivenWhole, IsFirm, EachOldOrGiven, RunsTo}
use Rattle.lru_folder.proofs.NamesLemmas.{shard_path-injective, temp-apart-shard}

module _ {A : Type 0} where
  -- an element of the longer list is the last one, or was there before
  pub get-push : (xs : List A) (x : A) (i : ℕ) (y : A) → slice_get (xs ++ x ∷ []) i ≡ Some y → (slice_get xs i ≡ Some y) ⊎ ((i ≡ length xs) × (x ≡ y))
  get-push [] x zero y e = inr (refl, cc)
  get-push [] x (suc i) y e = inl e
  get-push (z ∷ zs) x zero y e = inl e
  get-push (z ∷ zs) x (suc i) y e = ⊎_elim (λ h. inl h) (λ h. inr (ap suc h.0, h.1)) (get-push zs x i y e)

  pub get-before : (xs : List A) (x : A) (i : ℕ) (y : A) → slice_get xs i ≡ Some y → slice_get (xs ++ x ∷ []) i ≡ Some y
  get-before [] x i y e = cc
  get-before (z ∷ zs) x zero y e = e
  get-before (z ∷ zs) x (suc i) y e = get-before zs x i y e

  pub get-last : (xs : List A) (x : A) → slice_get (xs ++ x ∷ []) (length xs) ≡ Some x
  get-last [] x = refl
  get-last (z ∷ zs) x = get-last zs x

  pub get-below : (xs : List A) (i : ℕ) (y : A) → slice_get xs i ≡ Some y → i < length xs
  get-below [] i y e = absurd (let f : ⊥ = cc in f)
  get-below (z ∷ zs) zero y e = omega arith
  get-below (z ∷ zs) (suc i) y e = omega (arith, get-below zs i y e)

  pub length-push : (xs : List A) (x : A) → length (xs ++ x ∷ []) ≡ suc (length xs)
  length-push [] x = refl
  length-push (z ∷ zs) x = ap suc (length-push zs x)

module _ {E : Type 0} where
  pub EachTurn-push : (P : ℕ → SaveTurn E → Type 0) (turns : List (SaveTurn E)) (turn : SaveTurn E) → EachTurn P turns → P (length turns) turn → EachTurn P (turns ++ turn ∷ [])
  EachTurn-push P turns turn before last i t e =
      ⊎_elim (before i t) (λ h. subst (λ (p : ℕ × SaveTurn E). P p.0 p.1) (λ j. (sym h.0 j, h.1 j)) last) (get-push turns turn i t e)

  pub failures-push : (turns : List (SaveTurn E)) (turn : SaveTurn E) → failures_of (turns ++ turn ∷ []) ≡ failures_of turns ++ failures_of (turn ∷ [])
  failures-push turns turn = filter_map-append (λ (t : SaveTurn E). t.failed) turns (turn ∷ [])

  -- what holds of the bytes of a path holds where they are the same
  pub kept-same : (path : List ℕ) (m n : Files) (given : Given E) → get n path ≡ get m path → IfOk given (λ bytes. get m path ≡ Some bytes.items) → IfOk given (λ bytes. get n path ≡ Some bytes.items)
  kept-same path m n (Ok bytes) same h = same ∙ h
  kept-same path m n (Err e) same h = h

  pub IsKept-same : (dir file_name : List ℕ) (m n : Files) (shard : ℕ) (turn : SaveTurn E) → get n (shard_path dir file_name shard) ≡ get m (shard_path dir file_name shard)
      → IsKept dir file_name m shard turn → IsKept dir file_name n shard turn
  IsKept-same dir file_name m n shard turn same h = go turn.failed h
    where
      go : (failed : Option (ShardSaveFailure E)) → IfNone failed (IfOk turn.given (λ bytes. get m (shard_path dir file_name shard) ≡ Some bytes.items)) → IfNone failed (IfOk turn.given (λ bytes. get n (shard_path dir file_name shard) ≡ Some bytes.items))
      go None k = kept-same (shard_path dir file_name shard) m n turn.given same k
      go (Some f) k = k

  -- the same of a file that is old or new
  moved_on : (path : List ℕ) (given : Given E) (old m n : Files) → get n path ≡ get m path → OldOrGiven path given old m → OldOrGiven path given old n
  moved_on path given old m n same (inl e) = inl (same ∙ e)
  moved_on path given old m n same (inr h) = inr (go given h)
    where
      go : (r : Given E) → IsOkAnd r (λ bytes. get m path ≡ Some bytes.items) → IsOkAnd r (λ bytes. get n path ≡ Some bytes.items)
      go (Ok bytes) k = same ∙ k
      go (Err e) k = k

  began_on : (path : List ℕ) (given : Given E) (old mid m : Files) → get mid path ≡ get old path → OldOrGiven path given mid m → OldOrGiven path given old m
  began_on path given old mid m same (inl e) = inl (e ∙ same)
  began_on path given old mid m same (inr h) = inr h

  -- before the first turn
  pub none_yet : (dir file_name : List ℕ) (old m : Files) → m ≡ old → EachOldOrGiven {E = E} dir file_name [] old m
  none_yet dir file_name old m e = record { each = λ i t h. absurd (let f : ⊥ = cc in f); others = λ q h. ap (λ (f : Files). get f q) e }

  module _ (dir file_name : List ℕ) (turns : List (SaveTurn E)) (turn : SaveTurn E) (small : length turns < 2 ^ 64) where
    -- an earlier shard's path is another, and no temp file of this turn
    pub earlier_apart : (i : ℕ) (t : SaveTurn E) → slice_get turns i ≡ Some t
        → (shard_path dir file_name i ≢ shard_path dir file_name (length turns)) × (shard_path dir file_name i ≢ temp_path dir file_name (length turns) turn.word)
    earlier_apart i t e =
        let below = get-below turns i t e in (
          λ same. absurd (omega (arith, below, shard_path-injective dir file_name i (length turns) (omega (arith, below, small)) small same)),
          λ same. temp-apart-shard dir dir file_name file_name (length turns) i turn.word (omega (arith, below, small)) (sym same),
        )

    -- the path of this turn is none of an earlier one
    untouched : (old m : Files) → EachOldOrGiven dir file_name turns old m → get m (shard_path dir file_name (length turns)) ≡ get old (shard_path dir file_name (length turns))
    untouched old m h = h.others (shard_path dir file_name (length turns)) (λ i t e.
        (λ same. (earlier_apart i t e).0 (sym same), λ same. temp-apart-shard dir dir file_name file_name i (length turns) t.word small (sym same)))

    -- what an earlier stop left is what a stop before this turn leaves
    pub one_more : (old m : Files) → EachOldOrGiven dir file_name turns old m → EachOldOrGiven dir file_name (turns ++ turn ∷ []) old m
    one_more old m h = record {
      each = EachTurn-push (λ i t. OldOrGiven (shard_path dir file_name i) t.given old m) turns turn h.each (inl (untouched old m h));
      others = λ q none. h.others q (λ i t e. none i t (get-before turns turn i t e));
    }

    -- and what a stop in it leaves
    pub its_own : (old mid m : Files) → EachOldOrGiven dir file_name turns old mid → IsOldOrGivenWhole dir file_name (length turns) turn mid m
        → EachOldOrGiven dir file_name (turns ++ turn ∷ []) old m
    its_own old mid m h s = record {
      each = EachTurn-push (λ i t. OldOrGiven (shard_path dir file_name i) t.given old m) turns turn
          (λ i t e. let apart = earlier_apart i t e in moved_on (shard_path dir file_name i) t.given old mid m (s.others (shard_path dir file_name i) apart.0 apart.1) (h.each i t e))
          (began_on (shard_path dir file_name (length turns)) turn.given old mid m (untouched old mid h) s.file);
      others = λ q none.
          let last = none (length turns) turn (get-last turns turn) in
          s.others q last.0 last.1 ∙ h.others q (λ i t e. none i t (get-before turns turn i t e));
    }

    -- the files of the shards saved so far stay
    pub still_kept : (mid m : Files) → IsOldOrGivenWhole dir file_name (length turns) turn mid m → EachTurn (IsKept dir file_name mid) turns → EachTurn (IsKept dir file_name m) turns
    still_kept mid m s h i t e =
        let apart = earlier_apart i t e in
        IsKept-same dir file_name mid m i t (s.others (shard_path dir file_name i) apart.0 apart.1) (h i t e)

    -- nor do their paths become loose
    pub still_firm : (before after : List ℕ → Type 0) → ((q : List ℕ) → after q → loosened (temp_path dir file_name (length turns) turn.word) before q)
        → EachTurn (IsFirm dir file_name before) turns → EachTurn (IsFirm dir file_name after) turns
    still_firm before after loosens h i t e = go t.failed (h i t e)
      where
        go : (failed : Option (ShardSaveFailure E)) → IfNone failed (¬ before (shard_path dir file_name i)) → IfNone failed (¬ after (shard_path dir file_name i))
        go None firm = λ l. ⊎_elim (earlier_apart i t e).1 firm (loosens (shard_path dir file_name i) l)
        go (Some f) firm = firm

-- a stop leaves no more than a loss of power
pub whole_of : {E : Type 0} (dir file_name : List ℕ) (shard : ℕ) (turn : SaveTurn E) (old m : Files) → IsOldOrGiven dir file_name shard turn old m → IsOldOrGivenWhole dir file_name shard turn old m
whole_of dir file_name shard turn old m h = record { file = h.file; others = h.others }

module _ {S E : Type 0} (step : S → ℕ → Given E → S → Type 0) where
  pub RunsTo-push : (turns : List (SaveTurn E)) (shard n : ℕ) (f g h : S) (s t u : Stream) (turn : SaveTurn E) → n ≡ length turns + shard
      → RunsTo step shard f s turns g t → step g n turn.given h → (turn.word, u) ≡ next_u32 t → RunsTo step shard f s (turns ++ turn ∷ []) h u
  RunsTo-push [] shard n f g h s t u turn at run met drawn =
      let shard_is : n ≡ shard = omega arith in (
        h,
        subst (λ z. step z shard turn.given h) (sym run.0) (subst (λ k. step g k turn.given h) shard_is met),
        ap (λ p. p.0) drawn ∙ ap (λ z. (next_u32 z).0) (sym run.1),
        (refl, ap (λ z. (next_u32 z).1) run.1 ∙ sym (ap (λ p. p.1) drawn)),
      )
  RunsTo-push (first ∷ turns) shard n f g h s t u turn at run met drawn =
      let later : n ≡ length turns + suc shard = omega arith in
      (run.0, run.1, run.2, RunsTo-push turns (suc shard) n run.0 g h (next_u32 s).1 t u turn later run.3 met drawn)
