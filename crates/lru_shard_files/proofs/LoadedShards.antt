-- What a load makes of files that are old or were saved, shard by shard.
use Rattle.std.proofs.Common.{◌≡◌, ◌≢◌, ◌⊎◌, inl, inr, ⊎_elim, ℕ, suc, ◌+◌, ◌%◌, ◌<◌, ◌≤◌, List, [], ◌∷◌, ◌++◌, length, Some, None, Ok, Err, refl, sym, ◌∙◌, ap, subst, arith, unwrap_or}
use Rattle.std.specs.List.{Any}
use Rattle.std.specs.FinMap.{get}
use Rattle.std.proofs.lemmas.Bool.{cases_eq}
use Rattle.lru_shard.specs.declared.unit.Cause.TheVariants as cause
use Rattle.pingora_lru.specs.Core.{Core, IsCore, list_at, with_list}
use Rattle.pingora_lru.specs.Limits.{cap_of}
use Rattle.pingora_lru.specs.Row.{Row, HasDistinctKeys}
use Rattle.lru_folder.specs.Blames.{blame_of}
use Rattle.lru_folder.specs.Files.{Files, bytes_at}
use Rattle.lru_folder.specs.Meaning.{Meaning}
use Rattle.lru_folder.specs.Names.{shard_path}
use Rattle.lru_folder.specs.declared.errors.ShardLoadFailure.{ShardLoadFailure}
use Rattle.lru_folder.specs.declared.errors.ShardLoadFailure.TheVariants as failure
use Rattle.lru_folder.specs.declared.fault.FolderFault.{FolderFault}
use Rattle.lru_folder.specs.declared.fault.FolderFault.TheVariants.{NotFound, Memory, Io}
use Rattle.lru_shard_files.specs.Loading.{LoadTurn, Missing, Unread, Given, TurnCalls, CallsFrom, IsTrueTurn, AreTrueFrom, IsUnread, failure_of, failures_from}
use Rattle.lru_shard_files.specs.declared.snapshot.Keyed.{Keyed}
use Rattle.lru_shard_files.specs.declared.snapshot.LoadError.{LoadError}
use Rattle.lru_shard_files.specs.declared.snapshot.LoadError.TheVariants as unloaded
use Rattle.lru_shard_files.specs.SnapshotLoads.{AreLoadable, Loads, LoadsShard, limit_passed, rows_of}
use Rattle.lru_shard_files.specs.SnapshotSaves.{AreBytesOf}
use Rattle.lru_shard_files.specs.Stores.{TellAllKeys}
use Rattle.lru_shard_files.proofs.RoundTrips.{any-here, any-later, refused, unmoved, turn_length, turn_others}
use Rattle.lru_shard_files.proofs.SnapshotLoadLemmas.{list_at-with}
use Rattle.lru_shard_files.specs.Crashes.{AreOldOrSaved, CanBeLoaded, ComesBack, SaveThenLoad, TellsWhy, rows_at}

any_behind : {X : Type 0} (P : X → Type 0) (xs ys : List X) → Any P ys → Any P (xs ++ ys)
any_behind P [] ys a = a
any_behind P (x ∷ xs) ys a = any-later P x (xs ++ ys) (any_behind P xs ys a)

-- a fault of a file that is there is one of memory or of the device
of_either : (fault : FolderFault) → fault ≢ NotFound → (fault ≡ Memory) ⊎ (fault ≡ Io)
of_either NotFound there = absurd (there refl)
of_either Memory there = inl refl
of_either Io there = inr refl

-- what can be loaded into a shard without rows is loadable there
module _ (n shard : ℕ) (bytes : List ℕ) (before : Core Keyed) (long : length before.lists ≡ n) (empty : list_at before shard ≡ []) (can : CanBeLoaded n shard bytes) where
  rows_are : rows_of bytes ≡ list_at before shard ++ rows_of bytes
  rows_are = ap (λ (xs : List (Row Keyed)). xs ++ rows_of bytes) (sym empty)

  can_be : AreLoadable before shard bytes
  can_be = record {
    whole = can.whole;
    joins = record {
      homes = λ q some. ap (λ l. q % l) long ∙ can.homes q some;
      keys = subst (λ (rows : List (Row Keyed)). HasDistinctKeys rows) rows_are can.keys;
    };
  }

  no_limit : limit_passed (cap_of (length before.lists)) (list_at before shard ++ rows_of bytes) ≡ None
  no_limit = (λ i. limit_passed (cap_of (long i)) (sym rows_are i)) ∙ can.light

  -- so a refusal is for want of memory
  lacks : (error : LoadError) (after : Core Keyed) → Loads before shard bytes (Err error) after → error ≡ unloaded.Unit cause.Memory
  lacks unloaded.Damaged after h = absurd (h.0 can_be)
  lacks (unloaded.Unit cause.Memory) after h = refl
  lacks (unloaded.Unit cause.Weight) after h = absurd (let e = sym no_limit ∙ h.1.0 in let f : ⊥ = cc in f)
  lacks (unloaded.Unit cause.Length) after h = absurd (let e = sym no_limit ∙ h.1.0 in let f : ⊥ = cc in f)

-- a refusal for another cause than memory shows that the bytes can't be loaded
why_refused : (n shard : ℕ) (bytes : List ℕ) (before after : Core Keyed) → length before.lists ≡ n → list_at before shard ≡ [] → (error : LoadError) → Loads before shard bytes (Err error) after
    → (error ≡ unloaded.Unit cause.Memory) ⊎ ¬ (CanBeLoaded n shard bytes)
why_refused n shard bytes before after long empty unloaded.Damaged h = inr (λ can. let e = lacks n shard bytes before long empty can unloaded.Damaged after h in let f : ⊥ = cc in f)
why_refused n shard bytes before after long empty (unloaded.Unit cause.Memory) h = inl refl
why_refused n shard bytes before after long empty (unloaded.Unit cause.Weight) h =
    inr (λ can. let e = lacks n shard bytes before long empty can (unloaded.Unit cause.Weight) after h in let f : ⊥ = cc in f)
why_refused n shard bytes before after long empty (unloaded.Unit cause.Length) h =
    inr (λ can. let e = lacks n shard bytes before long empty can (unloaded.Unit cause.Length) after h in let f : ⊥ = cc in f)

module _ (kept rose : Type 0) (files was : Files) (dir file_name : List ℕ) (n : ℕ) (saved : Core Keyed) (k : kept) (valid : IsCore n saved) (tell : TellAllKeys saved)
    (left : AreOldOrSaved dir file_name n saved was files) where
  abbrev path : ℕ → List ℕ
  path s = shard_path dir file_name s

  -- a shard, after a load with these failures
  abbrev IsBack : Core Keyed → List (ShardLoadFailure LoadError) → ℕ → Type 0
  IsBack back failures s =
      (list_at back s ≡ rows_at was dir file_name s) ⊎ ((list_at back s ≡ list_at saved s) ⊎ ((list_at back s ≡ []) × Any (TellsWhy n s (bytes_at was (path s))) failures))

  behind : (back : Core Keyed) (front failures : List (ShardLoadFailure LoadError)) (s : ℕ) → IsBack back failures s → IsBack back (front ++ failures) s
  behind back front failures s (inl old) = inl old
  behind back front failures s (inr (inl new)) = inr (inl new)
  behind back front failures s (inr (inr none)) = inr (inr (none.0, any_behind (TellsWhy n s (bytes_at was (path s))) front failures none.1))

  -- later turns leave a shard alone
  stays : (shard : ℕ) (before after : Core Keyed) (turns : List (LoadTurn LoadError)) → CallsFrom LoadsShard shard before turns after → (s : ℕ) → s < shard → list_at after s ≡ list_at before s
  stays shard before after [] calls s lt = ap (λ c. list_at c s) calls
  stays shard before after (turn ∷ turns) calls s lt =
      stays (suc shard) calls.0 after turns calls.2 s (omega arith) ∙ turn_others shard before calls.0 turn calls.1 s (λ e. omega arith)

  -- why its file was not read
  why_unread : (s : ℕ) (f : ShardLoadFailure LoadError) → IsUnread kept rose (path s) s f → TellsWhy n s (bytes_at was (path s)) f
  why_unread s (failure.Io number source) h = (h.0, ⊎_elim inl (λ io. inr (inl io)) (of_either (blame_of source).cause (h.1.cause k).0))
  why_unread s (failure.Memory number) h = (h, inl tt)
  why_unread s (failure.Deserialize number source) h = absurd h

  module _ (s : ℕ) (lt : s < n) (before mid after : Core Keyed) (long : length before.lists ≡ n) (empty : list_at before s ≡ []) (later : list_at after s ≡ list_at mid s) where
    -- it has no file, so it had none
    of_missing : mid ≡ before → get files (path s) ≡ None → list_at after s ≡ rows_at was dir file_name s
    of_missing same none = ⊎_elim
        (λ old. later ∙ ap (λ c. list_at c s) same ∙ empty ∙ sym (ap (λ o. rows_of (unwrap_or o [])) (sym old ∙ none)))
        (λ new. absurd (let e = sym none ∙ new.1.0 in let f : ⊥ = cc in f)) (left s lt)

    -- its bytes were loaded
    of_loaded : (bytes : List ℕ) → get files (path s) ≡ Some bytes → mid ≡ with_list before s (list_at before s ++ rows_of bytes)
        → (list_at after s ≡ rows_at was dir file_name s) ⊎ (list_at after s ≡ list_at saved s)
    of_loaded bytes is now =
        let rows : list_at after s ≡ rows_of bytes =
        later ∙ ap (λ c. list_at c s) now ∙ list_at-with before s (list_at before s ++ rows_of bytes) (omega (arith, long, lt)) ∙ ap (λ (xs : List (Row Keyed)). xs ++ rows_of bytes) empty in
        ⊎_elim
        (λ old. inl (rows ∙ sym (ap (λ o. rows_of (unwrap_or o [])) (sym old ∙ is))))
        (λ new. inr (rows ∙ ap rows_of (let e : bytes ≡ new.0 = (let f : Some bytes ≡ Some new.0 = sym is ∙ new.1.0 in cc) in e) ∙ new.1.1.back (tell s))) (left s lt)

    -- its bytes were refused
    of_refused : (bytes : List ℕ) (error : LoadError) → get files (path s) ≡ Some bytes → Loads before s bytes (Err error) mid → TellsWhy n s (bytes_at was (path s)) (failure.Deserialize s error)
    of_refused bytes error is h = ⊎_elim
        (λ old. (
          refl,
          subst (λ (o : List ℕ). (error ≡ unloaded.Unit cause.Memory) ⊎ (⊥ ⊎ ¬ (CanBeLoaded n s o))) (sym (ap (λ o. unwrap_or o []) (sym old ∙ is)))
              (⊎_elim inl (λ no. inr (inr no)) (why_refused n s bytes before mid long empty error h)),
        ))
        (λ new. (
          refl,
          inl (refused n saved valid tell s before bytes lt long empty
              (subst (AreBytesOf saved s) (let e : new.0 ≡ bytes = (let f : Some new.0 ≡ Some bytes = sym new.1.0 ∙ is in cc) in e) new.1.1) error mid h),
        )) (left s lt)

    -- its turn
    pub of_turn : (turn : LoadTurn LoadError) (failures : List (ShardLoadFailure LoadError)) → TurnCalls LoadsShard s before turn mid → IsTrueTurn kept rose files (path s) s turn
        → IsBack after (failure_of s turn ++ failures) s
    of_turn Missing failures call so = inl (of_missing call (so k))
    of_turn (Unread f) failures call so =
        inr (inr (later ∙ ap (λ c. list_at c s) call ∙ empty, any-here (TellsWhy n s (bytes_at was (path s))) f failures (why_unread s f so)))
    of_turn (Given bytes (Ok ok)) failures call so =
        ⊎_elim inl (λ new. inr (inl new)) (of_loaded (call.0).now (so k ∙ ap Some (sym call.1)) call.2.1.1.1.1)
    of_turn (Given bytes (Err error)) failures call so =
        inr (inr (
          later ∙ ap (λ c. list_at c s) (unmoved before mid s (call.0).now error call.2) ∙ empty,
          any-here (TellsWhy n s (bytes_at was (path s))) (failure.Deserialize s error) failures (of_refused (call.0).now error (so k ∙ ap Some (sym call.1)) call.2),
        ))

  -- all turns
  pub comes_back : (shard : ℕ) (before after : Core Keyed) (turns : List (LoadTurn LoadError)) → CallsFrom LoadsShard shard before turns after → AreTrueFrom kept rose files dir file_name shard turns
      → shard + length turns ≡ n → length before.lists ≡ n → ((s : ℕ) → shard ≤ s → list_at before s ≡ []) → (s : ℕ) → shard ≤ s → s < n → IsBack after (failures_from shard turns) s
  comes_back shard before after [] calls so count long rest s le lt = absurd (omega arith)
  comes_back shard before after (turn ∷ turns) calls so count long rest s le lt =
      let mid = calls.0 in
      let failures = failures_from (suc shard) turns in
      elim (cases_eq s shard) [
        | inl e ↦ subst (λ q. IsBack after (failure_of shard turn ++ failures) q) (sym e)
            (of_turn shard (omega arith) before mid after long (rest shard (omega arith)) (stays (suc shard) mid after turns calls.2 shard (omega arith)) turn failures calls.1 so.0)
        | inr ne ↦ behind after (failure_of shard turn) failures s
            (comes_back (suc shard) mid after turns calls.2 so.1 (omega arith) (turn_length shard before mid turn calls.1 ∙ long)
            (λ q above. turn_others shard before mid turn calls.1 q (λ e. omega arith) ∙ rest q (omega arith)) s (omega arith) lt)
      ]

-- the same of a whole load
pub run_back : {F : Type 0} (meaning : Meaning F) (n : ℕ) (run : SaveThenLoad meaning n) (was : Files)
    → AreOldOrSaved run.dir run.file_name n run.core was (meaning.files run.found) → ComesBack run was
run_back meaning n run was left s lt =
    let load = run.loads.loads.load in
    let back = comes_back (meaning.keeps run.found) (meaning.faults run.found < meaning.faults run.after) (meaning.files run.found) was run.dir run.file_name n run.core
    run.found_keeps run.is_core run.tells left 0 run.empty run.back load.turns load.calls load.so (omega (arith, load.each)) run.as_long (λ q above. run.is_empty q) s (omega arith) lt in
    subst (λ (failures : List (ShardLoadFailure LoadError)). (list_at run.back s ≡ rows_at was run.dir run.file_name s) ⊎ ((list_at run.back s ≡ list_at run.core s)
    ⊎ ((list_at run.back s ≡ []) × Any (TellsWhy n s (bytes_at was (shard_path run.dir run.file_name s))) failures))) (sym load.failed_shards) back
