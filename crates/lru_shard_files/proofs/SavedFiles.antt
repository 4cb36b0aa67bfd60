-- What is left of a folder, at any moment of a save or of a load before it: each shard's file is old or was saved.
use Rattle.std.proofs.Common.{◌≡◌, ◌⊎◌, inl, inr, ⊎_elim, ℕ, ◌+◌, ◌<◌, ◌^◌, List, Some, Ok, Err, IfOk, refl, sym, ◌∙◌, ap, subst, arith}
use Rattle.std.specs.Prelude.{Contains}
use Rattle.std.specs.FinMap.{get}
use Rattle.std.specs.declared.alloc.AllocError.{AllocError}
use Rattle.rand_core.specs.Stream.{Stream}
use Rattle.pingora_lru.specs.Core.{Core}
use Rattle.lru_folder.specs.declared.errors.ShardSaveError.TheVariants.{Setup, AllShardsFailed}
use Rattle.lru_folder.specs.declared.errors.ShardSaveSetupError.TheVariants.{CreateDir}
use Rattle.lru_folder.specs.declared.errors.ShardSaveSetupError.TheVariants as setup
use Rattle.lru_folder.specs.Files.{Files, Same}
use Rattle.lru_folder.specs.Folder.{LeavesOnly, Passes}
use Rattle.lru_folder.specs.Losses.{IsFromStart, Loses, LosesOnly, looking}
use Rattle.lru_folder.specs.Meaning.{Meaning}
use Rattle.lru_folder.specs.Names.{shard_path}
use Rattle.lru_folder.specs.Sparing.{IsAsItWasBut, SparesAllBut}
use Rattle.lru_folder.proofs.LossLemmas.{loss_started, loses_on, then_loses}
use Rattle.lru_folder.proofs.Moments.{started, goes_on, then_run}
use Rattle.lru_folder.proofs.SparingLemmas.{spares_started}
use Rattle.lru_shard_files.specs.Cleanup.{temp_paths}
use Rattle.lru_shard_files.proofs.CleanupNames.{shard-no_temp_path}
use Rattle.lru_shard_files.specs.Saves.{TakesTurns}
use Rattle.lru_shard_files.specs.Turns.{EachOldOrGiven, Given, OldOrGiven}
use Rattle.lru_shard_files.specs.declared.snapshot.Keyed.{Keyed}
use Rattle.lru_shard_files.specs.SnapshotSaves.{AreBytesOf, GivesShard}
use Rattle.lru_shard_files.specs.Stores.{SaveResult, LoadResult, SavesCore, LoadsCore}
use Rattle.lru_shard_files.proofs.RoundTrips.{get_some, run_gives}
use Rattle.lru_shard_files.specs.Crashes.{AreOldOrSaved}

module _ (dir file_name : List ℕ) (n : ℕ) (core : Core Keyed) where
  abbrev R : Files → Files → Type 0
  R = AreOldOrSaved dir file_name n core

  r_same : (was m : Files) → m ≡ was → R was m
  r_same was m is s lt = inl (ap (λ (f : Files). get f (shard_path dir file_name s)) is)

  r_then : (a b c : Files) → R a b → R b c → R a c
  r_then a b c first second s lt = ⊎_elim (λ same. ⊎_elim (λ was. inl (same ∙ was)) (λ h. inr (h.0, (same ∙ h.1.0, h.1.1))) (first s lt)) inr (second s lt)

  -- a shard's file among those of some paths that are spared
  r_spared : (paths : List (List ℕ)) → ((s : ℕ) → s < n → ¬ (Contains paths (shard_path dir file_name s))) → (was m : Files) → IsAsItWasBut paths was m → R was m
  r_spared paths apart was m h s lt = ⊎_elim inl (λ gone. absurd (apart s lt gone.0)) (h (shard_path dir file_name s))

  of_given : (was m : Files) (s : ℕ) (given : Given AllocError) → IfOk given (λ bytes. AreBytesOf core s bytes.items) → OldOrGiven (shard_path dir file_name s) given was m
      → (get m (shard_path dir file_name s) ≡ get was (shard_path dir file_name s)) ⊎ ((bytes : List ℕ) × ((get m (shard_path dir file_name s) ≡ Some bytes) × AreBytesOf core s bytes))
  of_given was m s given those (inl same) = inl same
  of_given was m s (Ok bytes) those (inr whole) = inr (bytes.items, (whole, those))
  of_given was m s (Err e) those (inr whole) = absurd whole

  module _ {F : Type 0} (meaning : Meaning F) where
    -- after the turns of a save
    r_turns : (drawn rest : Stream) (old new : F) (answer : SaveResult) → (h : TakesTurns meaning (GivesShard core) dir file_name n tt drawn old answer rest new)
        → (was m : Files) → EachOldOrGiven dir file_name h.turns was m → R was m
    r_turns drawn rest old new answer h was m each s lt =
        let at = get_some h.turns s (omega (arith, h.ends.all)) in
        let turn = at.0 in
        let those = run_gives core 0 tt h.last drawn rest h.turns h.run s turn at.1 in
        of_given was m s turn.given (subst (λ (k : ℕ). IfOk turn.given (λ bytes. AreBytesOf core k bytes.items)) (let e : 0 + s ≡ s = omega arith in e) those) (each.each s turn at.1)

    -- at any moment of a run
    Leaves : F → F → Type 0
    Leaves old new = LeavesOnly meaning (R (meaning.files old)) old new

    leaves_turns : (drawn rest : Stream) (old new : F) (answer : SaveResult) → meaning.keeps old → TakesTurns meaning (GivesShard core) dir file_name n tt drawn old answer rest new
        → LeavesOnly meaning (R (meaning.files old)) old new
    leaves_turns drawn rest old new answer k h =
        let all = (h.saves k).any_moment in
        let r = r_turns drawn rest old new answer h (meaning.files old) in
        record {
          later = all.later;
          each = λ m s. r m (all.each m s);
          now = r (meaning.files new) all.now;
          before = λ t m le s. ⊎_elim inl (λ p. inr (r m p)) (all.before t m le s);
        }

    loses_turns : (drawn rest : Stream) (old new : F) (answer : SaveResult) → meaning.keeps old → TakesTurns meaning (GivesShard core) dir file_name n tt drawn old answer rest new
        → LosesOnly meaning R old new
    loses_turns drawn rest old new answer k h =
        let all = (h.saves k).any_loss in
        let from : (m : Files) → IsFromStart meaning (EachOldOrGiven dir file_name h.turns) old m → IsFromStart meaning R old m
        = λ m p. (p.0, (p.1.0, r_turns drawn rest old new answer h p.0 m p.1.1)) in
        record {
          later = all.later;
          each = λ m s. from m (all.each m s);
          now = λ m s. from m (all.now m s);
          before = λ t m le s. ⊎_elim inl (λ p. inr (from m p)) (all.before t m le s);
        }

    -- nothing was done yet
    leaves_none : (old : F) → meaning.keeps old → LeavesOnly meaning (R (meaning.files old)) old old
    leaves_none old k = started meaning (R (meaning.files old)) old k (λ m is. r_same (meaning.files old) m is) (r_same (meaning.files old) (meaning.files old) refl)

    loses_none : (old : F) → LosesOnly meaning R old old
    loses_none old = loss_started meaning R old (λ m. r_same m m refl)

    -- or the folder alone was made
    leaves_made : (old new : F) → meaning.keeps old → Passes meaning Same old new → LeavesOnly meaning (R (meaning.files old)) old new
    leaves_made old new k time = goes_on meaning (R (meaning.files old)) Same old old new (leaves_none old k) time (λ m is. r_same (meaning.files old) m is)

    loses_made : (old new : F) → Passes meaning Same old new → Loses meaning looking old new → LosesOnly meaning R old new
    loses_made old new time loss = loses_on meaning R looking old old new time.later (loses_none old) loss (λ m none. absurd none)

    -- a save
    pub leaves_saved : (drawn rest : Stream) (old new : F) (answer : SaveResult) → meaning.keeps old → SavesCore meaning dir file_name n core drawn old answer rest new
        → LeavesOnly meaning (R (meaning.files old)) old new
    leaves_saved drawn rest old new (Ok report) k h = leaves_turns drawn rest old new (Ok report) k (h.turns tt)
    leaves_saved drawn rest old new (Err (AllShardsFailed count all)) k h = leaves_turns drawn rest old new (Err (AllShardsFailed count all)) k (h.turns tt)
    leaves_saved drawn rest old new (Err (Setup (CreateDir path source))) k h = leaves_made old new k (h.time k)
    leaves_saved drawn rest old new (Err (Setup setup.Memory)) k h = subst (λ (f : F). LeavesOnly meaning (R (meaning.files old)) old f) (sym (h.early refl)) (leaves_none old k)

    pub loses_saved : (drawn rest : Stream) (old new : F) (answer : SaveResult) → meaning.keeps old → SavesCore meaning dir file_name n core drawn old answer rest new
        → LosesOnly meaning R old new
    loses_saved drawn rest old new (Ok report) k h = loses_turns drawn rest old new (Ok report) k (h.turns tt)
    loses_saved drawn rest old new (Err (AllShardsFailed count all)) k h = loses_turns drawn rest old new (Err (AllShardsFailed count all)) k (h.turns tt)
    loses_saved drawn rest old new (Err (Setup (CreateDir path source))) k h = loses_made old new (h.time k) (h.loss k)
    loses_saved drawn rest old new (Err (Setup setup.Memory)) k h = subst (λ (f : F). LosesOnly meaning R old f) (sym (h.early refl)) (loses_none old)

    -- a load spares each shard's file
    module _ (small : n < 2 ^ 64) where
      spared_load : (before held : Core Keyed) (begun old : F) (answer : LoadResult) → meaning.keeps begun → LoadsCore meaning dir file_name n before begun answer held old
          → SparesAllBut meaning (temp_paths dir file_name (meaning.files begun)) begun old
      spared_load before held begun old (Ok report) k h = h.loads.spares k
      spared_load before held begun old (Err refused) k h =
          subst (λ (f : F). SparesAllBut meaning (temp_paths dir file_name (meaning.files begun)) begun f) (sym h.unmoved.0) (spares_started meaning (temp_paths dir file_name (meaning.files begun)) begun k)

      apart : (files : Files) (s : ℕ) → s < n → ¬ (Contains (temp_paths dir file_name files) (shard_path dir file_name s))
      apart files s lt = shard-no_temp_path dir file_name s (omega (arith, lt, small)) files

      leaves_spared : (begun old : F) → SparesAllBut meaning (temp_paths dir file_name (meaning.files begun)) begun old → LeavesOnly meaning (R (meaning.files begun)) begun old
      leaves_spared begun old spared =
          let temps = temp_paths dir file_name (meaning.files begun) in
          let all = spared.any_moment in
          let r = r_spared temps (apart (meaning.files begun)) (meaning.files begun) in
          record {
            later = all.later;
            each = λ m s. r m (all.each m s);
            now = r (meaning.files old) all.now;
            before = λ t m le s. ⊎_elim inl (λ p. inr (r m p)) (all.before t m le s);
          }

      loses_spared : (begun old : F) → SparesAllBut meaning (temp_paths dir file_name (meaning.files begun)) begun old → LosesOnly meaning R begun old
      loses_spared begun old spared =
          let temps = temp_paths dir file_name (meaning.files begun) in
          let all = spared.any_loss in
          let from : (m : Files) → IsFromStart meaning (IsAsItWasBut temps) begun m → IsFromStart meaning R begun m
          = λ m p. (p.0, (p.1.0, r_spared temps (apart (meaning.files begun)) p.0 m p.1.1)) in
          record {
            later = all.later;
            each = λ m s. from m (all.each m s);
            now = λ m s. from m (all.now m s);
            before = λ t m le s. ⊎_elim inl (λ p. inr (from m p)) (all.before t m le s);
          }

      -- a load, and then a save
      module _ (before held : Core Keyed) (begun old new : F) (loaded : LoadResult) (drawn rest : Stream) (answer : SaveResult) (k : meaning.keeps begun) (k' : meaning.keeps old)
          (loads : LoadsCore meaning dir file_name n before begun loaded held old) (saves : SavesCore meaning dir file_name n core drawn old answer rest new) where
        pub leaves_both : LeavesOnly meaning (R (meaning.files begun)) begun new
        leaves_both =
            let first = leaves_spared begun old (spared_load before held begun old loaded k loads) in
            then_run meaning (R (meaning.files begun)) (R (meaning.files old)) (R (meaning.files begun)) begun old new first (leaves_saved drawn rest old new answer k' saves)
            (λ m h. h) (λ m h. r_then (meaning.files begun) (meaning.files old) m first.now h)

        pub loses_both : LosesOnly meaning R begun new
        loses_both = then_loses meaning R R R begun old new (loses_spared begun old (spared_load before held begun old loaded k loads)) (loses_saved drawn rest old new answer k' saves)
            (λ was m h. h) (λ was mid m first second. r_then was mid m first second)
