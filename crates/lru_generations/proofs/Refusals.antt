-- Why a generation was refused, told from another moment.
use Rattle.std.proofs.Common.{◌≡◌, inl, inr, ℕ, List, Option, Some, None, sym, ◌∙◌, ap, subst}
use Rattle.std.specs.FinMap.{get}
use Rattle.lru_folder.specs.Files.{Files}
use Rattle.lru_folder.specs.Meaning.{Meaning}
use Rattle.lru_frames.specs.declared.errors.FrameError.TheVariants as frame
use Rattle.lru_frames.specs.declared.errors.Part.{Part}
use Rattle.lru_frames.specs.declared.frame.Header.{Header}
use Rattle.lru_frames.specs.declared.mark.Mark.{Mark}
use Rattle.lru_frames.specs.Causes.{IsWrong}
use Rattle.lru_frames.specs.Marks.{IsWrongFrame}
use Rattle.lru_generations.specs.Manifests.{manifest_bytes}
use Rattle.lru_generations.specs.Names.{manifest_path, frame_path}
use Rattle.lru_generations.specs.declared.file_errors.CallFault.{CallFault}
use Rattle.lru_generations.specs.Touching.{HasReason}
use Rattle.lru_generations.specs.declared.errors.CheckpointError.{CheckpointError}
use Rattle.lru_generations.specs.declared.errors.CheckpointError.TheVariants.{Memory, Folder, Missing, Damaged, Other, LastGeneration, InUse}
use Rattle.lru_generations.specs.Checkpoints.{IsWholeFrame}
use Rattle.lru_generations.specs.Loads.{IsCallFault, IsFault, IsOtherFrame, IsRefused, IsRefusedByCheck, IsRefusedFrame, IsRefusedManifest, IsRefusedShard}
use Rattle.std.specs.Prelude.{IsTrue}
use Rattle.lru_folder.specs.Places.{can_list}
use Rattle.lru_generations.specs.Faults.{IsFailed, IsUnlisted}

module _ {F : Type 0} (meaning : Meaning F) (dir file_name : List ℕ) where
  -- what blames a file is told by the files alone
  module _ (a b c d : F) (files : meaning.files a ≡ meaning.files c) where
    there : (path : List ℕ) (found : Option (List ℕ)) → get (meaning.files a) path ≡ found → get (meaning.files c) path ≡ found
    there path found h = ap (λ (f : Files). get f path) (sym files) ∙ h

    manifest_again : (generation : ℕ) (error : CheckpointError) → ¬ IsFault error → IsRefusedManifest meaning dir file_name generation a b error → IsRefusedManifest meaning dir file_name generation c d error
    manifest_again generation Memory blames h = absurd (blames tt)
    manifest_again generation (Folder at fault) blames h = absurd (blames tt)
    manifest_again generation (Missing at) blames h = (h.0, there (manifest_path dir file_name generation) None h.1)
    manifest_again generation (Damaged at part) blames h = (h.0, (h.1.0, (there (manifest_path dir file_name generation) (Some h.1.0) h.1.1.0, h.1.1.1)))
    manifest_again generation (Other at) blames h = (h.0, (h.1.0, (there (manifest_path dir file_name generation) (Some h.1.0) h.1.1.0, h.1.1.1)))
    manifest_again generation LastGeneration blames h = h
    manifest_again generation InUse blames h = h

    shard_again : (IsDamage : Part → List ℕ → Type 0) (IsOther : List ℕ → Type 0) (generation shard : ℕ) (error : CheckpointError) → ¬ IsFault error
        → IsRefusedShard meaning IsDamage IsOther dir file_name generation shard a b error → IsRefusedShard meaning IsDamage IsOther dir file_name generation shard c d error
    shard_again IsDamage IsOther generation shard Memory blames h = absurd (blames tt)
    shard_again IsDamage IsOther generation shard (Folder at fault) blames h = absurd (blames tt)
    shard_again IsDamage IsOther generation shard (Missing at) blames h = (h.0, there (frame_path dir file_name generation shard) None h.1)
    shard_again IsDamage IsOther generation shard (Damaged at part) blames h = (h.0, (h.1.0, (there (frame_path dir file_name generation shard) (Some h.1.0) h.1.1.0, h.1.1.1)))
    shard_again IsDamage IsOther generation shard (Other at) blames h = (h.0, (h.1.0, (there (frame_path dir file_name generation shard) (Some h.1.0) h.1.1.0, h.1.1.1)))
    shard_again IsDamage IsOther generation shard LastGeneration blames h = h
    shard_again IsDamage IsOther generation shard InUse blames h = h

    again : (IsShard : Header → Mark → F → F → CheckpointError → Type 0) (generation : ℕ) (error : CheckpointError) → ¬ IsFault error
        → ((header : Header) (mark : Mark) → IsShard header mark a b error → IsShard header mark c d error)
        → IsRefused meaning IsShard dir file_name generation a b error → IsRefused meaning IsShard dir file_name generation c d error
    again IsShard generation error blames shard (inl m) = inl (manifest_again generation error blames m)
    again IsShard generation error blames shard (inr s) = inr (
      s.0,
      (
        s.1.0,
        (
          there (manifest_path dir file_name generation) (Some (manifest_bytes generation s.0)) s.1.1.0,
          (s.1.1.1.0, (s.1.1.1.1.0, (s.1.1.1.1.1.0, shard _ s.1.1.1.1.0 s.1.1.1.1.1.1))),
        ),
      ),
    )

    pub check_again : (generation : ℕ) (error : CheckpointError) → ¬ IsFault error → IsRefused meaning (IsRefusedByCheck meaning dir file_name) dir file_name generation a b error
        → IsRefused meaning (IsRefusedByCheck meaning dir file_name) dir file_name generation c d error
    check_again generation error blames h = again (IsRefusedByCheck meaning dir file_name) generation error blames
        (λ header mark s. shard_again IsWrongFrame (λ bytes. ¬ IsWholeFrame header mark bytes) header.generation header.shard error blames s) h

    module _ {K V : Type 0} (key_bytes : K → List ℕ) (IsKey : K → Type 0) (data_bytes : V → List ℕ) (IsData : V → Type 0) where
      pub frame_again : (generation : ℕ) (error : CheckpointError) → ¬ IsFault error
          → IsRefused meaning (IsRefusedFrame meaning key_bytes IsKey data_bytes IsData dir file_name) dir file_name generation a b error
          → IsRefused meaning (IsRefusedFrame meaning key_bytes IsKey data_bytes IsData dir file_name) dir file_name generation c d error
      frame_again generation error blames h = again (IsRefusedFrame meaning key_bytes IsKey data_bytes IsData dir file_name) generation error blames
          (λ header mark s. shard_again (λ part bytes. IsWrong key_bytes IsKey data_bytes IsData (frame.Damaged part) bytes) (IsOtherFrame meaning key_bytes IsKey data_bytes IsData header mark)
          header.generation header.shard error blames s) h

  -- what blames none is told from an earlier folder, with no fault since
  module _ (start mid new : F) (faults : meaning.faults mid ≡ meaning.faults start) where
    call_failed : (fault : CallFault) → IsCallFault meaning mid new fault → IsCallFault meaning start new fault
    call_failed fault h = (h.0, subst (λ n. HasReason ⊥ n (meaning.faults new) fault.source) faults h.1)

    pub failed_from : (error : CheckpointError) → IsFailed meaning mid new error → IsFailed meaning start new error
    failed_from Memory h = h ∙ faults
    failed_from (Folder at fault) h = call_failed fault h
    failed_from (Missing at) h = h
    failed_from (Damaged at part) h = h
    failed_from (Other at) h = h
    failed_from LastGeneration h = h
    failed_from InUse h = h

    -- so it is with names that were not listed
    pub unlisted_from : meaning.folders mid ≡ meaning.folders start → (error : CheckpointError) → IsUnlisted meaning dir mid new error → IsUnlisted meaning dir start new error
    unlisted_from places Memory h = h ∙ faults
    unlisted_from places (Folder at fault) h = (
      h.0,
      (
        h.1.0,
        subst (λ n. HasReason (¬ IsTrue (can_list (meaning.folders start) dir)) n (meaning.faults new) fault.source) faults
            (subst (λ f. HasReason (¬ IsTrue (can_list f dir)) (meaning.faults mid) (meaning.faults new) fault.source) places h.1.1),
      ),
    )
    unlisted_from places (Missing at) h = h
    unlisted_from places (Damaged at part) h = h
    unlisted_from places (Other at) h = h
    unlisted_from places LastGeneration h = h
    unlisted_from places InUse h = h
