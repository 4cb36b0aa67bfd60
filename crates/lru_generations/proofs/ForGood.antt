-- What a save leaves of a generation's files, and what a loss of power leaves of a checkpoint whose names were synced.
use Rattle.std.proofs.Common.{◌≡◌, inl, inr, ⊎_elim, ℕ, ◌<◌, ◌≤◌, ◌^◌, List, length, false, refl, sym, ◌∙◌, subst, arith}
use Rattle.lru_folder.specs.Files.{Files, Same}
use Rattle.lru_folder.specs.Folder.{Passes}
use Rattle.lru_folder.specs.Losses.{Loses, looking}
use Rattle.lru_folder.specs.Meaning.{Meaning}
use Rattle.lru_folder.specs.Names.{has_slash}
use Rattle.lru_folder.proofs.LossLemmas.{loses_on}
use Rattle.lru_folder.proofs.Moments.{goes_on}
use Rattle.lru_folder.specs.SyncedNames.{HasNames, IsIn}
use Rattle.lru_frames.specs.declared.row.Row.{Row}
use Rattle.lru_generations.specs.declared.names.PartName.{PartName}
use Rattle.lru_generations.specs.declared.names.PartName.TheVariants.{Frame, Manifest, Temp}
use Rattle.lru_generations.specs.Names.{IsPart, part_path, part_text, frame_path, manifest_path}
use Rattle.lru_generations.proofs.NameLaws.{has_slash-part_text}
use Rattle.lru_generations.specs.Touching.{IsSameBut, TouchesOnly}
use Rattle.lru_generations.specs.declared.errors.CheckpointError.{CheckpointError}
use Rattle.lru_generations.specs.declared.errors.CheckpointError.TheVariants as error
use Rattle.lru_generations.specs.Causes.{HasSaveReason}
use Rattle.lru_generations.specs.Checkpoints.{Shards, AreFirm, AreHandedOut, HasCheckpoint, IsOldOrNew, IsPartOf, SavesCheckpoint, most_shards}
use Rattle.lru_generations.specs.Loads.{IsFault}
use Rattle.lru_generations.proofs.Lists.{get-below}
use Rattle.lru_generations.proofs.Saved.{frame-apart-manifest, temp-apart-manifest, leaves_more, loses_more}
use Rattle.lru_generations.specs.Saving.{IsUnfinished}

-- a part has a name in the folder
pub part_in : (dir file_name : List ℕ) → has_slash file_name ≡ false → (part : PartName) → IsPart part → IsIn dir (part_path dir file_name part)
part_in dir file_name none part is = (part_text file_name part, (has_slash-part_text file_name part is ∙ none, refl))

-- what was not saved failed for memory or for the device
pub save_fault : {F : Type 0} (meaning : Meaning F) (dir file_name : List ℕ) (generation : ℕ) (old new : F) (e : CheckpointError) → HasSaveReason meaning dir file_name generation old new e → IsFault e
save_fault meaning dir file_name generation old new error.Memory h = tt
save_fault meaning dir file_name generation old new (error.Folder file fault) h = tt
save_fault meaning dir file_name generation old new (error.Missing file) h = absurd h
save_fault meaning dir file_name generation old new (error.Damaged file part) h = absurd h
save_fault meaning dir file_name generation old new (error.Other file) h = absurd h
save_fault meaning dir file_name generation old new error.LastGeneration h = absurd h
save_fault meaning dir file_name generation old new error.InUse h = absurd h

module _ {K V : Type 0} (key_bytes : K → List ℕ) (IsKey : K → Type 0) (data_bytes : V → List ℕ) (IsData : V → Type 0) (dir file_name : List ℕ)
    (HandsOut : ℕ → List (Row K V) → Type 0) (count generation : ℕ) (few : count ≤ most_shards) (low : generation < 2 ^ 64) where
  abbrev R : Files → Files → Type 0
  R = IsOldOrNew key_bytes IsKey data_bytes IsData dir file_name HandsOut count generation

  abbrev Unfinished : List ℕ → Type 0
  Unfinished = IsUnfinished dir file_name generation

  no_manifest : ¬ Unfinished (manifest_path dir file_name generation)
  no_manifest (inl frame) = frame-apart-manifest dir file_name generation generation frame.0 low low frame.1.0 (sym frame.1.1)
  no_manifest (inr temp) = temp-apart-manifest dir file_name generation (sym temp)

  is_part : (q : List ℕ) → Unfinished q → IsPartOf dir file_name generation q
  is_part q (inl frame) = (Frame generation frame.0, ((low, frame.1.0), (refl, frame.1.1)))
  is_part q (inr temp) = (Temp generation, (low, (refl, temp)))

  unfinished_only : (was m : Files) → IsSameBut Unfinished was m → R was m
  unfinished_only was m h = record { checkpoint = inl (h (manifest_path dir file_name generation) no_manifest); others = λ q other. h q (λ u. other (is_part q u)) }

  -- where all but the manifest may have changed
  pub saves_unfinished : {F : Type 0} (meaning : Meaning F) (start new : F) → TouchesOnly meaning Unfinished start new
      → SavesCheckpoint key_bytes IsKey data_bytes IsData dir file_name HandsOut count meaning generation start new
  saves_unfinished meaning start new h = record {
    any_moment = leaves_more meaning (IsSameBut Unfinished (meaning.files start)) (R (meaning.files start)) (unfinished_only (meaning.files start)) start new h.any_moment;
    any_loss = loses_more meaning (IsSameBut Unfinished) R unfinished_only start new h.any_loss;
    loosens = λ q l. ⊎_elim (λ u. inl (is_part q u)) inr (h.loosens q l);
  }

  -- a call more that only looks
  pub saves_looked : {F : Type 0} (meaning : Meaning F) (start mid new : F) → SavesCheckpoint key_bytes IsKey data_bytes IsData dir file_name HandsOut count meaning generation start mid
      → Passes meaning Same mid new → Loses meaning looking mid new → SavesCheckpoint key_bytes IsKey data_bytes IsData dir file_name HandsOut count meaning generation start new
  saves_looked meaning start mid new so_far time loss = record {
    any_moment = goes_on meaning (R (meaning.files start)) Same start mid new so_far.any_moment time (λ m is. subst (R (meaning.files start)) (sym is) so_far.any_moment.now);
    any_loss = loses_on meaning R looking start mid new time.later so_far.any_loss loss (λ m none. absurd none);
    loosens = λ q l. so_far.loosens q (loss.loosens q l);
  }

  -- a map with these names has the whole checkpoint, where no file of it is loose
  pub still_whole : (shards : Shards K V) → AreHandedOut HandsOut count shards → has_slash file_name ≡ false → (loose : List ℕ → Type 0) (files m : Files) → HasNames dir loose files m
      → ¬ loose (manifest_path dir file_name generation) → AreFirm dir file_name generation count loose → HasCheckpoint key_bytes IsKey data_bytes IsData dir file_name generation shards files
      → HasCheckpoint key_bytes IsKey data_bytes IsData dir file_name generation shards m
  still_whole shards handed none loose files m names firm frames whole = record {
    marks = whole.marks;
    numbers = whole.numbers;
    few = whole.few;
    manifest = (names (manifest_path dir file_name generation) (part_in dir file_name none (Manifest generation) low)).1 firm ∙ whole.manifest;
    marked = whole.marked;
    fits = whole.fits;
    frames = λ shard rows at.
        let below : shard < length shards = get-below shards shard rows at in
        let inside : shard < count = omega (arith, below, handed.number) in
        let small : shard < 2 ^ 64 = omega (arith, inside, few) in
        (names (frame_path dir file_name generation shard) (part_in dir file_name none (Frame generation shard) (low, small))).1 (frames shard inside) ∙ whole.frames shard rows at;
  }
