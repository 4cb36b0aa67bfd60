-- What a load of a checkpoint answers, and why it answers an error.
use Rattle.std.specs.Prelude.{◌≡◌, ◌≢◌, ◌⊎◌, ◌≤◌, ℕ, List, length, map, slice_get, Some, None, Vec}
use Rattle.std.specs.declared.alloc.Global.{Global}
use Rattle.std.specs.FinMap.{get}
use Rattle.lru_folder.specs.Meaning.{Meaning}
use Rattle.lru_frames.specs.declared.errors.FrameError.{FrameError}
use Rattle.lru_frames.specs.declared.errors.FrameError.TheVariants as frame
use Rattle.lru_frames.specs.declared.errors.Part.{Part}
use Rattle.lru_frames.specs.declared.frame.Header.{Header}
use Rattle.lru_frames.specs.declared.mark.Mark.{Mark}
use Rattle.lru_frames.specs.declared.row.Row.{Row}
use Rattle.lru_frames.specs.Causes.{IsWrong}
use Rattle.lru_frames.specs.Frame.{frame_of, Fits}
use Rattle.lru_frames.specs.Marks.{IsWrongFrame, mark_of}
use Rattle.lru_frames.specs.Rows.{AreSame, IsSameRow}
use Rattle.lru_generations.specs.Manifests.{IsManifest, IsWrongManifest, part_header, manifest_bytes}
use Rattle.lru_generations.specs.Names.{frame_path, manifest_path}
use Rattle.lru_generations.specs.declared.file_errors.CallFault.{CallFault}
use Rattle.lru_generations.specs.declared.file_errors.ReadError.{ReadError}
use Rattle.lru_generations.specs.declared.file_errors.ReadError.TheVariants as read
use Rattle.lru_generations.specs.Touching.{HasReason}
use Rattle.lru_generations.specs.declared.errors.CheckpointFile.{CheckpointFile}
use Rattle.lru_generations.specs.declared.errors.CheckpointFile.TheVariants as file
use Rattle.lru_generations.specs.declared.errors.CheckpointError.{CheckpointError}
use Rattle.lru_generations.specs.declared.errors.CheckpointError.TheVariants.{Memory, Folder, Missing, Damaged, Other, LastGeneration, InUse}
use Rattle.lru_generations.specs.Checkpoints.{Shards, IsWholeFrame, most_shards}

-- the rows of each shard, of shards that were read
abbrev pub rows_of : {K V : Type 0} → List (Vec (Row K V) Global) → Shards K V
rows_of shards = map (λ rows. rows.items) shards

-- the error that tells of a file that was not read, and of one whose bytes were refused
abbrev pub unread : CheckpointFile → ReadError → CheckpointError
unread at read.Memory = Memory
unread at (read.Folder fault) = Folder at fault

abbrev pub refused : CheckpointFile → FrameError → CheckpointError
refused at frame.Memory = Memory
refused at (frame.Damaged part) = Damaged at part

-- memory or the device failed, and no file is blamed
abbrev pub IsFault : CheckpointError → Type 0
IsFault Memory = Unit {0}
IsFault (Folder at fault) = Unit {0}
IsFault (Missing at) = ⊥
IsFault (Damaged at part) = ⊥
IsFault (Other at) = ⊥
IsFault LastGeneration = ⊥
IsFault InUse = ⊥

-- Shards whose rows a reader cannot tell apart.
pub record AreSameShards {K V : Type 0} (IsSameKey : K → K → Type 0) (IsSameData : V → V → Type 0) (found written : Shards K V) : Type 0 where
  pub count : length found ≡ length written
  pub each : (shard : ℕ) (rows others : List (Row K V)) → slice_get found shard ≡ Some rows → slice_get written shard ≡ Some others
      → AreSame (IsSameRow IsSameKey IsSameData) rows others

module _ {F : Type 0} (meaning : Meaning F) where
  -- the last call failed, for the device or for memory
  abbrev pub IsCallFault : F → F → CallFault → Type 0
  IsCallFault old new fault = (meaning.last_call new ≡ fault.call) × HasReason ⊥ (meaning.faults old) (meaning.faults new) fault.source

  -- a file stands there that is no manifest of this generation with so few shards
  abbrev pub IsOtherManifest : ℕ → List ℕ → Type 0
  IsOtherManifest generation bytes = (marks : List Mark) → IsManifest generation marks → length marks ≤ most_shards → bytes ≢ manifest_bytes generation marks

  -- why the manifest of a generation was refused
  abbrev pub IsRefusedManifest : List ℕ → List ℕ → ℕ → F → F → CheckpointError → Type 0
  IsRefusedManifest dir file_name generation old new Memory = meaning.faults new ≡ meaning.faults old
  IsRefusedManifest dir file_name generation old new (Folder at fault) = (at ≡ file.Manifest) × IsCallFault old new fault
  IsRefusedManifest dir file_name generation old new (Missing at) = (at ≡ file.Manifest) × (get (meaning.files old) (manifest_path dir file_name generation) ≡ None)
  IsRefusedManifest dir file_name generation old new (Damaged at part) = (at ≡ file.Manifest) × ((bytes : List ℕ)
      × ((get (meaning.files old) (manifest_path dir file_name generation) ≡ Some bytes) × IsWrongManifest (frame.Damaged part) bytes))
  IsRefusedManifest dir file_name generation old new (Other at) = (at ≡ file.Manifest) × ((bytes : List ℕ)
      × ((get (meaning.files old) (manifest_path dir file_name generation) ≡ Some bytes) × IsOtherManifest generation bytes))
  IsRefusedManifest dir file_name generation old new LastGeneration = ⊥
  IsRefusedManifest dir file_name generation old new InUse = ⊥

  -- why a shard's frame was refused, where this is what damage of a part is, and this what another frame is
  abbrev pub IsRefusedShard : (Part → List ℕ → Type 0) → (List ℕ → Type 0) → List ℕ → List ℕ → ℕ → ℕ → F → F → CheckpointError → Type 0
  IsRefusedShard IsDamage IsOther dir file_name generation shard old new Memory = meaning.faults new ≡ meaning.faults old
  IsRefusedShard IsDamage IsOther dir file_name generation shard old new (Folder at fault) = (at ≡ file.Shard shard) × IsCallFault old new fault
  IsRefusedShard IsDamage IsOther dir file_name generation shard old new (Missing at) = (at ≡ file.Shard shard) × (get (meaning.files old) (frame_path dir file_name generation shard) ≡ None)
  IsRefusedShard IsDamage IsOther dir file_name generation shard old new (Damaged at part) = (at ≡ file.Shard shard) × ((bytes : List ℕ)
      × ((get (meaning.files old) (frame_path dir file_name generation shard) ≡ Some bytes) × IsDamage part bytes))
  IsRefusedShard IsDamage IsOther dir file_name generation shard old new (Other at) = (at ≡ file.Shard shard) × ((bytes : List ℕ)
      × ((get (meaning.files old) (frame_path dir file_name generation shard) ≡ Some bytes) × IsOther bytes))
  IsRefusedShard IsDamage IsOther dir file_name generation shard old new LastGeneration = ⊥
  IsRefusedShard IsDamage IsOther dir file_name generation shard old new InUse = ⊥

  -- by its check alone: it is no frame, or none under this header with this mark
  abbrev pub IsRefusedByCheck : List ℕ → List ℕ → Header → Mark → F → F → CheckpointError → Type 0
  IsRefusedByCheck dir file_name header mark old new error =
      IsRefusedShard IsWrongFrame (λ bytes. ¬ IsWholeFrame header mark bytes) dir file_name header.generation header.shard old new error

  module _ {K V : Type 0} (key_bytes : K → List ℕ) (IsKey : K → Type 0) (data_bytes : V → List ℕ) (IsData : V → Type 0) where
    -- these bytes are the frame of no rows under this header with this mark
    abbrev pub IsOtherFrame : Header → Mark → List ℕ → Type 0
    IsOtherFrame header mark bytes = (rows : List (Row K V)) → Fits IsKey IsData header rows → mark ≡ mark_of key_bytes data_bytes header rows → bytes ≢ frame_of key_bytes data_bytes header rows

    -- it is no frame of such rows, or none under this header with this mark
    abbrev pub IsRefusedFrame : List ℕ → List ℕ → Header → Mark → F → F → CheckpointError → Type 0
    IsRefusedFrame dir file_name header mark old new error =
        IsRefusedShard (λ part bytes. IsWrong key_bytes IsKey data_bytes IsData (frame.Damaged part) bytes) (IsOtherFrame header mark) dir file_name header.generation header.shard old new error

  -- why a generation was refused: for its manifest, or for the frame of a shard that the manifest tells of
  abbrev pub IsRefused : (Header → Mark → F → F → CheckpointError → Type 0) → List ℕ → List ℕ → ℕ → F → F → CheckpointError → Type 0
  IsRefused IsShard dir file_name generation old new error = IsRefusedManifest dir file_name generation old new error
      ⊎ ((marks : List Mark) × (IsManifest generation marks × ((get (meaning.files old) (manifest_path dir file_name generation) ≡ Some (manifest_bytes generation marks))
      × ((shard : ℕ) × ((mark : Mark) × ((slice_get marks shard ≡ Some mark) × IsShard (part_header generation (length marks) shard) mark old new error))))))
