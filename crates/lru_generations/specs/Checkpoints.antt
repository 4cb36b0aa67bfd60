-- A checkpoint in a folder's files, and what a save of one leaves.
use Rattle.std.specs.Prelude.{◌≡◌, ◌⊎◌, ◌<◌, ◌≤◌, ◌^◌, ◌++◌, ℕ, List, length, slice_get, Option, Some, None}
use Rattle.std.specs.FinMap.{get}
use Rattle.lru_folder.specs.Files.{Files}
use Rattle.lru_folder.specs.Folder.{LeavesOnly}
use Rattle.lru_folder.specs.Losses.{LosesOnly}
use Rattle.lru_folder.specs.Meaning.{Meaning}
use Rattle.lru_frames.specs.declared.frame.Header.{Header}
use Rattle.lru_frames.specs.declared.mark.Mark.{Mark}
use Rattle.lru_frames.specs.declared.row.Row.{Row}
use Rattle.lru_frames.specs.Envelope.{sealed}
use Rattle.lru_frames.specs.Frame.{frame_of, header_bytes, Fits}
use Rattle.lru_frames.specs.Marks.{mark_in, mark_of}
use Rattle.lru_generations.specs.declared.manifest.Manifest.{Manifest}
use Rattle.lru_generations.specs.declared.names.PartName.{PartName}
use Rattle.lru_generations.specs.Manifests.{IsManifest, part_header, manifest_bytes}
use Rattle.lru_generations.specs.Names.{IsPart, generation_of, part_path, frame_path, manifest_path}

-- the rows of each shard
abbrev pub Shards : Type 0 → Type 0 → Type 0
Shards K V = List (List (Row K V))

-- no checkpoint has more shards
abbrev pub most_shards : ℕ
most_shards = 2 ^ 20

-- the path of a shard's frame, and of any file of a generation
abbrev pub IsFrame : List ℕ → List ℕ → ℕ → List ℕ → Type 0
IsFrame dir file_name generation q = (shard : ℕ) × ((shard < 2 ^ 64) × (q ≡ frame_path dir file_name generation shard))

abbrev pub IsPartOf : List ℕ → List ℕ → ℕ → List ℕ → Type 0
IsPartOf dir file_name generation q = (part : PartName) × (IsPart part × ((generation_of part ≡ generation) × (q ≡ part_path dir file_name part)))

-- no loss of power changes the frame of so many shards
abbrev pub AreFirm : List ℕ → List ℕ → ℕ → ℕ → (List ℕ → Type 0) → Type 0
AreFirm dir file_name generation count loose = (shard : ℕ) → shard < count → ¬ loose (frame_path dir file_name generation shard)

-- these bytes are a frame under this header and with this mark, whatever its rows hold
abbrev pub IsWholeFrame : Header → Mark → List ℕ → Type 0
IsWholeFrame header mark bytes = (rest : List ℕ) × ((bytes ≡ sealed (header_bytes header mark.rows ++ rest)) × (mark ≡ mark_in mark.rows (header_bytes header mark.rows ++ rest)))

-- this manifest is the known one
abbrev pub IsKnown : Option Manifest → Manifest → Type 0
IsKnown None manifest = ⊥
IsKnown (Some known) manifest = (known.generation ≡ manifest.generation) × (known.frames.items ≡ manifest.frames.items)

module _ (dir file_name : List ℕ) where
  -- The files have a whole generation, by its checks: the manifest stands, and each frame that it tells of.
  pub record IsWhole (generation : ℕ) (marks : List Mark) (files : Files) : Type 0 where
    pub numbers : IsManifest generation marks
    pub few : length marks ≤ most_shards
    pub manifest : get files (manifest_path dir file_name generation) ≡ Some (manifest_bytes generation marks)
    pub frames : (shard : ℕ) (mark : Mark) → slice_get marks shard ≡ Some mark
        → (bytes : List ℕ) × ((get files (frame_path dir file_name generation shard) ≡ Some bytes) × IsWholeFrame (part_header generation (length marks) shard) mark bytes)

  -- A generation that was known whole before still has its manifest, to the byte: none that tells of other frames.
  pub record IsStill (known : Manifest) (generation : ℕ) (marks : List Mark) (files : Files) : Type 0 where
    pub same : known.generation ≡ generation
    pub marks_same : known.frames.items ≡ marks
    pub numbers : IsManifest generation marks
    pub few : length marks ≤ most_shards
    pub manifest : get files (manifest_path dir file_name generation) ≡ Some (manifest_bytes generation marks)

  -- what is taken for whole: what is whole, and what was known whole and still has its manifest
  abbrev pub IsTaken : Option Manifest → ℕ → List Mark → Files → Type 0
  IsTaken None generation marks files = IsWhole generation marks files
  IsTaken (Some known) generation marks files = IsWhole generation marks files ⊎ IsStill known generation marks files

module _ {K V : Type 0} where
  -- numbers that fit, and keys and data that are values of their types
  abbrev pub FitsEach : (K → Type 0) → (V → Type 0) → ℕ → ℕ → Shards K V → Type 0
  FitsEach IsKey IsData generation count shards = (shard : ℕ) (rows : List (Row K V)) → slice_get shards shard ≡ Some rows
      → Fits IsKey IsData (part_header generation count shard) rows

  -- so many shards, each with rows that its source hands out
  pub record AreHandedOut (HandsOut : ℕ → List (Row K V) → Type 0) (count : ℕ) (shards : Shards K V) : Type 0 where
    pub number : length shards ≡ count
    pub each : (shard : ℕ) (rows : List (Row K V)) → slice_get shards shard ≡ Some rows → HandsOut shard rows

  module _ (key_bytes : K → List ℕ) (data_bytes : V → List ℕ) where
    -- a mark for each shard, that of its frame, in a generation of so many shards
    pub record AreMarked (generation count : ℕ) (shards : Shards K V) (marks : List Mark) : Type 0 where
      pub each : (shard : ℕ) (rows : List (Row K V)) → slice_get shards shard ≡ Some rows
          → slice_get marks shard ≡ Some (mark_of key_bytes data_bytes (part_header generation count shard) rows)
      pub number : length marks ≡ length shards

    -- each shard's frame stands in its file
    abbrev pub HasFrames : List ℕ → List ℕ → ℕ → ℕ → Shards K V → Files → Type 0
    HasFrames dir file_name generation count shards files = (shard : ℕ) (rows : List (Row K V)) → slice_get shards shard ≡ Some rows
        → get files (frame_path dir file_name generation shard) ≡ Some (frame_of key_bytes data_bytes (part_header generation count shard) rows)

  module _ (key_bytes : K → List ℕ) (IsKey : K → Type 0) (data_bytes : V → List ℕ) (IsData : V → Type 0) (dir file_name : List ℕ) where
    -- The files have a whole checkpoint of these shards, which can be read.
    pub record HasCheckpoint (generation : ℕ) (shards : Shards K V) (files : Files) : Type 0 where
      pub marks : List Mark
      pub numbers : IsManifest generation marks
      pub few : length marks ≤ most_shards
      pub manifest : get files (manifest_path dir file_name generation) ≡ Some (manifest_bytes generation marks)
      pub marked : AreMarked key_bytes data_bytes generation (length marks) shards marks
      pub fits : FitsEach IsKey IsData generation (length marks) shards
      pub frames : HasFrames key_bytes data_bytes dir file_name generation (length marks) shards files

    module _ (HandsOut : ℕ → List (Row K V) → Type 0) (count : ℕ) where
      -- the files have a whole checkpoint of shards that were handed out
      abbrev pub HasNew : ℕ → Files → Type 0
      HasNew generation files = (shards : Shards K V) × (AreHandedOut HandsOut count shards × HasCheckpoint generation shards files)

      -- The manifest is as it was, or there is the whole new checkpoint; and no path that is none of its parts has changed.
      pub record IsOldOrNew (generation : ℕ) (old m : Files) : Type 0 where
        pub checkpoint : (get m (manifest_path dir file_name generation) ≡ get old (manifest_path dir file_name generation)) ⊎ HasNew generation m
        pub others : (q : List ℕ) → ¬ IsPartOf dir file_name generation q → get m q ≡ get old q

      -- What is safe at every moment of a save.
      pub record SavesCheckpoint {F : Type 0} (meaning : Meaning F) (generation : ℕ) (old new : F) : Type 0 where
        -- a stop leaves the old files or the new checkpoint,
        pub any_moment : LeavesOnly meaning (IsOldOrNew generation (meaning.files old)) old new
        -- and so does a loss of power, where old is as a loss at the start could have left it
        pub any_loss : LosesOnly meaning (IsOldOrNew generation) old new
        -- no path of another checkpoint becomes loose
        pub loosens : (q : List ℕ) → meaning.loose new q → IsPartOf dir file_name generation q ⊎ meaning.loose old q
