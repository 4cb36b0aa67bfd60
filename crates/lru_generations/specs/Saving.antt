-- What a save of the next checkpoint leaves.
use Rattle.std.specs.Prelude.{◌≡◌, ◌⊎◌, ◌<◌, ◌≤◌, ◌^◌, ℕ, List, Option, Some, None, is_some, Contains, IsSome}
use Rattle.std.specs.FinMap.{get}
use Rattle.lru_folder.specs.Files.{Files}
use Rattle.lru_folder.specs.Folder.{LeavesOnly}
use Rattle.lru_folder.specs.Losses.{LosesOnly}
use Rattle.lru_folder.specs.Meaning.{Meaning}
use Rattle.lru_frames.specs.declared.row.Row.{Row}
use Rattle.lru_generations.specs.declared.manifest.Manifest.{Manifest}
use Rattle.lru_generations.specs.declared.names.PartName.{PartName}
use Rattle.lru_generations.specs.Listing.{HasParts, IsAbove, IsLeftover}
use Rattle.lru_generations.specs.Names.{IsPart, generation_of, part_path, frame_path, manifest_temp_path}
use Rattle.lru_folder.specs.SyncedNames.{IsIn}
use Rattle.lru_generations.specs.declared.errors.CheckpointError.{CheckpointError}
use Rattle.lru_generations.specs.declared.errors.CheckpointError.TheVariants.{InUse, LastGeneration}
use Rattle.lru_generations.specs.Checkpoints.{Shards, HasCheckpoint, HasNew, IsFrame}
use Rattle.lru_generations.specs.Causes.{HasSaveReason}
use Rattle.lru_generations.specs.Loads.{IsFault, IsRefused, IsRefusedByCheck}
use Rattle.lru_generations.specs.declared.newest.Passed.{Passed}
use Rattle.lru_generations.specs.Faults.{IsFailed}
use Rattle.lru_generations.specs.Newest.{AreGenerations, ArePassed, HasManifest, IsHighestTaken}
use Rattle.lru_generations.specs.Removing.{NamesOnly}

-- a frame of this generation, or what its manifest is first written to
abbrev pub IsUnfinished : List ℕ → List ℕ → ℕ → List ℕ → Type 0
IsUnfinished dir file_name generation q = IsFrame dir file_name generation q ⊎ (q ≡ manifest_temp_path dir file_name generation)

-- a call failed, or memory was refused, or another save has the folder
abbrev pub HasReasonOrIsInUse : {F : Type 0} → Meaning F → List ℕ → List ℕ → ℕ → F → F → CheckpointError → Type 0
HasReasonOrIsInUse meaning dir file_name generation old new error = HasSaveReason meaning dir file_name generation old new error ⊎ (error ≡ InUse)

-- no file of this generation or of a later one is there
abbrev pub IsUnused : List ℕ → List ℕ → Files → ℕ → Type 0
IsUnused dir file_name files generation = (part : PartName) → IsPart part → generation ≤ generation_of part → get files (part_path dir file_name part) ≡ None

-- the names in the folder are those that are there
abbrev pub AreNamed : List ℕ → Files → Files → Type 0
AreNamed dir files m = (q : List ℕ) → IsIn dir q → is_some (get m q) ≡ is_some (get files q)

-- What a save finds in the folder: the parts that are there, the newest generation that is taken for whole, and a number above all.
pub record IsSurveyed (dir file_name : List ℕ) (files : Files) (known : Option Manifest) (parts : List PartName) (newest : Option ℕ) (generation : ℕ) : Type 0 where
  pub listed : HasParts dir file_name files parts
  pub top : IsHighestTaken dir file_name files known newest
  pub above : IsAbove parts generation

-- The generations above the newest whole one were found with these files, and each is told with what was refused of it.
abbrev pub TellsPassed : {F : Type 0} → Meaning F → List ℕ → List ℕ → Files → Option ℕ → List Passed → Type 0
TellsPassed {F} meaning dir file_name files newest passed = (mid : F) × ((now : F) × ((meaning.files mid ≡ files) × ((generations : List ℕ) × (AreGenerations dir file_name files generations
    × ArePassed (λ number error. IsRefused meaning (IsRefusedByCheck meaning dir file_name) dir file_name number mid now error) generations newest passed))))

-- the path of a part that no manifest tells of, and of one that is older than the newest whole generation
abbrev pub IsLeft : List ℕ → List ℕ → List PartName → List ℕ → Type 0
IsLeft dir file_name parts q = (part : PartName) × ((Contains parts part × IsLeftover parts part) × (q ≡ part_path dir file_name part))

abbrev pub IsOlder : Option ℕ → PartName → Type 0
IsOlder None part = ⊥
IsOlder (Some newest) part = generation_of part < newest

abbrev pub IsOld : List ℕ → List ℕ → Option ℕ → List ℕ → Type 0
IsOld dir file_name newest q = (part : PartName) × ((IsPart part × IsOlder newest part) × (q ≡ part_path dir file_name part))

-- an error that names no file but of a part that is older than the one that is kept, and one is kept
abbrev pub NamesOlder : Option ℕ → CheckpointError → Type 0
NamesOlder newest error = IsSome newest × ((parts : List PartName) × (((part : PartName) → Contains parts part → IsOlder newest part) × NamesOnly parts error))

-- why such a part may be left: memory was refused, or a call failed
abbrev pub IsUnremoved : {F : Type 0} → Meaning F → Option ℕ → CheckpointError → Type 0
IsUnremoved {F} meaning newest error = NamesOlder newest error × ((mid : F) × ((now : F) × IsFailed meaning mid now error))

-- A generation that had its manifest and still has it has the frames that it had.
abbrev pub KeepsFrames : List ℕ → List ℕ → Files → Files → Type 0
KeepsFrames dir file_name files m = (generation shard : ℕ) → generation < 2 ^ 64 → shard < 2 ^ 64
    → HasManifest dir file_name files generation → HasManifest dir file_name m generation
    → get m (frame_path dir file_name generation shard) ≡ get files (frame_path dir file_name generation shard)

-- why nothing was saved: memory or the device failed, another save has the folder, or no number is left
abbrev pub IsUnsaved : CheckpointError → Type 0
IsUnsaved error = IsFault error ⊎ ((error ≡ InUse) ⊎ (error ≡ LastGeneration))

-- each loss of power leaves this checkpoint
abbrev pub IsForGood : {K V F : Type 0} → (K → List ℕ) → (K → Type 0) → (V → List ℕ) → (V → Type 0) → List ℕ → List ℕ → Meaning F → ℕ → Shards K V → F → Type 0
IsForGood key_bytes IsKey data_bytes IsData dir file_name meaning generation shards folder = (m : Files) → meaning.lost_since folder (meaning.clock folder) m
    → HasCheckpoint key_bytes IsKey data_bytes IsData dir file_name generation shards m

module _ {K V : Type 0} (key_bytes : K → List ℕ) (IsKey : K → Type 0) (data_bytes : V → List ℕ) (IsData : V → Type 0) (dir file_name : List ℕ)
    (HandsOut : ℕ → List (Row K V) → Type 0) (count : ℕ) where
  abbrev Has : ℕ → Shards K V → Files → Type 0
  Has = HasCheckpoint key_bytes IsKey data_bytes IsData dir file_name

  -- a whole checkpoint of shards that were handed out, in a generation of which the save found no file
  abbrev pub IsNew : Files → ℕ → Files → Type 0
  IsNew found generation m = IsUnused dir file_name found generation × HasNew key_bytes IsKey data_bytes IsData dir file_name HandsOut count generation m

  -- What a moment of a save leaves, of the files that it found, and of those that a stop or a loss at its start would have left.
  pub record IsSavedAfter (known : Option Manifest) (found was m : Files) : Type 0 where
    -- a checkpoint that stood whole stands, until the new one stands whole;
    pub stays : (generation : ℕ) (shards : Shards K V) → Has generation shards was → Has generation shards found → Has generation shards m ⊎ ((new : ℕ) × IsNew found new m)
    -- the newest one that was taken for whole stands all the same, where it was;
    pub newest : (generation : ℕ) (shards : Shards K V) → Has generation shards was → Has generation shards found → IsHighestTaken dir file_name found known (Some generation)
        → Has generation shards m
    -- and what now stands whole, with none above it, stood whole before or is the new one
    pub comes : (generation : ℕ) (shards : Shards K V) → Has generation shards m → ((above : ℕ) (others : Shards K V) → generation < above → ¬ Has above others m)
        → Has generation shards was ⊎ IsNew found generation m

  -- So it is at every moment of a save that is handed what is known.
  pub record SavesAfter (known : Option Manifest) {F : Type 0} (meaning : Meaning F) (old new : F) : Type 0 where
    pub any_moment : LeavesOnly meaning (IsSavedAfter known (meaning.files old) (meaning.files old)) old new
    pub any_loss : LosesOnly meaning (IsSavedAfter known (meaning.files old)) old new

  -- And so it is where nothing is known: the newest one that was whole stands.
  abbrev pub SavesNext : {F : Type 0} → Meaning F → F → F → Type 0
  SavesNext meaning old new = SavesAfter None meaning old new
