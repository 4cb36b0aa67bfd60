-- The files of a checkpoint that stand in a folder.
use Rattle.std.specs.Prelude.{◌≡◌, ◌↔◌, ◌⊎◌, ◌<◌, ℕ, List, Some, Contains}
use Rattle.std.specs.FinMap.{get}
use Rattle.lru_folder.specs.Files.{Files}
use Rattle.lru_generations.specs.declared.file_errors.ReadError.{ReadError}
use Rattle.lru_generations.specs.declared.file_errors.ReadError.TheVariants.{Folder, Memory}
use Rattle.lru_generations.specs.Touching.{HasReason}
use Rattle.lru_generations.specs.declared.names.PartName.{PartName}
use Rattle.lru_generations.specs.declared.names.PartName.TheVariants.{Frame, Manifest, Temp}
use Rattle.lru_generations.specs.Names.{IsPart, generation_of, part_path}

-- These are the parts that have a file, and no others.
pub record HasParts (dir file_name : List ℕ) (files : Files) (parts : List PartName) : Type 0 where
  pub fits : (part : PartName) → Contains parts part → IsPart part
  pub there : (part : PartName) → IsPart part → Contains parts part ↔ ((bytes : List ℕ) × (get files (part_path dir file_name part) ≡ Some bytes))

-- the device or memory is the reason, or something was missing; where the room for the parts was not found, the device did not fail
abbrev pub HasListReason : Type 0 → ℕ → ℕ → ReadError → Type 0
HasListReason missing before now (Folder fault) = HasReason missing before now fault.source
HasListReason missing before now Memory = now ≡ before

-- a number above that of each part
abbrev pub IsAbove : List PartName → ℕ → Type 0
IsAbove parts number = (part : PartName) → Contains parts part → generation_of part < number

-- what a manifest is first written to
abbrev pub IsTemp : PartName → Type 0
IsTemp (Frame generation shard) = ⊥
IsTemp (Manifest generation) = ⊥
IsTemp (Temp generation) = Unit {0}

-- the manifest of any generation
abbrev pub IsAnyManifest : PartName → Type 0
IsAnyManifest (Frame generation shard) = ⊥
IsAnyManifest (Manifest generation) = Unit {0}
IsAnyManifest (Temp generation) = ⊥

-- a part that no manifest tells of
abbrev pub IsLeftover : List PartName → PartName → Type 0
IsLeftover parts part = IsTemp part ⊎ (¬ Contains parts (Manifest (generation_of part)))
