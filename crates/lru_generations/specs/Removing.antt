-- Files of a checkpoint that are removed.
use Rattle.std.specs.Prelude.{◌≡◌, ℕ, List, Contains}
use Rattle.lru_generations.specs.declared.names.PartName.{PartName}
use Rattle.lru_generations.specs.declared.names.PartName.TheVariants as part
use Rattle.lru_generations.specs.Names.{part_path}
use Rattle.lru_generations.specs.declared.errors.CheckpointFile.{CheckpointFile}
use Rattle.lru_generations.specs.declared.errors.CheckpointFile.TheVariants.{Manifest, Shard}
use Rattle.lru_generations.specs.declared.errors.CheckpointError.{CheckpointError}
use Rattle.lru_generations.specs.declared.errors.CheckpointError.TheVariants.{Memory, Folder, Missing, Damaged, Other, LastGeneration, InUse}

-- the file that an error tells of
abbrev pub file_of : PartName → CheckpointFile
file_of (part.Frame generation shard) = Shard shard
file_of (part.Manifest generation) = Manifest
file_of (part.Temp generation) = Manifest

-- the path of one of these parts
abbrev pub IsPathOf : List ℕ → List ℕ → List PartName → List ℕ → Type 0
IsPathOf dir file_name parts q = (part : PartName) × (Contains parts part × (q ≡ part_path dir file_name part))

-- an error that names none of a checkpoint's files but these
abbrev pub NamesOnly : List PartName → CheckpointError → Type 0
NamesOnly parts Memory = Unit {0}
NamesOnly parts (Folder at fault) = (part : PartName) × (Contains parts part × (at ≡ file_of part))
NamesOnly parts (Missing at) = ⊥
NamesOnly parts (Damaged at part) = ⊥
NamesOnly parts (Other at) = ⊥
NamesOnly parts LastGeneration = ⊥
NamesOnly parts InUse = ⊥
