-- The names of a checkpoint's files.
use Rattle.std.specs.Prelude.{◌≢◌, ℕ, ◌<◌, ◌^◌, List, ◌++◌, codes}
use Rattle.std.specs.List.{AllByRecursion}
use Rattle.lru_folder.specs.Names.{path_text, shard_text}
use Rattle.lru_generations.specs.declared.names.PartName.{PartName}
use Rattle.lru_generations.specs.declared.names.PartName.TheVariants.{Frame, Manifest, Temp}

-- the name of a part's file: the frame of a shard, the manifest, or what a manifest is first written to
abbrev pub part_text : List ℕ → PartName → List ℕ
part_text file_name (Frame generation shard) = shard_text (shard_text file_name generation) shard
part_text file_name (Manifest generation) = shard_text file_name generation ++ codes ".manifest"
part_text file_name (Temp generation) = shard_text file_name generation ++ codes ".manifest.tmp"

-- numbers that a part may have
abbrev pub IsPart : PartName → Type 0
IsPart (Frame generation shard) = (generation < 2 ^ 64) × (shard < 2 ^ 64)
IsPart (Manifest generation) = generation < 2 ^ 64
IsPart (Temp generation) = generation < 2 ^ 64

-- the number of the checkpoint that a part is of
abbrev pub generation_of : PartName → ℕ
generation_of (Frame generation shard) = generation
generation_of (Manifest generation) = generation
generation_of (Temp generation) = generation

-- no byte is a dot
abbrev pub LacksDot : List ℕ → Type 0
LacksDot bytes = AllByRecursion (λ byte. byte ≢ 46) bytes

-- the path of a part's file
abbrev pub part_path : List ℕ → List ℕ → PartName → List ℕ
part_path dir file_name part = path_text dir (part_text file_name part)

abbrev pub frame_path : List ℕ → List ℕ → ℕ → ℕ → List ℕ
frame_path dir file_name generation shard = part_path dir file_name (Frame generation shard)

abbrev pub manifest_path : List ℕ → List ℕ → ℕ → List ℕ
manifest_path dir file_name generation = part_path dir file_name (Manifest generation)

abbrev pub manifest_temp_path : List ℕ → List ℕ → ℕ → List ℕ
manifest_temp_path dir file_name generation = part_path dir file_name (Temp generation)
