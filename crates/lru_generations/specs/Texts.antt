-- The texts of errors.
use Rattle.std.specs.Prelude.{ℕ, List, ◌++◌, codes}
use Rattle.std.specs.Fmt.{decimal}
use Rattle.lru_folder.specs.TextsFault.{fault_text}
use Rattle.lru_frames.specs.Errors.{part_text}
use Rattle.lru_generations.specs.declared.errors.CheckpointFile.{CheckpointFile}
use Rattle.lru_generations.specs.declared.errors.CheckpointFile.TheVariants.{Manifest, Shard, Names}
use Rattle.lru_generations.specs.declared.errors.CheckpointError.{CheckpointError}
use Rattle.lru_generations.specs.declared.errors.CheckpointError.TheVariants.{Memory, Folder, Missing, Damaged, Other, LastGeneration, InUse}

abbrev pub file_text : CheckpointFile → List ℕ
file_text Manifest = codes "manifest"
file_text (Shard shard) = codes "shard " ++ decimal shard
file_text Names = codes "folder"

abbrev pub error_text : CheckpointError → List ℕ
error_text Memory = codes "out of memory"
error_text (Folder file fault) = file_text file ++ codes ": " ++ fault_text fault.source
error_text (Missing file) = file_text file ++ codes ": not there"
error_text (Damaged file part) = file_text file ++ codes ": damaged " ++ part_text part
error_text (Other file) = file_text file ++ codes ": of another checkpoint"
error_text LastGeneration = codes "no generation is left"
error_text InUse = codes "another save is at work in the folder"
