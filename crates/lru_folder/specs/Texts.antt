-- The texts of errors and failures.
use Rattle.std.specs.Prelude.{ℕ, List, ◌++◌, codes, string_bytes, Option, Some, option_map}
use Rattle.std.specs.Fmt.{decimal}
use Rattle.lru_folder.specs.TextsFault.{fault_text}
use Rattle.lru_folder.specs.declared.errors.ShardFileError.{ShardFileError}
use Rattle.lru_folder.specs.declared.errors.ShardFileError.TheVariants as file
use Rattle.lru_folder.specs.declared.errors.ShardSaveFailure.{ShardSaveFailure}
use Rattle.lru_folder.specs.declared.errors.ShardSaveFailure.TheVariants as unsaved
use Rattle.lru_folder.specs.declared.errors.ShardLoadFailure.{ShardLoadFailure}
use Rattle.lru_folder.specs.declared.errors.ShardLoadFailure.TheVariants as unloaded
use Rattle.lru_folder.specs.declared.errors.ShardSaveSetupError.{ShardSaveSetupError}
use Rattle.lru_folder.specs.declared.errors.ShardSaveSetupError.TheVariants as setup
use Rattle.lru_folder.specs.declared.errors.ShardSaveError.{ShardSaveError}
use Rattle.lru_folder.specs.declared.errors.ShardSaveError.TheVariants as save

abbrev pub file_error_text : ShardFileError → List ℕ
file_error_text (file.Create path source) = codes "failed to create " ++ string_bytes path ++ codes ": " ++ fault_text source
file_error_text (file.Write path source) = codes "failed to write to " ++ string_bytes path ++ codes ": " ++ fault_text source
file_error_text (file.Flush path source) = codes "failed to flush temp file " ++ string_bytes path ++ codes ": " ++ fault_text source
file_error_text (file.Sync path source) = codes "failed to sync " ++ string_bytes path ++ codes ": " ++ fault_text source
file_error_text (file.Open path source) = codes "failed to open " ++ string_bytes path ++ codes ": " ++ fault_text source
file_error_text (file.Read path source) = codes "failed to read from " ++ string_bytes path ++ codes ": " ++ fault_text source
file_error_text (file.ReadDir path source) = codes "failed to read directory " ++ string_bytes path ++ codes ": " ++ fault_text source
file_error_text (file.ReadDirEntry path source) = codes "failed to read directory entry in " ++ string_bytes path ++ codes ": " ++ fault_text source
file_error_text (file.Remove path source) = codes "failed to remove temp file " ++ string_bytes path ++ codes ": " ++ fault_text source
file_error_text (file.Rename from to source) =
    codes "failed to rename file from " ++ string_bytes from ++ codes " to " ++ string_bytes to ++ codes ": " ++ fault_text source

-- where the shard's own error has a text
abbrev pub save_failure_text : {E : Type 0} → (E → Option (List ℕ)) → ShardSaveFailure E → Option (List ℕ)
save_failure_text text (unsaved.Serialize shard source) = option_map (λ t. codes "failed to serialize shard " ++ decimal shard ++ codes ": " ++ t) (text source)
save_failure_text text (unsaved.Io shard source) = Some (codes "failed to save shard " ++ decimal shard ++ codes ": " ++ file_error_text source)
save_failure_text text (unsaved.Memory shard) = Some (codes "failed to save shard " ++ decimal shard ++ codes ": out of memory")

abbrev pub load_failure_text : {E : Type 0} → (E → Option (List ℕ)) → ShardLoadFailure E → Option (List ℕ)
load_failure_text text (unloaded.Io shard source) = Some (codes "failed to load shard " ++ decimal shard ++ codes ": " ++ file_error_text source)
load_failure_text text (unloaded.Memory shard) = Some (codes "failed to load shard " ++ decimal shard ++ codes ": out of memory")
load_failure_text text (unloaded.Deserialize shard source) = option_map (λ t. codes "failed to deserialize shard " ++ decimal shard ++ codes ": " ++ t) (text source)

abbrev pub setup_error_text : ShardSaveSetupError → List ℕ
setup_error_text (setup.CreateDir path source) = codes "failed to create " ++ string_bytes path ++ codes ": " ++ fault_text source
setup_error_text setup.Memory = codes "out of memory"

abbrev pub save_error_text : {E : Type 0} → ShardSaveError E → List ℕ
save_error_text (save.Setup source) = setup_error_text source
save_error_text (save.AllShardsFailed shards failures) = codes "All " ++ decimal shards ++ codes " shards failed to save; see prior warnings for per-shard causes."
