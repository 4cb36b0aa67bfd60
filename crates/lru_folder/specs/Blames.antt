-- What an error about a file says: which call failed, on which path, and why.
use Rattle.std.specs.Prelude.{ℕ, List, string_bytes}
use Rattle.lru_folder.specs.declared.fault.FolderFault.{FolderFault}
use Rattle.lru_folder.specs.declared.folder_call.FolderCall.{FolderCall}
use Rattle.lru_folder.specs.declared.folder_call.FolderCall.TheVariants as call
use Rattle.lru_folder.specs.declared.errors.ShardFileError.{ShardFileError}
use Rattle.lru_folder.specs.declared.errors.ShardFileError.TheVariants as file

-- the call of a folder whose failure an error tells
abbrev pub failed_call : ShardFileError → FolderCall
failed_call (file.Create path source) = call.Create
failed_call (file.Write path source) = call.Write
failed_call (file.Flush path source) = call.Flush
failed_call (file.Sync path source) = call.Sync
failed_call (file.Rename from to source) = call.Rename
failed_call (file.Open path source) = call.Open
failed_call (file.Read path source) = call.Read
failed_call (file.ReadDir path source) = call.List
failed_call (file.ReadDirEntry path source) = call.List
failed_call (file.Remove path source) = call.Remove

-- and of a shard's file all that an error tells
pub data FailedCall : Type 0 where
  Create : FailedCall
  Write : FailedCall
  Flush : FailedCall
  Sync : FailedCall
  Rename : (to : List ℕ) → FailedCall
  Open : FailedCall
  Read : FailedCall
  ReadDir : FailedCall
  ReadDirEntry : FailedCall
  Remove : FailedCall

pub record Blame : Type 0 where
  pub call : FailedCall
  pub path : List ℕ
  pub cause : FolderFault

abbrev pub blame_of : ShardFileError → Blame
blame_of (file.Create path source) = record { call = Create; path = string_bytes path; cause = source }
blame_of (file.Write path source) = record { call = Write; path = string_bytes path; cause = source }
blame_of (file.Flush path source) = record { call = Flush; path = string_bytes path; cause = source }
blame_of (file.Sync path source) = record { call = Sync; path = string_bytes path; cause = source }
blame_of (file.Rename from to source) = record { call = Rename (string_bytes to); path = string_bytes from; cause = source }
blame_of (file.Open path source) = record { call = Open; path = string_bytes path; cause = source }
blame_of (file.Read path source) = record { call = Read; path = string_bytes path; cause = source }
blame_of (file.ReadDir path source) = record { call = ReadDir; path = string_bytes path; cause = source }
blame_of (file.ReadDirEntry path source) = record { call = ReadDirEntry; path = string_bytes path; cause = source }
blame_of (file.Remove path source) = record { call = Remove; path = string_bytes path; cause = source }
