-- Calls, as the program keeps them.
use Rattle.std.specs.Prelude.{string_bytes}
use Rattle.lru_memory_folder.specs.declared.calls.FileCall.{FileCall}
use Rattle.lru_memory_folder.specs.declared.calls.FileCall.TheVariants.{Create, Write, Rename, Remove, Sync, SyncDir, Look}
use Rattle.lru_memory_folder.specs.declared.calls.EndedCall.{EndedCall}
use Rattle.lru_memory_folder.specs.Calls.{Deed, Creates, Writes, Renames, Removes, Syncs, SyncsNames, Looks, Noted}

abbrev pub deed_of : FileCall → Deed
deed_of (Create path) = Creates (string_bytes path)
deed_of (Write path piece) = Writes (string_bytes path) piece.items
deed_of (Rename from to) = Renames (string_bytes from) (string_bytes to)
deed_of (Remove path) = Removes (string_bytes path)
deed_of (Sync path) = Syncs (string_bytes path)
deed_of (SyncDir dir) = SyncsNames (string_bytes dir)
deed_of Look = Looks

abbrev pub noted_of : EndedCall → Noted
noted_of e = record { deed = deed_of e.call; end = e.end }
