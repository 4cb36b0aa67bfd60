-- The open file of a folder in memory.
use Rattle.std.specs.Prelude.{drop, string_bytes}
use Rattle.lru_memory_folder.specs.declared.open.Open.{Open}
use Rattle.lru_memory_folder.specs.declared.open.Open.TheVariants.{Closed, Writing, Reading}
use Rattle.lru_folder.specs.Files.{Files, bytes_at}
use Rattle.lru_folder.specs.Folder.{Opened}
use Rattle.lru_folder.specs.Folder as folder

-- a file that is read is left from its place on
abbrev pub opened_in : Files → Open → Opened
opened_in files Closed = folder.Closed
opened_in files (Writing path) = folder.Writing (string_bytes path)
opened_in files (Reading path at) = folder.Reading (drop at (bytes_at files (string_bytes path)))
