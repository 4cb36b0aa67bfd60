-- What is known of a real folder: which way a file is open, and no more.
use Rattle.std.specs.Prelude.{[]}
use Rattle.lru_folder.specs.Folder.{Opened}
use Rattle.lru_folder.specs.Folder as folder
use Rattle.lru_host_folder.specs.declared.host_open.HostOpen.{HostOpen}
use Rattle.lru_host_folder.specs.declared.host_open.HostOpen.TheVariants.{Closed, Writing, Reading}

abbrev pub mode_of : {T : Type 0} → HostOpen T → Opened
mode_of Closed = folder.Closed
mode_of (Writing file path) = folder.Writing []
mode_of (Reading file path) = folder.Lost
