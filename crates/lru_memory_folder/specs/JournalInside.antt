-- What the program keeps of the calls of a folder in memory.
use Rattle.std.specs.Prelude.{◌≡◌, map}
use Rattle.lru_memory_folder.specs.declared.journal.CallJournal.TheInside.{Inside}
use Rattle.lru_memory_folder.specs.Calls.{after}
use Rattle.lru_memory_folder.specs.DeedInside.{noted_of}
use Rattle.lru_memory_folder.specs.HeldInside.{entries_of, files_in}
use Rattle.lru_memory_folder.specs.History.{History}

abbrev pub history_of : Inside → History
history_of s = record { begun = entries_of s.begun.entries; calls = map noted_of s.calls.items }

-- the files that are held are those that the calls left
pub record IsReplayed (s : Inside) : Type 0 where
  pub held : files_in s.held.entries ≡ after (map noted_of s.calls.items) (files_in s.begun.entries)
