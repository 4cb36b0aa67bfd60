-- What the fields of a folder in memory stand for.
use Rattle.std.specs.Prelude.{string_bytes}
use Rattle.std.specs.Option.{option_map}
use Rattle.lru_memory_folder.specs.declared.memory_folder.MemoryFolder.TheInside.{Inside}
use Rattle.lru_memory_folder.specs.History.{files_left}
use Rattle.lru_memory_folder.specs.MadeInside.{texts_of}
use Rattle.lru_memory_folder.specs.Memory.{Memory}
use Rattle.lru_memory_folder.specs.OpenInside.{opened_in}

abbrev pub memory_of : Inside → Memory
memory_of s = record {
  begun = s.store.journal.begun;
  calls = s.store.journal.calls;
  made = texts_of s.store.made.items;
  opened = opened_in (files_left s.store.journal) s.store.file;
  plan = s.plan;
  last = s.last;
  elsewhere = option_map string_bytes s.elsewhere;
}
