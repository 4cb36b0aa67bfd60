-- The files that a loss of power leaves where it puts one byte into each loose path.
use Rattle.std.specs.Prelude.{ℕ, List, [], ◌∷◌, Option, Some, None, option_map}
use Rattle.std.specs.FinMap.{get, insert}
use Rattle.lru_folder.specs.Files.{Files, removed, renamed}
use Rattle.lru_memory_folder.specs.declared.calls.End.{End}
use Rattle.lru_memory_folder.specs.declared.calls.End.TheVariants.{Done, NotFound, Failed}
use Rattle.lru_memory_folder.specs.Calls.{Deed, Creates, Writes, Renames, Removes, Syncs, SyncsNames, Looks}

-- these bytes at a path, if there are any
abbrev pub put_some : List ℕ → Option (List ℕ) → Files → Files
put_some path None m = m
put_some path (Some bytes) m = insert m path bytes

-- the one byte at a path that is there
abbrev pub marked : List ℕ → ℕ → Files → Files → Files
marked path byte held lost = put_some path (option_map (λ _. byte ∷ []) (get held path)) lost

-- What a loss leaves after a call: of what it left before, and of the files after the call.
abbrev pub lost_done : Deed → ℕ → Files → Files → Files
lost_done (Creates path) byte held lost = marked path byte held lost
lost_done (Writes path piece) byte held lost = marked path byte held lost
lost_done (Renames from to) byte held lost = renamed from to lost
lost_done (Removes path) byte held lost = removed path lost
lost_done (Syncs path) byte held lost = put_some path (get held path) lost
lost_done (SyncsNames dir) byte held lost = lost
lost_done Looks byte held lost = lost

abbrev pub lost_failed : Deed → ℕ → Files → Files → Files
lost_failed (Creates path) byte held lost = marked path byte held lost
lost_failed (Writes path piece) byte held lost = marked path byte held lost
lost_failed (Renames from to) byte held lost = lost
lost_failed (Removes path) byte held lost = lost
lost_failed (Syncs path) byte held lost = lost
lost_failed (SyncsNames dir) byte held lost = lost
lost_failed Looks byte held lost = lost

abbrev pub lost_after : Deed → End → ℕ → Files → Files → Files
lost_after deed Done byte held lost = lost_done deed byte held lost
lost_after deed NotFound byte held lost = lost_failed deed byte held lost
lost_after deed (Failed part) byte held lost = lost_failed deed byte held lost
