-- What a loss of power leaves that keeps so many changes of names, and puts one byte into each loose path.
use Rattle.std.specs.Prelude.{◌≡◌, ◌&&◌, ℕ, zero, suc, Bool, true, false, List, [], ◌∷◌, Some, if◌then◌else◌}
use Rattle.std.specs.List.{list_any}
use Rattle.std.specs.FinMap.{get}
use Rattle.lru_folder.specs.Files.{Files}
use Rattle.lru_folder.specs.Losses.{IsSpread, Loss}
use Rattle.lru_memory_folder.specs.declared.calls.End.{End}
use Rattle.lru_memory_folder.specs.declared.calls.End.TheVariants.{Done, NotFound, Failed}
use Rattle.lru_memory_folder.specs.Calls.{Deed, Creates, Writes, Renames, Removes, Syncs, SyncsNames, Looks, Noted}

abbrev pub is_done : End → Bool
is_done Done = true
is_done NotFound = false
is_done (Failed part) = false

abbrev pub of_names : Deed → Bool
of_names (Creates path) = true
of_names (Writes path piece) = false
of_names (Renames from to) = true
of_names (Removes path) = true
of_names (Syncs path) = false
of_names (SyncsNames dir) = false
of_names Looks = false

abbrev pub of_sync : Deed → Bool
of_sync (Creates path) = false
of_sync (Writes path piece) = false
of_sync (Renames from to) = false
of_sync (Removes path) = false
of_sync (Syncs path) = true
of_sync (SyncsNames dir) = true
of_sync Looks = false

-- a name was given or taken away, or a file or the names of a folder were synced: a call that failed is neither
abbrev pub changes_names : Noted → Bool
changes_names c = is_done c.end && of_names c.deed

abbrev pub is_synced : Noted → Bool
is_synced c = is_done c.end && of_sync c.deed

-- the calls before the change of names that follows the first n of them
abbrev pub within : ℕ → List Noted → List Noted
within n [] = []
within zero (c ∷ cs) = if changes_names c then [] else c ∷ within zero cs
within (suc n) (c ∷ cs) = c ∷ (if changes_names c then within n cs else within (suc n) cs)

-- the calls to the last sync, and then those within so many changes of names
abbrev pub kept : ℕ → List Noted → List Noted
kept names [] = []
kept names (c ∷ cs) = if list_any is_synced (c ∷ cs) then c ∷ kept names cs else within names (c ∷ cs)

-- The map of the spread with that byte alone in each loose path that is there.
pub record IsMarked (byte : ℕ) (loss : Loss) (m : Files) : Type 0 where
  pub spread : IsSpread loss.loose loss.files m
  pub marked : (q bytes : List ℕ) → loss.loose q → get m q ≡ Some bytes → bytes ≡ byte ∷ []
