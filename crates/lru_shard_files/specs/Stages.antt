-- How far a save of one file has come. Each stage speaks of the folder as the save began, and as it is now.
use Rattle.std.specs.Prelude.{◌≡◌, ◌≢◌, ℕ, List, Some}
use Rattle.std.specs.FinMap.{get}
use Rattle.lru_folder.specs.Folder.{Opened, Writing}
use Rattle.lru_folder.specs.Losses.{firmed, loosened}
use Rattle.lru_folder.specs.Meaning.{Meaning}
use Rattle.lru_shard_files.specs.Saving.{IsSaved, SparesFile}

-- The temporary file holds this much of the bytes, no other file has changed, and nothing has failed.
pub record Holds {F : Type 0} (m : Meaning F) (temp path bytes held : List ℕ) (start now : F) : Type 0 where
  pub distinct : temp ≢ path
  pub begun : m.keeps start
  pub kept : m.keeps now
  pub spares : SparesFile m temp path bytes start now
  pub apart : (q : List ℕ) → q ≢ temp → get (m.files now) q ≡ get (m.files start) q
  pub holds : get (m.files now) temp ≡ Some held
  pub quiet : m.faults now ≡ m.faults start

-- It is open, too,
pub record HoldsOpen {F : Type 0} (m : Meaning F) (opened : F → Opened) (temp path bytes held : List ℕ) (start now : F) : Type 0 where
  pub so : Holds m temp path bytes held start now
  pub writes : opened now ≡ Writing temp

-- or holds all of them, and is no longer loose.
pub record HoldsFirm {F : Type 0} (m : Meaning F) (temp path bytes : List ℕ) (start now : F) : Type 0 where
  pub so : Holds m temp path bytes bytes start now
  pub firm : (q : List ℕ) → m.loose now q → firmed temp (loosened temp (m.loose start)) q

-- The bytes are in place, no loss of power changes them, and nothing has failed.
pub record IsInPlace {F : Type 0} (m : Meaning F) (temp path bytes : List ℕ) (start now : F) : Type 0 where
  pub saved : IsSaved temp path bytes (m.files start) (m.files now)
  pub spares : SparesFile m temp path bytes start now
  pub firm : ¬ m.loose now path
  pub quiet : m.faults now ≡ m.faults start
