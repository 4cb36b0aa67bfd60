-- What a file that is replaced leaves at every moment.
use Rattle.std.specs.Prelude.{◌≡◌, ◌≢◌, ◌⊎◌, ℕ, List, Some}
use Rattle.std.specs.FinMap.{get}
use Rattle.lru_folder.specs.Files.{Files}
use Rattle.lru_folder.specs.Folder.{LeavesOnly}
use Rattle.lru_folder.specs.Losses.{LosesOnly}
use Rattle.lru_folder.specs.Meaning.{Meaning}
use Rattle.lru_generations.specs.Touching.{IsSameBut}

-- The file has these bytes. Each other path is as it was, but for the temporary one; and each that was not loose has
-- what the folder held.
pub record IsReplaced (temp path bytes : List ℕ) (held : Files) (loose : List ℕ → Type 0) (old m : Files) : Type 0 where
  pub file : get m path ≡ Some bytes
  pub others : IsSameBut (λ q. (q ≡ temp) ⊎ (q ≡ path)) old m
  pub firm : (q : List ℕ) → q ≢ temp → q ≢ path → ¬ loose q → get m q ≡ get held q

-- all but the temporary file is as it was, or the file is replaced
abbrev pub IsOldOrReplaced : List ℕ → List ℕ → List ℕ → Files → (List ℕ → Type 0) → Files → Files → Type 0
IsOldOrReplaced temp path bytes held loose old m = IsSameBut (λ q. q ≡ temp) old m ⊎ IsReplaced temp path bytes held loose old m

-- What is safe at every moment of a replacement.
pub record Replaces {F : Type 0} (meaning : Meaning F) (temp path bytes : List ℕ) (old new : F) : Type 0 where
  pub any_moment : LeavesOnly meaning (IsOldOrReplaced temp path bytes (meaning.files old) (meaning.loose old) (meaning.files old)) old new
  pub any_loss : LosesOnly meaning (IsOldOrReplaced temp path bytes (meaning.files old) (meaning.loose old)) old new
  -- no path becomes loose but the temporary one
  pub loosens : (q : List ℕ) → meaning.loose new q → (q ≡ temp) ⊎ meaning.loose old q
