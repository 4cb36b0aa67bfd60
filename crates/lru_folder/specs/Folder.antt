-- What is open in a folder, and how its calls follow one another in time.
use Rattle.std.specs.Prelude.{◌≡◌, ◌⊎◌, ◌<◌, ◌≤◌, ℕ, suc, List, [], ◌∷◌, ◌++◌, length, Result, IsErrOf}
use Rattle.lru_folder.specs.declared.fault.FolderFault.{FolderFault}
use Rattle.lru_folder.specs.declared.fault.FolderFault.TheVariants.{Io}
use Rattle.lru_folder.specs.Files.{Files}
use Rattle.lru_folder.specs.Meaning.{Meaning}

-- The one open file: the path that is written, or the bytes that are left to read, or a file that is read at a place that is not known.
pub data Opened : Type 0 where
  Closed : Opened
  Writing : (path : List ℕ) → Opened
  Reading : (left : List ℕ) → Opened
  Lost : Opened

abbrev pub IsWriting : Opened → Type 0
IsWriting (Writing path) = Unit {0}
IsWriting (Reading left) = ⊥
IsWriting Lost = ⊥
IsWriting Closed = ⊥

abbrev pub IsReading : Opened → Type 0
IsReading (Reading left) = Unit {0}
IsReading Lost = Unit {0}
IsReading (Writing path) = ⊥
IsReading Closed = ⊥

-- the path that is written
abbrev pub written_path : Opened → List ℕ
written_path (Writing path) = path
written_path (Reading left) = []
written_path Lost = []
written_path Closed = []

-- the next bytes of what is left, at most so many, and none only at the end
pub record Reads (max : ℕ) (left piece rest : List ℕ) : Type 0 where
  pub parts : left ≡ piece ++ rest
  pub fits : length piece ≤ max
  pub end : 0 < max → piece ≡ [] → left ≡ []

-- A call: what a stop since t could have left is what it could before the call, or a part of the call.
pub record Passes {F : Type 0} (meaning : Meaning F) (part : Files → Files → Type 0) (old new : F) : Type 0 where
  pub later : meaning.clock old ≤ meaning.clock new
  pub nothing_else : (t : ℕ) (m : Files) → t ≤ meaning.clock old → meaning.stopped_since new t m → meaning.stopped_since old t m ⊎ part (meaning.files old) m
  pub stays : (t : ℕ) (m : Files) → t ≤ meaning.clock old → meaning.stopped_since old t m → meaning.stopped_since new t m
  pub leaves : part (meaning.files old) (meaning.files new)

-- Calls: what a stop at any moment since the first could leave has P, and so do the files now.
pub record LeavesOnly {F : Type 0} (meaning : Meaning F) (P : Files → Type 0) (old new : F) : Type 0 where
  pub later : meaning.clock old ≤ meaning.clock new
  pub each : (m : Files) → meaning.stopped_since new (meaning.clock old) m → P m
  pub now : P (meaning.files new)
  -- for who began to look earlier
  pub before : (t : ℕ) (m : Files) → t ≤ meaning.clock old → meaning.stopped_since new t m → meaning.stopped_since old t m ⊎ P m

-- the number of failures doesn't fall, and it rose where `Io` is told, and only there
pub record HasCause {T : Type 0} (before now : ℕ) (result : Result T FolderFault) : Type 0 where
  pub later : before ≤ now
  pub failed : IsErrOf result Io → before < now
  pub told : before < now → IsErrOf result Io

-- Steps in order, the first with this number, each from where the one before it left the folder.
abbrev pub InOrder : {F T : Type 0} → (ℕ → T → F → F → Type 0) → ℕ → List T → F → F → Type 0
InOrder Step n [] old new = new ≡ old
InOrder {F} Step n (t ∷ ts) old new = (mid : F) × Step n t old mid × InOrder Step (suc n) ts mid new
