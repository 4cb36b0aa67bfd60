-- The calls that a folder makes of the system, as the system answered them.
use Rattle.std.specs.Prelude.{◌≡◌, ℕ, Bool, false, List, [], ◌∷◌, Option, Some, None, Result, MatchResult}
use Rattle.std.specs.IoError.{error_kind}
use Rattle.std.specs.declared.io.Error.{Error}
use Rattle.std.specs.declared.io.ErrorKind.{ErrorKind}
use Rattle.std.specs.declared.io.ErrorKind.TheVariants.{InvalidInput, NotADirectory, ResourceBusy}

-- A call that the system did, with what it answered. N: the open files.
pub data Call (N : Type 0) : Type 0 where
  -- whether a file is there, and no link, folder or pipe; whether a folder is
  SeesFile : (path : List ℕ) → (is : Bool) → Call N
  SeesFolder : (dir : List ℕ) → (is : Bool) → Call N
  -- of a path that was not there before
  Creates : (path : List ℕ) → Call N
  Opens : (path : List ℕ) → Call N
  -- how long an open file is, whether it is this program's alone, and whether it still stands at the path
  Measures : (file : N) → (len : ℕ) → Call N
  Locks : (file : N) → (is : Bool) → Call N
  Matches : (file : N) → (path : List ℕ) → (is : Bool) → Call N
  Writes : (file : N) → (piece : List ℕ) → Call N
  Flushes : (file : N) → Call N
  Syncs : (file : N) → Call N
  Reads : (file : N) → (piece : List ℕ) → Call N
  Closes : (file : N) → Call N
  Renames : (from : List ℕ) → (to : List ℕ) → Call N
  Removes : (path : List ℕ) → Call N
  MakesFolder : (dir : List ℕ) → Call N
  SyncsFolder : (dir : List ℕ) → Call N
  -- the files' names, and how many names are no UTF-8
  Lists : (dir : List ℕ) → (names : List (List ℕ)) → (unreadable : ℕ) → Call N

-- a call that was done, or one that failed with an error of this kind
pub data Event (N : Type 0) : Type 0 where
  Done : (call : Call N) → Event N
  Failed : (kind : ErrorKind) → Event N

-- What a system of type F, with open files of type T, notes of its calls, each behind those before. A system of which nothing
-- is known notes nothing, as all its notes are one. What is proved for each system holds of one that notes all.
pub record Book (F T : Type 0) : Type 1 where
  -- the open files and the notes, as clauses see them
  pub Place : Type 0
  pub Noted : Type 0
  -- which file this is, and which one is opened or created at a path
  pub file_of : T → Place
  pub at_path : List ℕ → Place
  pub notes : F → Noted
  pub note : Noted → Event Place → Noted

-- of a system of which nothing is known
abbrev pub without_notes : {F T : Type 0} → Book F T
without_notes = record { Place = Unit {0}; Noted = Unit {0}; file_of = λ _. tt; at_path = λ _. tt; notes = λ _. tt; note = λ _ _. tt }

-- after these events, the first of them first
abbrev pub after : {N M : Type 0} → (M → Event N → M) → M → List (Event N) → M
after note m [] = m
after note m (e ∷ es) = after note (note m e) es

-- The call was done, with what it was answered, or it failed.
abbrev pub IsNoted : {F T A : Type 0} → (book : Book F T) → F → F → (A → Call book.Place) → Result A Error → Type 0
IsNoted book old new call result = MatchResult result
    (λ answer. book.notes new ≡ book.note (book.notes old) (Done (call answer)))
    (λ error. book.notes new ≡ book.note (book.notes old) (Failed (error_kind error)))

-- the kind of error that an event is, where it is one or an answer `no` to what was needed
abbrev pub refusal : {N : Type 0} → Event N → Option ErrorKind
refusal (Failed kind) = Some kind
refusal (Done (SeesFile path false)) = Some InvalidInput
refusal (Done (SeesFolder dir false)) = Some NotADirectory
refusal (Done (Locks file false)) = Some ResourceBusy
refusal (Done (Matches file path false)) = Some ResourceBusy
refusal (Done call) = None

-- Events among which one is an error of this kind.
pub record Fails {N M : Type 0} (note : M → Event N → M) (kind : ErrorKind) (old new : M) : Type 0 where
  pub before : List (Event N)
  pub event : Event N
  pub behind : List (Event N)
  pub refused : refusal event ≡ Some kind
  pub trail : new ≡ after note (note (after note old before) event) behind
