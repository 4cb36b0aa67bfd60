-- What the words that the program is called with ask for.
use Rattle.std.specs.Prelude.{◌≡◌, ℕ, List, [], ◌∷◌, Option, Some, None, Result, Ok, Err, String, Vec, codes, false, map, string_bytes, if◌then◌else◌}
use Rattle.std.specs.declared.alloc.Global.{Global}
use Rattle.std.specs.Str.{bytes_eq}
use Rattle.std.specs.declared.io.ErrorKind.{ErrorKind}
use Rattle.std.specs.declared.io.ErrorKind.TheVariants as kind
use Rattle.lru_folder.specs.Names.{has_slash}
use Rattle.checkpoint_tool_inside.specs.declared.requests.TaskMisuse.{TaskMisuse}
use Rattle.checkpoint_tool_inside.specs.declared.requests.TaskMisuse.TheVariants.{Words, Command, FileName, NoFolder, NoFile, NoText}
use Rattle.checkpoint_tool_inside.specs.declared.requests.WordsError.{WordsError}
use Rattle.checkpoint_tool_inside.specs.declared.requests.WordsError.TheVariants as words
use Rattle.checkpoint_tool_inside.specs.declared.requests.Task.{Task}
use Rattle.checkpoint_tool_inside.specs.declared.requests.Task.TheVariants as request

pub data Asked : Type 0 where
  Help : Asked
  Save : (dir : List ℕ) → (file_name : List ℕ) → Asked
  Show : (dir : List ℕ) → (file_name : List ℕ) → Asked
  ShowBefore : (dir : List ℕ) → (file_name : List ℕ) → Asked
  Check : (dir : List ℕ) → (file_name : List ℕ) → Asked
  Misused : (misuse : TaskMisuse) → Asked
  NoMemory : Asked

-- a request with its texts as bytes
abbrev pub asked : Task → Asked
asked request.Help = Help
asked (request.Save dir file_name) = Save dir.now file_name.now
asked (request.Show dir file_name) = Show dir.now file_name.now
asked (request.ShowBefore dir file_name) = ShowBefore dir.now file_name.now
asked (request.Check dir file_name) = Check dir.now file_name.now
asked (request.Misused misuse) = Misused misuse

-- what is wrong with the name of a folder and that of a file in it
abbrev pub misuse_of_file : List ℕ → Option TaskMisuse
misuse_of_file [] = Some NoFile
misuse_of_file (byte ∷ rest) = if has_slash (byte ∷ rest) then Some FileName else None

abbrev pub misuse_of : List ℕ → List ℕ → Option TaskMisuse
misuse_of [] file_name = Some NoFolder
misuse_of (byte ∷ rest) file_name = misuse_of_file file_name

-- that is told before anything else that is wrong
abbrev pub unless_misused : Option TaskMisuse → Asked → Asked
unless_misused None other = other
unless_misused (Some misuse) other = Misused misuse

-- a command with a folder and the name of a file
abbrev pub request_of_three : List ℕ → List ℕ → List ℕ → Asked
request_of_three command dir file_name = unless_misused (misuse_of dir file_name) (
    if bytes_eq command (codes "save") then Save dir file_name else (
    if bytes_eq command (codes "show") then Show dir file_name else (
    if bytes_eq command (codes "check") then Check dir file_name else Misused Command)))

abbrev pub request_before : List ℕ → List ℕ → Asked
request_before dir file_name = unless_misused (misuse_of dir file_name) (ShowBefore dir file_name)

-- a command with an option before them
abbrev pub request_of_four : List ℕ → List ℕ → List ℕ → List ℕ → Asked
request_of_four command option dir file_name =
    if bytes_eq command (codes "show") then (if bytes_eq option (codes "--before") then request_before dir file_name else Misused Words) else Misused Words

abbrev pub request_of : List (List ℕ) → Asked
request_of (word ∷ []) = if bytes_eq word (codes "--help") then Help else Misused Words
request_of (command ∷ dir ∷ file_name ∷ []) = request_of_three command dir file_name
request_of (command ∷ option ∷ dir ∷ file_name ∷ []) = request_of_four command option dir file_name
request_of _ = Misused Words

-- the name of the file is one in the folder
abbrev pub IsPossible : Asked → Type 0
IsPossible Help = Unit {0}
IsPossible (Save dir file_name) = has_slash file_name ≡ false
IsPossible (Show dir file_name) = has_slash file_name ≡ false
IsPossible (ShowBefore dir file_name) = has_slash file_name ≡ false
IsPossible (Check dir file_name) = has_slash file_name ≡ false
IsPossible (Misused misuse) = Unit {0}
IsPossible NoMemory = Unit {0}

-- what is asked for where the words may not have been read
abbrev pub asked_of : Result (Vec (String Global) Global) WordsError → Asked
asked_of (Ok words) = request_of (map string_bytes words.items)
asked_of (Err words.Memory) = NoMemory
asked_of (Err words.NoText) = Misused NoText

-- why the words were not read: the system says that memory was refused, or else that one is no text
abbrev pub words_error : ErrorKind → WordsError
words_error kind.OutOfMemory = words.Memory
words_error _ = words.NoText
