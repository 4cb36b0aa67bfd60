-- What a folder's calls make of the system's calls.
use Rattle.std.specs.Prelude.{◌≡◌, ◌⊎◌, ◌==◌, ◌||◌, ◌&&◌, ℕ, zero, suc, Bool, true, false, not, List, [], ◌∷◌, ◌++◌, length, take, drop, map, replicate, codes, nat_eq, string_bytes, String, if◌then◌else◌, Option, Some, None, Result, MatchResult, IsPermutation}
use Rattle.std.specs.List.{ends_with, starts_with}
use Rattle.std.specs.List.Sorted.{IsSortedByKey}
use Rattle.std.specs.Ordering.{nat_cmp}
use Rattle.std.specs.Cmp.Lexicographic.{slice_cmp}
use Rattle.std.specs.declared.alloc.Global.{Global}
use Rattle.std.specs.declared.io.ErrorKind.{ErrorKind}
use Rattle.std.specs.declared.io.ErrorKind.TheVariants as kind
use Rattle.lru_folder.specs.declared.fault.FolderFault.{FolderFault}
use Rattle.lru_folder.specs.declared.fault.FolderFault.TheVariants as fault
use Rattle.lru_folder.specs.Names.{has_slash}
use Rattle.lru_folder.specs.Places.{folder_of}
use Rattle.lru_host_folder.specs.declared.host_open.HostOpen.{HostOpen}
use Rattle.lru_host_folder.specs.declared.host_open.HostOpen.TheVariants.{Closed, Writing, Reading}
use Rattle.lru_host_folder.specs.Calls.{Book, Call, Event, Done, Failed, after, Fails, SeesFile, SeesFolder, Creates, Opens, Locks, Matches, Removes, Closes, MakesFolder, SyncsFolder}

-- what an error of the system is to a folder
abbrev pub fault_of : ErrorKind → FolderFault
fault_of kind.NotFound = fault.NotFound
fault_of kind.OutOfMemory = fault.Memory
fault_of _ = fault.Io

-- the folder of a path, as the system names it: a path without a slash lies in `.`
abbrev pub place_of : List ℕ → List ℕ
place_of path = if has_slash path then (if length (folder_of path) == 0 then codes "/" else folder_of path) else codes "."

-- the system's name of a folder, of which the empty text is `.`
abbrev pub system_name : List ℕ → List ℕ
system_name dir = if length dir == 0 then codes "." else dir

-- A fault is of memory, or an error of the system was the cause, which `Io` may stand for.
abbrev pub HasReason : {N M : Type 0} → (M → Event N → M) → M → M → FolderFault → Type 0
HasReason note old new told = (told ≡ fault.Memory) ⊎ ((kind : ErrorKind) × (Fails note kind old new × ((told ≡ fault_of kind) ⊎ (told ≡ fault.Io))))

-- One call of the system was made. Where it failed, that is what was told.
abbrev pub IsOneCall : {F T A : Type 0} → (book : Book F T) → F → F → (A → Call book.Place) → Result A FolderFault → Type 0
IsOneCall book old new call result = MatchResult result
    (λ answer. book.notes new ≡ book.note (book.notes old) (Done (call answer)))
    (λ told. (kind : ErrorKind) × ((book.notes new ≡ book.note (book.notes old) (Failed kind)) × (told ≡ fault_of kind)))

-- the open file
abbrev pub open_place : {F T : Type 0} → (book : Book F T) → HostOpen T → book.Place
open_place book Closed = book.at_path []
open_place book (Writing file path) = book.file_of file
open_place book (Reading file path) = book.file_of file

-- after the open file is closed, if one is open,
abbrev pub shut : {F T : Type 0} → (book : Book F T) → HostOpen T → book.Noted → book.Noted
shut book Closed m = m
shut book (Writing file path) m = book.note m (Done (Closes (book.file_of file)))
shut book (Reading file path) m = book.note m (Done (Closes (book.file_of file)))

-- and the folder that was claimed
abbrev pub let_go : {F T : Type 0} → (book : Book F T) → Option T → book.Noted → book.Noted
let_go book None m = m
let_go book (Some folder) m = book.note m (Done (Closes (book.file_of folder)))

-- A path was taken away: what is no file at once, and a file while this program had it alone.
abbrev pub IsRemoval : {F T : Type 0} → (book : Book F T) → List ℕ → book.Noted → book.Noted → Type 0
IsRemoval book path old new =
    (new ≡ after book.note old (Done (SeesFile path false) ∷ Done (Removes path) ∷ []))
    ⊎ (new ≡ after book.note old (Done (SeesFile path true) ∷ Done (Opens path) ∷ Done (Locks (book.at_path path) true) ∷ Done (Matches (book.at_path path) path true)
    ∷ Done (Removes path) ∷ Done (Closes (book.at_path path)) ∷ []))

-- What stood at a path was taken away, or was gone already.
abbrev pub IsCleared : {F T : Type 0} → (book : Book F T) → List ℕ → book.Noted → book.Noted → Type 0
IsCleared book path old new = IsRemoval book path old new ⊎ Fails book.note kind.NotFound old new

-- A file was created where none was, at once or after what stood there was cleared.
abbrev pub IsCreation : {F T : Type 0} → (book : Book F T) → List ℕ → book.Noted → book.Noted → Type 0
IsCreation book path old new =
    (new ≡ book.note old (Done (Creates path)))
    ⊎ ((mid : book.Noted) × (IsCleared book path (book.note old (Failed kind.AlreadyExists)) mid × (new ≡ book.note mid (Done (Creates path)))))

-- A file was created, and this program has it alone.
abbrev pub IsClaimedCreation : {F T : Type 0} → (book : Book F T) → List ℕ → book.Noted → book.Noted → Type 0
IsClaimedCreation book path old new =
    (mid : book.Noted) × (IsCreation book path old mid
    × (new ≡ after book.note mid (Done (Locks (book.at_path path) true) ∷ Done (Matches (book.at_path path) path true) ∷ [])))

-- so many reads that a signal interrupted
abbrev pub interrupted : {N M : Type 0} → (M → Event N → M) → ℕ → M → M
interrupted note zero m = m
interrupted note (suc n) m = note (interrupted note n m) (Failed kind.Interrupted)

-- A folder was made and its name synced, or it is there.
abbrev pub IsMade : {F T : Type 0} → (book : Book F T) → List ℕ → book.Noted → book.Noted → Type 0
IsMade book dir old new =
    (new ≡ after book.note old (Done (MakesFolder dir) ∷ Done (SyncsFolder (place_of dir)) ∷ []))
    ⊎ (new ≡ after book.note old (Failed kind.AlreadyExists ∷ Done (SeesFolder dir true) ∷ []))

-- The folders of a list were made so, the first first.
abbrev pub AreMade : {F T : Type 0} → (book : Book F T) → List (List ℕ) → book.Noted → book.Noted → Type 0
AreMade book [] old new = new ≡ old
AreMade book (dir ∷ dirs) old new = (mid : book.Noted) × (IsMade book dir old mid × AreMade book dirs mid new)

-- whether a name ends here, in front of a slash or at the end of the text
abbrev pub ends_name : List ℕ → List ℕ → Bool
ends_name front rest = not (ends_with nat_eq front (codes "/")) && (length rest == 0 || starts_with nat_eq rest (codes "/"))

-- the folders on the way to a folder, and itself: the fronts of its text where a name ends, up to this place
abbrev pub way_to : List ℕ → ℕ → List (List ℕ)
way_to dir zero = []
way_to dir (suc n) = way_to dir n ++ (if ends_name (take (suc n) dir) (drop (suc n) dir) then take (suc n) dir ∷ [] else [])

-- What is told of names that the system listed: they are sorted by their bytes, and those that are no UTF-8 come behind them.
abbrev pub IsListing : List (String Global) → ℕ → List (Option (List ℕ)) → Type 0
IsListing found unreadable listed =
    (sorted : List (String Global)) × (IsPermutation found sorted × (IsSortedByKey string_bytes (slice_cmp nat_cmp) sorted
    × (listed ≡ map Some (map string_bytes sorted) ++ replicate unreadable None)))
