-- How a call of a folder in memory goes: what is noted of it, and what it answers.
use Rattle.std.specs.Prelude.{◌≡◌, ◌⊎◌, ℕ, Bool, true, false, List, [], ◌∷◌, ◌++◌, Option, Some, None, Result, Err, IsOk}
use Rattle.std.specs.FinMap.{from_entries}
use Rattle.lru_memory_folder.specs.declared.calls.End.{End}
use Rattle.lru_memory_folder.specs.declared.calls.End.TheVariants.{Done, NotFound, Failed}
use Rattle.lru_folder.specs.declared.fault.FolderFault.{FolderFault}
use Rattle.lru_folder.specs.declared.fault.FolderFault.TheVariants as fault
use Rattle.lru_folder.specs.Files.{Files}
use Rattle.lru_memory_folder.specs.Calls.{Deed, Noted, after}

-- what was there, and the calls since
pub record History : Type 0 where
  pub begun : List (List ℕ × List ℕ)
  pub calls : List Noted

abbrev pub files_left : History → Files
files_left h = after h.calls (from_entries h.begun)

-- with one call more
abbrev pub with_call : History → Deed → End → History
with_call h deed end = record { begun = h.begun; calls = h.calls ++ record { deed = deed; end = end } ∷ [] }

-- how a call ends, by its fate and by whether what it asks for is there
abbrev pub end_of : Option ℕ → Bool → End
end_of (Some part) found = Failed part
end_of None true = Done
end_of None false = NotFound

-- what a call answers that ended so
abbrev pub Tells : {T : Type 0} → End → Result T FolderFault → Type 0
Tells Done result = IsOk result
Tells NotFound result = result ≡ Err fault.NotFound
Tells (Failed part) result = result ≡ Err fault.Io

-- A call ended so and was noted, or it was refused memory and nothing was.
abbrev pub Goes : {T : Type 0} → Deed → End → History → History → Result T FolderFault → Type 0
Goes deed end old new result = ((new ≡ with_call old deed end) × Tells end result) ⊎ ((new ≡ old) × (result ≡ Err fault.Memory))
