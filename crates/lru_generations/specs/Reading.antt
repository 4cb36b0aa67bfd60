-- What was read of a file, and why it was not read.
use Rattle.std.specs.Prelude.{◌≡◌, ◌<◌, ◌≤◌, ℕ, List, length, Option, Some, None}
use Rattle.lru_generations.specs.declared.file_reading.Found.{Found}
use Rattle.lru_generations.specs.declared.file_reading.Found.TheVariants.{Nothing, Bytes, TooLong}
use Rattle.lru_generations.specs.declared.file_errors.CallFault.{CallFault}
use Rattle.lru_generations.specs.declared.file_errors.ReadError.{ReadError}
use Rattle.lru_generations.specs.declared.file_errors.ReadError.TheVariants.{Folder, Memory}
use Rattle.lru_generations.specs.Touching.{HasReason}

-- of a call of the folder that failed
abbrev pub IfFolder : ReadError → (CallFault → Type 0) → Type 0
IfFolder (Folder fault) P = P fault
IfFolder Memory P = Unit {0}

-- the device or memory is the reason; where the room for the bytes was not found, the device did not fail
abbrev pub HasReadReason : ℕ → ℕ → ReadError → Type 0
HasReadReason before now (Folder fault) = HasReason ⊥ before now fault.source
HasReadReason before now Memory = now ≡ before

-- what stands at a path, where at most so many bytes were asked for
abbrev pub IsFound : ℕ → Found → Option (List ℕ) → Type 0
IsFound most Nothing file = file ≡ None
IsFound most (Bytes bytes) file = (file ≡ Some bytes.items) × (length bytes.items ≤ most)
IsFound most TooLong file = (bytes : List ℕ) × ((file ≡ Some bytes) × (most < length bytes))
