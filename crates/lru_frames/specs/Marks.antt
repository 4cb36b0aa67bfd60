-- What tells a frame from every other one.
use Rattle.std.specs.Prelude.{◌≡◌, ℕ, ◌+◌, List, length}
use Rattle.lru_frames.specs.Crc.{crc_of}
use Rattle.lru_frames.specs.declared.errors.Part.{Part}
use Rattle.lru_frames.specs.declared.errors.Part.TheVariants as part
use Rattle.lru_frames.specs.declared.frame.Header.{Header}
use Rattle.lru_frames.specs.declared.mark.Mark.{Mark}
use Rattle.lru_frames.specs.declared.row.Row.{Row}
use Rattle.lru_frames.specs.Causes.{HasNoHeader, HasOtherCheck, HasOtherLength, HasOtherMagic, HasOtherVersion}
use Rattle.lru_frames.specs.Envelope.{around, front_of, sealed}
use Rattle.lru_frames.specs.Frame.{content_of}

-- the mark of a frame with so many rows and this content
abbrev pub mark_in : ℕ → List ℕ → Mark
mark_in count content = record { rows = count; length = length content + around; check = crc_of (front_of content) }

-- the mark of the frame of these rows
abbrev pub mark_of : {K V : Type 0} → (K → List ℕ) → (V → List ℕ) → Header → List (Row K V) → Mark
mark_of key_bytes data_bytes header rows = mark_in (length rows) (content_of key_bytes data_bytes header rows)

-- what is wrong with bytes that are no frame, whatever their rows hold
abbrev pub IsWrongFrame : Part → List ℕ → Type 0
IsWrongFrame part.Length bytes = HasOtherLength bytes
IsWrongFrame part.Magic bytes = HasOtherMagic bytes
IsWrongFrame part.Version bytes = HasOtherVersion bytes
IsWrongFrame part.Check bytes = HasOtherCheck bytes
IsWrongFrame part.Header bytes = (content : List ℕ) × ((bytes ≡ sealed content) × HasNoHeader content)
IsWrongFrame part.Rows bytes = ⊥
