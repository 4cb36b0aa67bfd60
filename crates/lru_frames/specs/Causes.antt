-- What is wrong with bytes that are refused, for each part that an error tells.
use Rattle.std.specs.Prelude.{◌≡◌, ◌≢◌, ℕ, ◌<◌, ◌^◌, ◌⊎◌, List, ◌++◌, length}
use Rattle.std.specs.List.{flat_map, AllByRecursion}
use Rattle.lru_frames.specs.declared.errors.Part.{Part}
use Rattle.lru_frames.specs.declared.errors.Part.TheVariants as part
use Rattle.lru_frames.specs.declared.errors.FrameError.{FrameError}
use Rattle.lru_frames.specs.declared.errors.FrameError.TheVariants.{Damaged, Memory}
use Rattle.lru_frames.specs.declared.frame.Header.{Header}
use Rattle.lru_frames.specs.declared.row.Row.{Row}
use Rattle.lru_frames.specs.Words.{word}
use Rattle.lru_frames.specs.Rows.{row_bytes, IsRow}
use Rattle.lru_frames.specs.Envelope.{magic, version, head_of, with_check, sealed}
use Rattle.lru_frames.specs.Frame.{header_bytes, IsHeader}

-- fewer bytes than stand around any content, or a head that tells another length
abbrev pub HasOtherLength : List ℕ → Type 0
HasOtherLength bytes = (length bytes < 32) ⊎ ((told : ℕ) × ((rest : List ℕ) × (bytes ≡ head_of told ++ rest) × (told ≢ length bytes)))

abbrev pub HasOtherMagic : List ℕ → Type 0
HasOtherMagic bytes = (rest : List ℕ) → bytes ≡ word magic ++ rest → ⊥

-- the right magic, and another version behind it
abbrev pub HasOtherVersion : List ℕ → Type 0
HasOtherVersion bytes = (rest : List ℕ) × (bytes ≡ word magic ++ rest) × ((more : List ℕ) → rest ≡ word version ++ more → ⊥)

-- the last bytes are not the check of those before them
abbrev pub HasOtherCheck : List ℕ → Type 0
HasOtherCheck bytes = (front : List ℕ) → bytes ≡ with_check front → ⊥

-- what is wrong around a content
abbrev pub IsWrongAround : Part → List ℕ → Type 0
IsWrongAround part.Length bytes = HasOtherLength bytes
IsWrongAround part.Magic bytes = HasOtherMagic bytes
IsWrongAround part.Version bytes = HasOtherVersion bytes
IsWrongAround part.Check bytes = HasOtherCheck bytes
IsWrongAround part.Header bytes = ⊥
IsWrongAround part.Rows bytes = ⊥

-- a content does not begin with a header
abbrev pub HasNoHeader : List ℕ → Type 0
HasNoHeader content = (header : Header) (count : ℕ) (rest : List ℕ) → IsHeader header → count < 2 ^ 64 → content ≡ header_bytes header count ++ rest → ⊥

module _ {K V : Type 0} (key_bytes : K → List ℕ) (IsKey : K → Type 0) (data_bytes : V → List ℕ) (IsData : V → Type 0) where
  -- behind the header there are not just so many rows as it tells
  abbrev pub HasOtherRows : List ℕ → Type 0
  HasOtherRows content = (header : Header) × ((count : ℕ) × ((rest : List ℕ) × (content ≡ header_bytes header count ++ rest)
      × ((rows : List (Row K V)) → AllByRecursion (IsRow IsKey IsData) rows → length rows ≡ count → rest ≡ flat_map (row_bytes key_bytes data_bytes) rows → ⊥)))

  -- what is wrong with a content
  abbrev pub IsWrongInside : FrameError → List ℕ → Type 0
  IsWrongInside (Damaged part.Header) content = HasNoHeader content
  IsWrongInside (Damaged part.Rows) content = HasOtherRows content
  IsWrongInside Memory content = Unit {0}
  IsWrongInside (Damaged part.Length) content = ⊥
  IsWrongInside (Damaged part.Magic) content = ⊥
  IsWrongInside (Damaged part.Version) content = ⊥
  IsWrongInside (Damaged part.Check) content = ⊥

  -- what is wrong with the bytes; where memory ran out, maybe nothing
  abbrev pub IsWrong : FrameError → List ℕ → Type 0
  IsWrong Memory bytes = Unit {0}
  IsWrong (Damaged part.Header) bytes = (content : List ℕ) × (bytes ≡ sealed content) × HasNoHeader content
  IsWrong (Damaged part.Rows) bytes = (content : List ℕ) × (bytes ≡ sealed content) × HasOtherRows content
  IsWrong (Damaged part.Length) bytes = HasOtherLength bytes
  IsWrong (Damaged part.Magic) bytes = HasOtherMagic bytes
  IsWrong (Damaged part.Version) bytes = HasOtherVersion bytes
  IsWrong (Damaged part.Check) bytes = HasOtherCheck bytes
