-- A manifest as bytes, and the parts of a checkpoint.
use Rattle.std.specs.Prelude.{◌≡◌, ◌≢◌, ◌⊎◌, ℕ, suc, ◌<◌, ◌^◌, List, length, map}
use Rattle.std.specs.List.{AllByRecursion}
use Rattle.lru_frames.specs.declared.errors.Part.TheVariants as part
use Rattle.lru_frames.specs.declared.errors.FrameError.{FrameError}
use Rattle.lru_frames.specs.declared.errors.FrameError.TheVariants.{Damaged, Memory}
use Rattle.lru_frames.specs.declared.frame.Header.{Header}
use Rattle.lru_frames.specs.declared.mark.Mark.{Mark}
use Rattle.lru_frames.specs.declared.row.Row.{Row}
use Rattle.lru_frames.specs.Causes.{HasNoHeader, HasOtherLength, HasOtherMagic, HasOtherVersion, HasOtherCheck, HasOtherRows}
use Rattle.lru_frames.specs.Envelope.{sealed}
use Rattle.lru_frames.specs.Frame.{content_of, frame_of}
use Rattle.lru_frames.specs.Words.{word}

-- the header of a part of a generation with so many shards: the frames of the shards, and behind them the manifest
abbrev pub part_header : ℕ → ℕ → ℕ → Header
part_header generation shards number = record { shards = suc shards; shard = number; generation = generation }

-- a mark as a row
abbrev pub mark_row : Mark → Row ℕ ℕ
mark_row mark = record { key = mark.rows; «data» = mark.check; weight = mark.length }

-- and back
abbrev pub row_mark : Row ℕ ℕ → Mark
row_mark row = record { rows = row.key; length = row.weight; check = row.data }

-- the last part, with a row for each shard
abbrev pub manifest_content : ℕ → List Mark → List ℕ
manifest_content generation marks = content_of word word (part_header generation (length marks) (length marks)) (map mark_row marks)

abbrev pub manifest_bytes : ℕ → List Mark → List ℕ
manifest_bytes generation marks = frame_of word word (part_header generation (length marks) (length marks)) (map mark_row marks)

-- Numbers that a mark may have.
pub record IsMark (mark : Mark) : Type 0 where
  pub rows : mark.rows < 2 ^ 64
  pub length : mark.length < 2 ^ 64
  pub check : mark.check < 2 ^ 64

-- Numbers that a manifest may have.
pub record IsManifest (number : ℕ) (marks : List Mark) : Type 0 where
  pub shards : suc (length marks) < 2 ^ 64
  pub generation : number < 2 ^ 64
  pub each : AllByRecursion IsMark marks

-- a frame of this header and with these rows is the manifest
abbrev pub IsFrameOf : Header → List (Row ℕ ℕ) → ℕ → List Mark → Type 0
IsFrameOf header rows generation marks = (header ≡ part_header generation (length marks) (length marks)) × (rows ≡ map mark_row marks)

-- it is none, since it is not the last part, or has not one row for each shard; where memory ran out, maybe one
abbrev pub IsRefused : FrameError → Header → List (Row ℕ ℕ) → Type 0
IsRefused Memory header rows = Unit {0}
IsRefused (Damaged part.Header) header rows = suc header.shard ≢ header.shards
IsRefused (Damaged part.Rows) header rows = (suc header.shard ≡ header.shards) × (length rows ≢ header.shard)
IsRefused (Damaged part.Length) header rows = ⊥
IsRefused (Damaged part.Magic) header rows = ⊥
IsRefused (Damaged part.Version) header rows = ⊥
IsRefused (Damaged part.Check) header rows = ⊥

-- all around the content is right, and the content is no manifest's
abbrev pub HasOtherContent : List ℕ → Type 0
HasOtherContent bytes = (content : List ℕ) × ((bytes ≡ sealed content)
    × ((generation : ℕ) (marks : List Mark) → IsManifest generation marks → content ≢ manifest_content generation marks))

abbrev pub IsNumber : ℕ → Type 0
IsNumber n = n < 2 ^ 64

-- the content has no header, or that of another part than the last one
abbrev pub HasOtherPart : List ℕ → Type 0
HasOtherPart content = HasNoHeader content ⊎ ((header : Header) × ((rows : List (Row ℕ ℕ)) × ((content ≡ content_of word word header rows) × (suc header.shard ≢ header.shards))))

-- it has a header, and behind it no rows of numbers, or of the last part not one for each shard
abbrev pub HasOtherMarks : List ℕ → Type 0
HasOtherMarks content = HasOtherRows {K = ℕ} {V = ℕ} word IsNumber word IsNumber content ⊎ ((header : Header) × ((rows : List (Row ℕ ℕ))
    × ((content ≡ content_of word word header rows) × ((suc header.shard ≡ header.shards) × (length rows ≢ header.shard)))))

-- the content is like this
abbrev pub HasContent : (List ℕ → Type 0) → List ℕ → Type 0
HasContent P bytes = (content : List ℕ) × ((bytes ≡ sealed content) × P content)

-- what is wrong with the bytes; where memory ran out, maybe nothing
abbrev pub IsWrongManifest : FrameError → List ℕ → Type 0
IsWrongManifest Memory bytes = Unit {0}
IsWrongManifest (Damaged part.Header) bytes = HasOtherContent bytes × HasContent HasOtherPart bytes
IsWrongManifest (Damaged part.Rows) bytes = HasOtherContent bytes × HasContent HasOtherMarks bytes
IsWrongManifest (Damaged part.Length) bytes = HasOtherLength bytes
IsWrongManifest (Damaged part.Magic) bytes = HasOtherMagic bytes
IsWrongManifest (Damaged part.Version) bytes = HasOtherVersion bytes
IsWrongManifest (Damaged part.Check) bytes = HasOtherCheck bytes
