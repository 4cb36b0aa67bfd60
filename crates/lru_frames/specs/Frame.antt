-- A frame: the rows of one shard, and which shard of how many it is.
use Rattle.std.specs.Prelude.{◌≡◌, ℕ, ◌<◌, ◌^◌, List, ◌++◌, length}
use Rattle.std.specs.List.{flat_map, AllByRecursion}
use Rattle.lru_frames.specs.declared.frame.Header.{Header}
use Rattle.lru_frames.specs.declared.row.Row.{Row}
use Rattle.lru_frames.specs.declared.errors.Part.{Part}
use Rattle.lru_frames.specs.declared.errors.FrameError.{FrameError}
use Rattle.lru_frames.specs.declared.errors.FrameError.TheVariants.{Damaged}
use Rattle.lru_frames.specs.Words.{word}
use Rattle.lru_frames.specs.Rows.{row_bytes, IsRow}
use Rattle.lru_frames.specs.Envelope.{sealed}

-- which shard of how many, of which generation, with how many rows
abbrev pub header_bytes : Header → ℕ → List ℕ
header_bytes header count = word header.shards ++ (word header.shard ++ (word header.generation ++ word count))

-- A header that a frame may have.
pub record IsHeader (header : Header) : Type 0 where
  pub shards : header.shards < 2 ^ 64
  pub shard : header.shard < header.shards
  pub generation : header.generation < 2 ^ 64

-- the error tells which part is damaged
abbrev pub IsDamaged : FrameError → Type 0
IsDamaged error = (part : Part) × (error ≡ Damaged part)

module _ {K V : Type 0} where
  module _ (key_bytes : K → List ℕ) (data_bytes : V → List ℕ) where
    -- the header, and then the rows one behind the other
    abbrev pub content_of : Header → List (Row K V) → List ℕ
    content_of header rows = header_bytes header (length rows) ++ flat_map (row_bytes key_bytes data_bytes) rows

    -- all the bytes of a frame
    abbrev pub frame_of : Header → List (Row K V) → List ℕ
    frame_of header rows = sealed (content_of header rows)

  -- What a frame may have: numbers that fit, and keys and data that are values of their types.
  pub record Fits (IsKey : K → Type 0) (IsData : V → Type 0) (header : Header) (rows : List (Row K V)) : Type 0 where
    pub numbers : IsHeader header
    pub each : AllByRecursion (IsRow IsKey IsData) rows
    pub count : length rows < 2 ^ 64
