-- Frames of shards that are handed out one at a time.
use Rattle.std.specs.Prelude.{◌≡◌, ℕ, List}
use Rattle.lru_frames.specs.declared.frame.Header.{Header}
use Rattle.lru_frames.specs.declared.mark.Mark.{Mark}
use Rattle.lru_frames.specs.declared.row.Row.{Row}
use Rattle.lru_frames.specs.Frame.{frame_of, Fits}
use Rattle.lru_frames.specs.Marks.{mark_of}

-- these are the frame of rows that are handed out, and its mark
abbrev pub IsFrameOf : {K V : Type 0} → (K → List ℕ) → (K → Type 0) → (V → List ℕ) → (V → Type 0) → (List (Row K V) → Type 0) → Header → List ℕ → Mark → Type 0
IsFrameOf {K} {V} key_bytes IsKey data_bytes IsData HandsOut header bytes mark = (rows : List (Row K V)) × (HandsOut rows × (Fits IsKey IsData header rows
    × ((bytes ≡ frame_of key_bytes data_bytes header rows) × (mark ≡ mark_of key_bytes data_bytes header rows))))
