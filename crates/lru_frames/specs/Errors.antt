-- What a refusal of the bytes of a frame is called.
use Rattle.std.specs.Prelude.{ℕ, List, ◌++◌, codes}
use Rattle.lru_frames.specs.declared.errors.Part.{Part}
use Rattle.lru_frames.specs.declared.errors.Part.TheVariants as part
use Rattle.lru_frames.specs.declared.errors.FrameError.{FrameError}
use Rattle.lru_frames.specs.declared.errors.FrameError.TheVariants.{Damaged, Memory}

abbrev pub part_text : Part → List ℕ
part_text part.Length = codes "length"
part_text part.Magic = codes "magic"
part_text part.Version = codes "version"
part_text part.Check = codes "check"
part_text part.Header = codes "header"
part_text part.Rows = codes "rows"

abbrev pub frame_error_text : FrameError → List ℕ
frame_error_text (Damaged part) = codes "damaged " ++ part_text part
frame_error_text Memory = codes "out of memory"

abbrev pub number_of : FrameError → ℕ
number_of Memory = 1
number_of (Damaged part.Length) = 2
number_of (Damaged part.Magic) = 3
number_of (Damaged part.Version) = 4
number_of (Damaged part.Check) = 5
number_of (Damaged part.Header) = 6
number_of (Damaged part.Rows) = 7
