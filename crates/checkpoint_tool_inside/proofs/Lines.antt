-- What comes of rows comes of the lines that they are in.
use Rattle.std.proofs.Common.{◌≡◌, ℕ, List, Some, map}
use Rattle.lru_folder.specs.Meaning.{Meaning}
use Rattle.lru_frames.specs.declared.row.Row.{Row}
use Rattle.checkpoint_tool_inside.specs.declared.outcome.Outcome.{Outcome}
use Rattle.checkpoint_tool_inside.specs.declared.outcome.Outcome.TheVariants as outcome
use Rattle.checkpoint_tool_inside.specs.InputRows.{rows_of}
use Rattle.checkpoint_tool_inside.specs.Outcomes.{ComesOfRows, ComesOfInput}

pub of_lines : {F : Type 0} (meaning : Meaning F) (dir file_name : List ℕ) (rows : List (Row ℕ ℕ)) (input : List ℕ) (old new : F) → rows_of input ≡ map (λ row. Some row) rows
    → (came : Outcome) → ComesOfRows meaning dir file_name rows old new came → ComesOfInput meaning dir file_name input old new came
of_lines meaning dir file_name rows input old new e (outcome.Saved generation count passed removed) h = (rows, (e, h))
of_lines meaning dir file_name rows input old new e outcome.Memory h = h
of_lines meaning dir file_name rows input old new e (outcome.Refused error) h = h
of_lines meaning dir file_name rows input old new e outcome.Helped h = absurd h
of_lines meaning dir file_name rows input old new e (outcome.Misused misuse) h = absurd h
of_lines meaning dir file_name rows input old new e (outcome.Shown loaded) h = absurd h
of_lines meaning dir file_name rows input old new e (outcome.Checked told) h = absurd h
of_lines meaning dir file_name rows input old new e (outcome.BadLine number) h = absurd h
of_lines meaning dir file_name rows input old new e outcome.Unread h = absurd h
