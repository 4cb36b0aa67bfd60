-- What the program writes, and its status.
use Rattle.std.specs.Prelude.{ℕ, Bool, true, false, List, [], ◌∷◌, ◌++◌, codes, decimal, Option, Some, None, Result, Ok, Err, Vec, if◌then◌else◌}
use Rattle.std.specs.declared.alloc.Global.{Global}
use Rattle.std.specs.List.{flat_map, list_any}
use Rattle.lru_frames.specs.declared.row.Row.{Row}
use Rattle.lru_generations.specs.declared.errors.CheckpointFile.TheVariants as file
use Rattle.lru_generations.specs.declared.errors.CheckpointError.{CheckpointError}
use Rattle.lru_generations.specs.declared.errors.CheckpointError.TheVariants as error
use Rattle.lru_generations.specs.Texts.{error_text}
use Rattle.lru_generations.specs.declared.generation_checks.FoundGeneration.{FoundGeneration}
use Rattle.lru_generations.specs.declared.newest_loading.Checkpoint.{Checkpoint}
use Rattle.lru_generations.specs.declared.newest_loading.Loaded.{Loaded}
use Rattle.lru_generations.specs.declared.newest.Passed.{Passed}
use Rattle.checkpoint_tool_inside.specs.declared.requests.TaskMisuse.{TaskMisuse}
use Rattle.checkpoint_tool_inside.specs.declared.requests.TaskMisuse.TheVariants as misuse
use Rattle.checkpoint_tool_inside.specs.declared.outcome.Verdict.{Verdict}
use Rattle.checkpoint_tool_inside.specs.declared.outcome.Verdict.TheVariants.{Whole, Unfinished, Damaged}
use Rattle.checkpoint_tool_inside.specs.declared.outcome.Outcome.{Outcome}
use Rattle.checkpoint_tool_inside.specs.declared.outcome.Outcome.TheVariants.{Helped, Misused, Saved, Shown, Checked, BadLine, Unread, Memory, Refused}

abbrev pub line : List ℕ → List ℕ
line text = text ++ 10 ∷ []

-- a file is not there, damaged, or of another checkpoint; or memory or the device failed, no number is left, or another save has
-- the folder
abbrev pub heading : CheckpointError → List ℕ
heading error.Memory = codes "failed: "
heading (error.Folder at fault) = codes "failed: "
heading (error.Missing at) = codes "damaged: "
heading (error.Damaged at part) = codes "damaged: "
heading (error.Other at) = codes "damaged: "
heading error.LastGeneration = codes "failed: "
heading error.InUse = codes "failed: "

abbrev pub refusal_text : CheckpointError → List ℕ
refusal_text error = heading error ++ line (error_text error)

abbrev pub misuse_text : TaskMisuse → List ℕ
misuse_text misuse.Words = codes "error: these are not as many words as a command has\n"
misuse_text misuse.Command = codes "error: no such command\n"
misuse_text misuse.FileName = codes "error: the name of the file has a slash\n"
misuse_text misuse.NoFolder = codes "error: the name of the folder is empty\n"
misuse_text misuse.NoFile = codes "error: the name of the file is empty\n"
misuse_text misuse.NoText = codes "error: a word is no text in UTF-8\n"

-- a row's key, value and weight
abbrev pub row_line : Row ℕ ℕ → List ℕ
row_line row = decimal row.key ++ (codes " " ++ (decimal row.data ++ (codes " " ++ line (decimal row.weight))))

abbrev pub generation_line : ℕ → List ℕ
generation_line generation = codes "generation " ++ line (decimal generation)

-- the rows of each shard, as they are held
abbrev pub Held : Type 0
Held = List (Vec (Row ℕ ℕ) Global)

-- the rows of the shards, each shard's in their order
abbrev pub rows_text : Held → List ℕ
rows_text shards = flat_map (λ rows. flat_map row_line rows.items) shards

abbrev pub saved_text : ℕ → ℕ → List ℕ
saved_text generation rows = codes "generation " ++ (decimal generation ++ (codes " rows " ++ line (decimal rows)))

abbrev pub bad_line_text : ℕ → List ℕ
bad_line_text number = codes "error: line " ++ (decimal number ++ codes " is no row\n")

abbrev pub damaged_text : ℕ → CheckpointError → List ℕ
damaged_text generation error = codes "generation " ++ (decimal generation ++ (codes " damaged: " ++ line (error_text error)))

-- a line for each generation that was passed over
abbrev pub passed_line : Passed → List ℕ
passed_line passed = damaged_text passed.generation passed.error

abbrev pub passed_text : List Passed → List ℕ
passed_text passed = flat_map passed_line passed

-- a generation without a manifest was never finished; one of which something else is wrong is damaged
abbrev pub verdict_on : CheckpointError → Verdict
verdict_on error.Memory = Damaged error.Memory
verdict_on (error.Folder at fault) = Damaged (error.Folder at fault)
verdict_on (error.Missing file.Manifest) = Unfinished
verdict_on (error.Missing (file.Shard shard)) = Damaged (error.Missing (file.Shard shard))
verdict_on (error.Missing file.Names) = Damaged (error.Missing file.Names)
verdict_on (error.Damaged at part) = Damaged (error.Damaged at part)
verdict_on (error.Other at) = Damaged (error.Other at)
verdict_on error.LastGeneration = Damaged error.LastGeneration
verdict_on error.InUse = Damaged error.InUse

abbrev pub verdict_in : Result ℕ CheckpointError → Verdict
verdict_in (Ok shards) = Whole
verdict_in (Err error) = verdict_on error

abbrev pub verdict_of : FoundGeneration → Verdict
verdict_of told = verdict_in told.shards

abbrev pub verdict_text : ℕ → Verdict → List ℕ
verdict_text generation Whole = codes "generation " ++ (decimal generation ++ codes " whole\n")
verdict_text generation Unfinished = codes "generation " ++ (decimal generation ++ codes " unfinished\n")
verdict_text generation (Damaged error) = damaged_text generation error

abbrev pub told_text : FoundGeneration → List ℕ
told_text told = verdict_text told.generation (verdict_of told)

abbrev pub no_checkpoint_text : List ℕ
no_checkpoint_text = codes "no checkpoint\n"

-- a line for each generation, or that there is none
abbrev pub checked_text : List FoundGeneration → List ℕ
checked_text [] = no_checkpoint_text
checked_text (one ∷ more) = flat_map told_text (one ∷ more)

abbrev pub newest_text : Option (Checkpoint ℕ ℕ) → List ℕ
newest_text None = no_checkpoint_text
newest_text (Some checkpoint) = generation_line checkpoint.generation ++ rows_text checkpoint.shards.items

-- what was passed over, and then the checkpoint
abbrev pub shown_text : Loaded ℕ ℕ → List ℕ
shown_text loaded = passed_text loaded.passed.items ++ newest_text loaded.newest

abbrev pub help_text : List ℕ
help_text =
    codes "checkpoint_tool saves, shows and checks checkpoints of rows: whole, or refused.\n"
    ++ codes "save DIR FILE   saves the rows of the input as the next checkpoint, KEY VALUE WEIGHT a line, last used last\n"
    ++ codes "show DIR FILE   writes the rows of the newest whole checkpoint, most recent first, shard by shard\n"
    ++ codes "show --before DIR FILE  writes those of the next whole one below it\n"
    ++ codes "check DIR FILE  tells of each generation in the folder whether it is whole, highest first\n"
    ++ codes "A generation that is damaged is passed over; its files stay until a newer checkpoint is kept.\n"

-- older files that may be left, and why; nothing where they are gone
abbrev pub left_line : CheckpointError → List ℕ
left_line error = codes "older files left: " ++ line (error_text error)

abbrev pub left_text : Result (Unit {0}) CheckpointError → List ℕ
left_text (Ok done) = []
left_text (Err error) = left_line error

abbrev pub outcome_text : Outcome → List ℕ
outcome_text Helped = help_text
outcome_text (Misused misuse) = misuse_text misuse
outcome_text (Saved generation rows passed removed) = saved_text generation rows ++ (passed_text passed.items ++ left_text removed)
outcome_text (Shown loaded) = shown_text loaded
outcome_text (Checked told) = checked_text told.items
outcome_text (BadLine number) = bad_line_text number
outcome_text Unread = codes "failed: the input was not read\n"
outcome_text Memory = codes "failed: out of memory\n"
outcome_text (Refused error) = refusal_text error

-- of a checkpoint that was looked for
abbrev pub shown_status : Option (Checkpoint ℕ ℕ) → ℕ
shown_status None = 1
shown_status (Some checkpoint) = 0

abbrev pub is_damaged : Verdict → Bool
is_damaged Whole = false
is_damaged Unfinished = false
is_damaged (Damaged error) = true

abbrev pub is_whole : Verdict → Bool
is_whole Whole = true
is_whole Unfinished = false
is_whole (Damaged error) = false

-- none is damaged, and one is whole
abbrev pub checked_status : List FoundGeneration → ℕ
checked_status told = if list_any (λ one. is_damaged (verdict_of one)) told then 1 else (if list_any (λ one. is_whole (verdict_of one)) told then 0 else 1)

abbrev pub status_of : Outcome → ℕ
status_of Helped = 0
status_of (Misused misuse) = 2
status_of (Saved generation rows passed removed) = 0
status_of (Shown loaded) = shown_status loaded.newest
status_of (Checked told) = checked_status told.items
status_of (BadLine number) = 2
status_of Unread = 1
status_of Memory = 1
status_of (Refused error) = 1
