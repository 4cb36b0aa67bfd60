-- The whole program: the core that it begins with, its random words, what it writes, and its status.
use Rattle.std.specs.Prelude.{◌≡◌, ◌⊎◌, ℕ, List, [], codes, replicate, Some, None, is_some, Option, if◌then◌else◌}
use Rattle.std.specs.List.{list_all}
use Rattle.std.specs.Io.KnownBytes.{Appends}
use Rattle.lru_shard_files.specs.declared.snapshot.Keyed.{Keyed}
use Rattle.lru_tool_inside.specs.declared.settings.CoreSettings.{CoreSettings}
use Rattle.lru_tool_inside.specs.Commands.{Asked}
use Rattle.pingora_lru.specs.Core.{Core}
use Rattle.pingora_lru_files.specs.Stores.{Meaning}
use Rattle.lru_tool_inside.specs.Storing.{State}
use Rattle.lru_tool_inside.specs.Replies.{line, Serves}
use Rattle.rand_core.specs.Stream.{Stream}
use Rattle.rand_core.specs.Steps.{stream_of, steps_u32}
use Rattle.rand_core.specs.Pcg32Seed.{pcg32_seed}
use Rattle.rand_chacha.specs.ChaCha.{next_word, of_seed}

-- the core that the program begins with
abbrev pub fresh : CoreSettings → Core Keyed
fresh s = record { lists = replicate 2 []; weight_limit = s.limit; watermark = s.watermark; evicted_weight = 0; evicted_len = 0 }

-- the random words that a seed gives: those of the standard generator, ChaCha with 12 rounds, which are 6 double ones
abbrev pub words_of : ℕ → Stream
words_of seed = stream_of (steps_u32 (next_word 6)) (of_seed (pcg32_seed 32 seed))

-- 0, or 2 where a line is bad
abbrev pub status_of : List (Option Asked) → ℕ
status_of lines = if list_all is_some lines then 0 else 2

-- The lines are served, from line 1 on: a text for them was written, and this folder is left.
abbrev pub WritesFor : {F : Type 0} → Meaning F → State F → List (Option Asked) → Option (List ℕ) → Option (List ℕ) → F → Type 0
WritesFor m state lines old new last = (text : List ℕ) × (Serves m state lines 1 text last × Appends old new text)

-- A run with these settings over these lines ends with their status, and they were served.
abbrev pub Runs : {F : Type 0} → Meaning F → CoreSettings → F → List (Option Asked) → ℕ → Option (List ℕ) → Option (List ℕ) → F → Type 0
Runs m settings folder lines status old new last =
    (status ≡ status_of lines) × WritesFor m (record { core = fresh settings; folder = folder; words = words_of settings.seed }) lines old new last

-- where the input or the core finds no memory, and where a read fails
abbrev pub memory_text : List ℕ
memory_text = line (codes "error memory")

abbrev pub input_text : List ℕ
input_text = line (codes "error input")

-- A run ends with status 1 only so: a write failed, or a read did and `error input` was written, or memory was wanted and
-- `error memory` was. With arguments that are wrong nothing is read and no memory is asked for, so a write failed.
abbrev pub GivesUp : Option CoreSettings → Type 0 → Type 0 → Option (List ℕ) → Option (List ℕ) → Type 0
GivesUp None read_failed write_failed old new = write_failed
GivesUp (Some settings) read_failed write_failed old new = write_failed ⊎ (Appends old new memory_text ⊎ (read_failed × Appends old new input_text))
