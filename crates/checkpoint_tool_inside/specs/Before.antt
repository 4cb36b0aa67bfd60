-- The checkpoints that can be shown.
use Rattle.std.specs.Prelude.{◌<◌, ◌^◌, ℕ, List}
use Rattle.lru_folder.specs.Files.{Files}
use Rattle.lru_frames.specs.Words.{word}
use Rattle.lru_generations.specs.Loaded.{IsReadable}

abbrev pub IsWord : ℕ → Type 0
IsWord n = n < 2 ^ 64

-- a generation can be read as rows of numbers
abbrev pub CanShow : List ℕ → List ℕ → Files → ℕ → Type 0
CanShow dir file_name files generation = IsReadable word IsWord word IsWord dir file_name files generation
