-- What a whole save does: how it may end, what it leaves in the folder, and which words it draws.
use Rattle.std.specs.Prelude.{◌≡◌, ◌↔◌, ℕ, List, true, IfErr, IsErrOf, Result}
use Rattle.rand_core.specs.Stream.{Stream}
use Rattle.lru_folder.specs.declared.errors.ShardSaveError.{ShardSaveError}
use Rattle.lru_folder.specs.declared.errors.ShardSaveError.TheVariants.{Setup}
use Rattle.lru_folder.specs.declared.errors.ShardSaveSetupError.TheVariants.{Memory}
use Rattle.lru_folder.specs.declared.reports.ShardSaveReport.{ShardSaveReport}
use Rattle.lru_folder.specs.Files.{Same}
use Rattle.lru_folder.specs.Folder.{InOrder, Passes}
use Rattle.lru_folder.specs.Losses.{Loses, looking}
use Rattle.lru_folder.specs.Meaning.{Meaning}
use Rattle.lru_folder.specs.Places.{MakesAll, MakesSome}
use Rattle.lru_shard_files.specs.Progress.{IfCreateDir, IfSetup, IsBegun, IsSaveOf, NamesFolder}
use Rattle.lru_shard_files.specs.Saving.{HasReason}
use Rattle.lru_shard_files.specs.Turns.{Given, RunsTo, SavesEach, SavesOne, SaveTurn}

-- what a save answers
abbrev pub SaveResultOf : Type 0 → Type 0
SaveResultOf E = Result (ShardSaveReport E) (ShardSaveError E)

-- The folder was made, and no file has changed yet.
pub record IsMade {F : Type 0} (m : Meaning F) (dir : List ℕ) (old made : F) : Type 0 where
  pub all : MakesAll dir (m.folders old) (m.folders made)
  pub time : Passes m Same old made
  pub loss : Loses m looking old made
  pub faults : m.faults made ≡ m.faults old

-- Each shard has its turn: the closure is called for its bytes, a word is drawn, and the bytes are saved. `step`: what a
-- call of the closure does.
pub record TakesTurns {F S E : Type 0} (m : Meaning F) (step : S → ℕ → Given E → S → Type 0) (dir file_name : List ℕ) (shards : ℕ)
    (closure : S) (drawn_from : Stream) (old : F) (result : SaveResultOf E) (rest : Stream) (new : F) : Type 0 where
  pub turns : List (SaveTurn E)
  pub last : S
  pub run : RunsTo step 0 closure drawn_from turns last rest
  -- the result tells how the turns ended
  pub ends : IsSaveOf dir file_name shards turns result
  -- the folder is made first, and then each turn does to it what a saver's turn does
  pub made : F
  pub makes : m.keeps old → IsMade m dir old made
  pub in_order : m.keeps old → InOrder (SavesOne m dir file_name) 0 turns made new
  pub saves : m.keeps old → SavesEach m dir file_name turns old new

-- A save of so many shards.
pub record SavesShards {F S E : Type 0} (m : Meaning F) (step : S → ℕ → Given E → S → Type 0) (dir file_name : List ℕ) (shards : ℕ)
    (closure : S) (drawn_from : Stream) (old : F) (result : SaveResultOf E) (rest : Stream) (new : F) : Type 0 where
  -- each shard has its turn,
  pub turns : IsBegun result → TakesTurns m step dir file_name shards closure drawn_from old result rest new
  -- or none has: the folder was not made, or memory was refused before it was asked
  pub names : IfErr result (NamesFolder dir)
  pub early : IsErrOf result (Setup Memory) → new ≡ old
  pub reason : m.keeps old → IfErr result (λ e. IfCreateDir e (HasReason true (m.faults old) (m.faults new)))
  pub parents : m.keeps old → IfErr result (λ e. IfSetup e (MakesSome dir (m.folders old) (m.folders new)))
  pub time : m.keeps old → IfErr result (λ e. IfSetup e (Passes m Same old new))
  pub loss : m.keeps old → IfErr result (λ e. IfSetup e (Loses m looking old new))
  pub drawn : IfErr result (λ e. IfSetup e (rest ≡ drawn_from))
  pub kept : m.keeps old ↔ m.keeps new
