-- What is told of each generation of a folder.
use Rattle.std.specs.Prelude.{◌≡◌, ◌↔◌, ◌<◌, ℕ, List, length, Result, Ok, Err, Some, AllPairs, Contains}
use Rattle.std.specs.FinMap.{get}
use Rattle.lru_folder.specs.Files.{Files}
use Rattle.lru_folder.specs.Meaning.{Meaning}
use Rattle.lru_frames.specs.declared.mark.Mark.{Mark}
use Rattle.lru_generations.specs.declared.names.PartName.{PartName}
use Rattle.lru_generations.specs.Names.{IsPart, generation_of, part_path}
use Rattle.lru_generations.specs.declared.errors.CheckpointError.{CheckpointError}
use Rattle.lru_generations.specs.Checkpoints.{IsWhole}
use Rattle.lru_generations.specs.Loads.{IsFault, IsRefused, IsRefusedByCheck}
use Rattle.lru_generations.specs.Newest.{IsWholeAt}

module _ (dir file_name : List ℕ) where
  -- some part of a generation has a file
  abbrev pub HasAnyPart : Files → ℕ → Type 0
  HasAnyPart files generation = (part : PartName) × (IsPart part × ((generation_of part ≡ generation)
      × ((bytes : List ℕ) × (get files (part_path dir file_name part) ≡ Some bytes))))

  -- These are the generations of which some part has a file, the highest first.
  pub record AreAll (files : Files) (generations : List ℕ) : Type 0 where
    pub found : (generation : ℕ) → Contains generations generation ↔ HasAnyPart files generation
    pub falling : AllPairs (λ first later. later < first) generations

  -- It is whole and has so many shards, or it is not whole, for this reason.
  abbrev pub IsTold : {F : Type 0} → Meaning F → F → F → ℕ → Result ℕ CheckpointError → Type 0
  IsTold meaning old new generation (Ok shards) = (marks : List Mark) × (IsWhole dir file_name generation marks (meaning.files old) × (shards ≡ length marks))
  IsTold meaning old new generation (Err error) = (¬ IsFault error) × ((¬ IsWholeAt dir file_name (meaning.files old) generation)
      × IsRefused meaning (IsRefusedByCheck meaning dir file_name) dir file_name generation old new error)
