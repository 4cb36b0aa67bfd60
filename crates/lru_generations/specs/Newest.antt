-- The newest checkpoint of a folder, and those above it that were passed over.
use Rattle.std.specs.Prelude.{◌≡◌, ◌↔◌, ◌<◌, ◌^◌, ℕ, List, ◌∷◌, ◌++◌, map, Option, Some, None, AllPairs, Contains}
use Rattle.std.specs.FinMap.{get}
use Rattle.lru_folder.specs.Files.{Files}
use Rattle.lru_frames.specs.declared.mark.Mark.{Mark}
use Rattle.lru_generations.specs.declared.manifest.Manifest.{Manifest}
use Rattle.lru_generations.specs.Names.{manifest_path}
use Rattle.lru_generations.specs.declared.errors.CheckpointError.{CheckpointError}
use Rattle.lru_generations.specs.Checkpoints.{IsTaken, IsWhole}
use Rattle.lru_generations.specs.Loads.{IsFault}
use Rattle.lru_generations.specs.declared.newest.Passed.{Passed}

-- below a bound, where there is one
abbrev pub IsBelow : Option ℕ → ℕ → Type 0
IsBelow None number = Unit {0}
IsBelow (Some bound) number = number < bound

-- of the numbers that hold this is the highest, or there is none
abbrev pub IsHighest : (ℕ → Type 0) → Option ℕ → Type 0
IsHighest Holds None = (number : ℕ) → ¬ Holds number
IsHighest Holds (Some number) = Holds number × ((higher : ℕ) → number < higher → ¬ Holds higher)

module _ (dir file_name : List ℕ) (files : Files) where
  -- the manifest of a generation has a file
  abbrev pub HasManifest : ℕ → Type 0
  HasManifest generation = (bytes : List ℕ) × (get files (manifest_path dir file_name generation) ≡ Some bytes)

  -- each generation whose manifest has a file is among these,
  abbrev pub HasAllManifests : List ℕ → Type 0
  HasAllManifests generations = (generation : ℕ) → generation < 2 ^ 64 → HasManifest generation → Contains generations generation

  -- or these are just those, the highest first
  pub record AreGenerations (generations : List ℕ) : Type 0 where
    pub found : (generation : ℕ) → Contains generations generation ↔ ((generation < 2 ^ 64) × HasManifest generation)
    pub falling : AllPairs (λ first later. later < first) generations

  -- so it is with those below a bound
  pub record AreGenerationsBelow (bound : Option ℕ) (generations : List ℕ) : Type 0 where
    pub found : (generation : ℕ) → Contains generations generation ↔ ((generation < 2 ^ 64) × (HasManifest generation × IsBelow bound generation))
    pub falling : AllPairs (λ first later. later < first) generations

  -- the checkpoint of a generation is whole, by its checks
  abbrev pub IsWholeAt : ℕ → Type 0
  IsWholeAt generation = (marks : List Mark) × IsWhole dir file_name generation marks files

  -- this is the highest generation that is whole, or none is whole
  abbrev pub IsNewest : Option ℕ → Type 0
  IsNewest newest = IsHighest IsWholeAt newest

  -- It is taken for whole: it is, or it is the known one and still has its manifest.
  abbrev pub IsTakenAt : Option Manifest → ℕ → Type 0
  IsTakenAt known generation = (marks : List Mark) × IsTaken dir file_name known generation marks files

  -- this is the highest generation that is taken for whole, or none is
  abbrev pub IsHighestTaken : Option Manifest → Option ℕ → Type 0
  IsHighestTaken known newest = IsHighest (IsTakenAt known) newest

  -- what is known is whole there, as it was
  abbrev pub IsAsKnown : Option Manifest → Type 0
  IsAsKnown None = Unit {0}
  IsAsKnown (Some known) = IsWhole dir file_name known.generation known.frames.items files

-- the generations in front of the newest one, or all where there is none
abbrev pub IsFront : List ℕ → Option ℕ → List ℕ → Type 0
IsFront generations None front = front ≡ generations
IsFront generations (Some newest) front = (rest : List ℕ) × (generations ≡ front ++ newest ∷ rest)

-- Each generation in front of the newest one was passed over, and no other: for this reason, and not since memory or the
-- device failed.
pub record ArePassed (IsReason : ℕ → CheckpointError → Type 0) (generations : List ℕ) (newest : Option ℕ) (passed : List Passed) : Type 0 where
  pub front : IsFront generations newest (map (λ one. one.generation) passed)
  pub unblamed : (one : Passed) → Contains passed one → ¬ IsFault one.error
  pub reason : (one : Passed) → Contains passed one → IsReason one.generation one.error
