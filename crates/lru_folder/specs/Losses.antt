-- What a loss of power may leave.
use Rattle.std.specs.Prelude.{◌≡◌, ◌≢◌, ◌⊎◌, ◌≤◌, ℕ, List}
use Rattle.lru_folder.specs.Files.{Files, created, appended, renamed, removed}
use Rattle.lru_folder.specs.Meaning.{Meaning}
pub use Rattle.lru_folder.specs.Spread.{IsSpread}

-- the loose paths where this path is one too, where it is none, and after a rename
abbrev pub loosened : List ℕ → (List ℕ → Type 0) → List ℕ → Type 0
loosened path loose q = (q ≡ path) ⊎ loose q

abbrev pub firmed : List ℕ → (List ℕ → Type 0) → List ℕ → Type 0
firmed path loose q = (q ≢ path) × loose q

abbrev pub handed_on : List ℕ → List ℕ → (List ℕ → Type 0) → List ℕ → Type 0
handed_on from to loose q = ((q ≡ to) × loose from) ⊎ ((q ≢ from) × ((q ≢ to) × loose q))

-- The files, the paths whose bytes are loose, and the maps that a loss of power may leave.
pub record Loss : Type 1 where
  pub files : Files
  pub loose : List ℕ → Type 0
  pub maps : Files → Type 0

-- before the first call there is the map alone
abbrev pub at_opening : Files → Loss
at_opening files = record { files = files; loose = λ q. ⊥; maps = λ m. m ≡ files }

-- What a call adds, from its start on and also where it fails: maps that a loss may leave, and loose paths.
pub record LossStep : Type 1 where
  pub maps : Loss → Files → Type 0
  pub loose : Loss → List ℕ → Type 0

-- any bytes at a path that a map has
abbrev pub IsOverwritten : List ℕ → (Files → Type 0) → Files → Type 0
IsOverwritten path maps m = (was : Files) × (maps was × IsSpread (λ q. q ≡ path) was m)

abbrev pub creating : List ℕ → LossStep
creating path = record {
  maps = λ loss m. IsOverwritten path loss.maps m ⊎ IsSpread (loosened path loss.loose) (created path loss.files) m;
  loose = λ loss. loosened path loss.loose;
}

-- Of a path that is there, the second are among the first.
abbrev pub writing : List ℕ → List ℕ → LossStep
writing path piece = record {
  maps = λ loss m. IsOverwritten path loss.maps m ⊎ IsSpread (loosened path loss.loose) (appended path piece loss.files) m;
  loose = λ loss. loosened path loss.loose;
}

abbrev pub renaming : List ℕ → List ℕ → LossStep
renaming from to = record {
  maps = λ loss m. IsSpread (handed_on from to loss.loose) (renamed from to loss.files) m;
  loose = λ loss q. loss.loose q ⊎ handed_on from to loss.loose q;
}

abbrev pub removing : List ℕ → LossStep
removing path = record {
  maps = λ loss m. IsSpread (firmed path loss.loose) (removed path loss.files) m;
  loose = λ loss. loss.loose;
}

abbrev pub looking : LossStep
looking = record { maps = λ loss m. ⊥; loose = λ loss. loss.loose }

-- what a folder may lose now
abbrev pub loss_of : {F : Type 0} → Meaning F → F → Loss
loss_of meaning folder = record { files = meaning.files folder; loose = meaning.loose folder; maps = meaning.lost_since folder (meaning.clock folder) }

-- A call: what a loss since t could have left is what it could before the call, or what the call adds.
pub record Loses {F : Type 0} (meaning : Meaning F) (step : LossStep) (old new : F) : Type 0 where
  pub nothing_else : (t : ℕ) (m : Files) → t ≤ meaning.clock old → meaning.lost_since new t m → meaning.lost_since old t m ⊎ step.maps (loss_of meaning old) m
  pub stays : (t : ℕ) (m : Files) → t ≤ meaning.clock old → meaning.lost_since old t m → meaning.lost_since new t m
  pub now : (m : Files) → meaning.lost_since new (meaning.clock new) m → meaning.lost_since old (meaning.clock old) m ⊎ step.maps (loss_of meaning old) m
  pub loosens : (q : List ℕ) → meaning.loose new q → step.loose (loss_of meaning old) q

-- After a sync of a path that is all: the spread of the map now, in which that path is not loose.
pub record IsSynced {F : Type 0} (meaning : Meaning F) (path : List ℕ) (old new : F) : Type 0 where
  pub only : (m : Files) → meaning.lost_since new (meaning.clock new) m → IsSpread (firmed path (meaning.loose old)) (meaning.files old) m
  pub firm : (q : List ℕ) → meaning.loose new q → firmed path (meaning.loose old) q

-- a map that a loss at the start could have left, of which this one is R
abbrev pub IsFromStart : {F : Type 0} → Meaning F → (Files → Files → Type 0) → F → Files → Type 0
IsFromStart meaning R old m = (was : Files) × (meaning.lost_since old (meaning.clock old) was × R was m)

-- Calls: each map that a loss since the first of them could leave is R of one that a loss at the start could have left.
pub record LosesOnly {F : Type 0} (meaning : Meaning F) (R : Files → Files → Type 0) (old new : F) : Type 0 where
  pub later : meaning.clock old ≤ meaning.clock new
  pub each : (m : Files) → meaning.lost_since new (meaning.clock old) m → IsFromStart meaning R old m
  pub now : (m : Files) → meaning.lost_since new (meaning.clock new) m → IsFromStart meaning R old m
  -- for who began to look earlier
  pub before : (t : ℕ) (m : Files) → t ≤ meaning.clock old → meaning.lost_since new t m → meaning.lost_since old t m ⊎ IsFromStart meaning R old m
