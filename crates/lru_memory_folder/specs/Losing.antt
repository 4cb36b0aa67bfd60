-- What a loss of power may leave of the calls of a folder in memory.
use Rattle.std.specs.Prelude.{◌⊎◌, ℕ, zero, suc, List, [], ◌∷◌, Option, Some, None}
use Rattle.std.specs.FinMap.{get}
use Rattle.lru_folder.specs.Files.{Files}
use Rattle.lru_folder.specs.Losses.{IsSpread, Loss, LossStep, creating, writing, renaming, removing, looking, loosened, firmed, handed_on}
use Rattle.lru_folder.specs.SyncedNames.{HasNames}
use Rattle.lru_memory_folder.specs.declared.calls.End.{End}
use Rattle.lru_memory_folder.specs.declared.calls.End.TheVariants.{Done, NotFound, Failed}
use Rattle.lru_memory_folder.specs.Calls.{Deed, Creates, Writes, Renames, Removes, Syncs, SyncsNames, Looks, Noted, effect}

-- what a call adds, also where it fails
abbrev pub step_of : Deed → LossStep
step_of (Creates path) = creating path
step_of (Writes path piece) = writing path piece
step_of (Renames from to) = renaming from to
step_of (Removes path) = removing path
step_of (Syncs path) = looking
step_of (SyncsNames dir) = looking
step_of Looks = looking

-- a rename of a path that is not there changes nothing
abbrev pub loose_moved : Option (List ℕ) → List ℕ → List ℕ → (List ℕ → Type 0) → List ℕ → Type 0
loose_moved None from to loose = loose
loose_moved (Some bytes) from to loose = handed_on from to loose

-- the loose paths after the whole of a call, and after one that failed
abbrev pub loose_done : Deed → Files → (List ℕ → Type 0) → List ℕ → Type 0
loose_done (Creates path) files loose = loosened path loose
loose_done (Writes path piece) files loose = loosened path loose
loose_done (Renames from to) files loose = loose_moved (get files from) from to loose
loose_done (Removes path) files loose = firmed path loose
loose_done (Syncs path) files loose = firmed path loose
loose_done (SyncsNames dir) files loose = loose
loose_done Looks files loose = loose

abbrev pub loose_failed : Deed → (List ℕ → Type 0) → List ℕ → Type 0
loose_failed (Creates path) loose = loosened path loose
loose_failed (Writes path piece) loose = loosened path loose
loose_failed (Renames from to) loose = loose
loose_failed (Removes path) loose = loose
loose_failed (Syncs path) loose = loose
loose_failed (SyncsNames dir) loose = loose
loose_failed Looks loose = loose

abbrev pub loose_after : Deed → End → Files → (List ℕ → Type 0) → List ℕ → Type 0
loose_after deed Done files loose = loose_done deed files loose
loose_after deed NotFound files loose = loose_failed deed loose
loose_after deed (Failed part) files loose = loose_failed deed loose

-- The maps that a loss may leave after a call: those before it and what it adds; but after the whole of a sync the spread
-- of the map alone, and after that of a folder's names, of those before it, the ones with these names.
abbrev pub maps_failed : Deed → Loss → Files → Type 0
maps_failed deed loss m = loss.maps m ⊎ (step_of deed).maps loss m

abbrev pub maps_done : Deed → Loss → Files → Type 0
maps_done (Creates path) loss = maps_failed (Creates path) loss
maps_done (Writes path piece) loss = maps_failed (Writes path piece) loss
maps_done (Renames from to) loss = maps_failed (Renames from to) loss
maps_done (Removes path) loss = maps_failed (Removes path) loss
maps_done (Syncs path) loss = IsSpread (firmed path loss.loose) loss.files
maps_done (SyncsNames dir) loss = λ m. loss.maps m × HasNames dir loss.loose loss.files m
maps_done Looks loss = maps_failed Looks loss

abbrev pub maps_after : Deed → End → Loss → Files → Type 0
maps_after deed Done loss = maps_done deed loss
maps_after deed NotFound loss = maps_failed deed loss
maps_after deed (Failed part) loss = maps_failed deed loss

abbrev pub loss_after : Noted → Loss → Loss
loss_after noted loss = record {
  files = effect noted loss.files;
  loose = loose_after noted.deed noted.end loss.files loss.loose;
  maps = maps_after noted.deed noted.end loss;
}

-- after these calls, the first of them first
abbrev pub loss_left : List Noted → Loss → Loss
loss_left [] loss = loss
loss_left (n ∷ ns) loss = loss_left ns (loss_after n loss)

-- A loss inside a call from number t on, or between two of them, could leave m: inside a call that is what it could before
-- the call or after it.
abbrev pub LostSince : List Noted → ℕ → Loss → Files → Type 0
LostSince [] t loss m = loss.maps m
LostSince (n ∷ ns) zero loss m = loss.maps m ⊎ LostSince ns zero (loss_after n loss) m
LostSince (n ∷ ns) (suc t) loss m = LostSince ns t (loss_after n loss) m
