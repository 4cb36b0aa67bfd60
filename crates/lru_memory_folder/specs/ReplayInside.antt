-- What holds of calls that are made again.
use Rattle.std.specs.Prelude.{◌≡◌, ℕ, zero, suc, false, List, ◌++◌, Option, None, MatchOption, if◌then◌else◌}
use Rattle.std.specs.List.{list_any}
use Rattle.std.specs.FinMap.{from_entries}
use Rattle.lru_folder.specs.Files.{Files}
use Rattle.lru_folder.specs.Losses.{Loss, at_opening}
use Rattle.lru_memory_folder.specs.Calls.{Noted}
use Rattle.lru_memory_folder.specs.HeldInside.{files_in}
use Rattle.lru_memory_folder.specs.History.{History}
use Rattle.lru_memory_folder.specs.Kept.{IsMarked, is_synced, within, kept}
use Rattle.lru_memory_folder.specs.Losing.{loss_left}
use Rattle.lru_memory_folder.specs.declared.replay.Replay.{Replay}

abbrev pub loss_in : History → Loss
loss_in h = loss_left h.calls (at_opening (from_entries h.begun))

-- the history of the calls that a loss keeps
abbrev pub kept_of : ℕ → History → History
kept_of names h = record { begun = h.begun; calls = kept names h.calls }

-- of the calls to come, those that are kept where so many changes of names still are
abbrev pub kept_then : ℕ → ℕ → List Noted → List Noted
kept_then left names cs = if list_any is_synced cs then kept names cs else within left cs

-- all calls so far are kept
abbrev pub KeepsAll : ℕ → List Noted → ℕ → Type 0
KeepsAll names calls left = (cs : List Noted) → kept names (calls ++ cs) ≡ calls ++ kept_then left names cs

-- The calls that are kept are these, until the next sync, and this map is what a loss leaves of them.
pub record HasChosen (names byte : ℕ) (h : History) (files : Files) : Type 0 where
  pub calls : List Noted
  pub stay : (cs : List Noted) → list_any is_synced cs ≡ false → kept names (h.calls ++ cs) ≡ calls
  pub left : IsMarked byte (loss_in (record { begun = h.begun; calls = calls })) files

-- after these calls
pub record IsReplay (names byte : ℕ) (h : History) (r : Replay) : Type 0 where
  pub held : files_in r.held.entries ≡ (loss_in h).files
  pub lost : IsMarked byte (loss_in h) (files_in r.lost.entries)
  pub chosen : MatchOption r.chosen (KeepsAll names h.calls r.names_left) (λ files. HasChosen names byte h (files_in files.entries))

-- at a change of names: once no more are kept, what a loss leaves before it is chosen
abbrev pub Counts : {A : Type 0} → Option A → (A → Files) → ℕ → Files → ℕ → Type 0
Counts chosen files zero lost left = MatchOption chosen ⊥ (λ f. files f ≡ lost)
Counts chosen files (suc n) lost left = (chosen ≡ None) × (left ≡ n)
