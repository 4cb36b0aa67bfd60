-- A path that is not there, taken away.
use Rattle.std.proofs.Common.{◌≡◌, inl, inr, ℕ, List, None, sym, ◌∙◌, subst}
use Rattle.std.specs.FinMap.{get}
use Rattle.lru_folder.specs.Files.{Files, AllOrNone, removed}
use Rattle.lru_folder.proofs.FilesLemmas.{decide, alike, get-remove_same, get-remove_other}

remove-none : (path : List ℕ) (m : Files) → get m path ≡ None → m ≡ removed path m
remove-none path m none = alike m (removed path m) (λ q. elim (decide q path) [
  | inl e ↦ subst (λ p. get m p ≡ get (removed path m) p) (sym e) (none ∙ sym (get-remove_same m path))
  | inr ne ↦ sym (get-remove_other m path q ne)
])

-- all of its removal is none of it
pub removed_none : (path : List ℕ) (old new : Files) → get old path ≡ None → AllOrNone (removed path) old new → new ≡ removed path old
removed_none path old new none (inl e) = e ∙ remove-none path old none
removed_none path old new none (inr e) = e
