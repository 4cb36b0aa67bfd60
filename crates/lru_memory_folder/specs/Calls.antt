-- What calls of a folder did, and what a stop inside one of them or between two could leave.
use Rattle.std.specs.Prelude.{◌≡◌, ◌⊎◌, ℕ, zero, suc, Bool, true, false, List, [], ◌∷◌, take, count_by}
use Rattle.lru_folder.specs.Files.{Files, created, appended, renamed, removed, AllOrNone, SomeFront, Same}
use Rattle.lru_memory_folder.specs.declared.calls.End.{End}
use Rattle.lru_memory_folder.specs.declared.calls.End.TheVariants.{Done, NotFound, Failed}

-- what a call is to do to the files; most calls only look, and a sync only makes them or their names safe
pub data Deed : Type 0 where
  Creates : (path : List ℕ) → Deed
  Writes : (path : List ℕ) → (piece : List ℕ) → Deed
  Renames : (from : List ℕ) → (to : List ℕ) → Deed
  Removes : (path : List ℕ) → Deed
  Syncs : (path : List ℕ) → Deed
  SyncsNames : (dir : List ℕ) → Deed
  Looks : Deed

-- the whole of a call
abbrev pub whole : Deed → Files → Files
whole (Creates path) m = created path m
whole (Writes path piece) m = appended path piece m
whole (Renames from to) m = renamed from to m
whole (Removes path) m = removed path m
whole (Syncs path) m = m
whole (SyncsNames dir) m = m
whole Looks m = m

-- what is left of a call that failed, after so many bytes of a piece
abbrev pub begun : Deed → ℕ → Files → Files
begun (Creates path) part m = m
begun (Writes path piece) part m = appended path (take part piece) m
begun (Renames from to) part m = m
begun (Removes path) part m = m
begun (Syncs path) part m = m
begun (SyncsNames dir) part m = m
begun Looks part m = m

abbrev pub ended : Deed → End → Files → Files
ended deed Done m = whole deed m
ended deed NotFound m = m
ended deed (Failed part) m = begun deed part m

-- a call that was made, and how it ended
pub record Noted : Type 0 where
  pub deed : Deed
  pub end : End

abbrev pub effect : Noted → Files → Files
effect noted m = ended noted.deed noted.end m

-- what a stop inside a call may leave
abbrev pub PartOf : Deed → Files → Files → Type 0
PartOf (Creates path) = AllOrNone (created path)
PartOf (Writes path piece) = SomeFront path piece
PartOf (Renames from to) = AllOrNone (renamed from to)
PartOf (Removes path) = AllOrNone (removed path)
PartOf (Syncs path) = Same
PartOf (SyncsNames dir) = Same
PartOf Looks = Same

-- the files after these calls, the first of them first
abbrev pub after : List Noted → Files → Files
after [] m = m
after (n ∷ ns) m = after ns (effect n m)

-- A stop inside a call from number t on, or between two of them, could leave m.
abbrev pub StoppedSince : List Noted → ℕ → Files → Files → Type 0
StoppedSince [] t start m = m ≡ start
StoppedSince (n ∷ ns) zero start m = (m ≡ start) ⊎ (PartOf n.deed start m ⊎ StoppedSince ns zero (effect n start) m)
StoppedSince (n ∷ ns) (suc t) start m = StoppedSince ns t (effect n start) m

abbrev pub is_failed : End → Bool
is_failed Done = false
is_failed NotFound = false
is_failed (Failed part) = true

-- how many of the calls failed
abbrev pub failures : List Noted → ℕ
failures = count_by (λ n. is_failed n.end)
