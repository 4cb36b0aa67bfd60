-- Rows copied one by one.
use Rattle.std.specs.Prelude.{◌≡◌, ℕ, List, [], ◌∷◌}
use Rattle.lru_frames.specs.declared.row.Row.{Row}

-- lists of one length whose items are so one by one
abbrev pub AreEach : {A B : Type 0} → (A → B → Type 0) → List A → List B → Type 0
AreEach P [] [] = Unit {0}
AreEach P (x ∷ xs) (y ∷ ys) = P x y × AreEach P xs ys
AreEach P _ _ = ⊥

-- a row with clones of a key and a value, and their weight
abbrev pub IsEntryCopy : {K V : Type 0} → (K → K → Type 0) → (V → V → Type 0) → K × V × ℕ → Row K V → Type 0
IsEntryCopy IsCloneKey IsCloneValue entry row = IsCloneKey entry.0 row.key × (IsCloneValue entry.1 row.data × (row.weight ≡ entry.2))
