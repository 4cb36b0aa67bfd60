-- A row as bytes: its key, its data and its weight, one behind the other.
use Rattle.std.specs.Prelude.{◌≡◌, ℕ, ◌<◌, ◌^◌, List, [], ◌∷◌, ◌++◌}
use Rattle.lru_frames.specs.declared.row.Row.{Row}
use Rattle.lru_frames.specs.Words.{word}

-- lists of one length whose items are the same one by one
abbrev pub AreSame : {T : Type 0} → (T → T → Type 0) → List T → List T → Type 0
AreSame IsSame [] [] = Unit {0}
AreSame IsSame [] (y ∷ ys) = ⊥
AreSame IsSame (x ∷ xs) [] = ⊥
AreSame IsSame (x ∷ xs) (y ∷ ys) = IsSame x y × AreSame IsSame xs ys

module _ {K V : Type 0} where
  abbrev pub row_bytes : (K → List ℕ) → (V → List ℕ) → Row K V → List ℕ
  row_bytes key_bytes data_bytes row = key_bytes row.key ++ (data_bytes row.data ++ word row.weight)

  abbrev pub IsRow : (K → Type 0) → (V → Type 0) → Row K V → Type 0
  IsRow IsKey IsData row = IsKey row.key × IsData row.data × (row.weight < 2 ^ 64)

  -- the same key, the same data and the same weight
  abbrev pub IsSameRow : (K → K → Type 0) → (V → V → Type 0) → Row K V → Row K V → Type 0
  IsSameRow IsSameKey IsSameData a b = IsSameKey a.key b.key × IsSameData a.data b.data × (a.weight ≡ b.weight)
