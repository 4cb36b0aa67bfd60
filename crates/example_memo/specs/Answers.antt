-- Answers that are kept.
use Rattle.std.specs.Prelude.{◌≡◌, ℕ, List, [], ◌∷◌}
use Rattle.std.specs.Int.{w64, to_le_bytes}
use Rattle.lru_frames.specs.Crc.{crc_of}
use Rattle.lru_owned_cache.specs.declared.entry.Entry.{Entry}

-- the check of a number's eight bytes
abbrev pub check_of : ℕ → ℕ
check_of n = crc_of (to_le_bytes w64 n)

-- what is kept, the answer that was asked for last first, and how many answers may be
pub record Answers : Type 0 where
  pub kept : List (Entry ℕ ℕ)
  pub most : ℕ

-- each of these entries has what comes of its key
abbrev pub AreRight : (ℕ → ℕ) → List (Entry ℕ ℕ) → Type 0
AreRight outcome [] = Unit {0}
AreRight outcome (e ∷ es) = (e.value ≡ outcome e.key) × AreRight outcome es
