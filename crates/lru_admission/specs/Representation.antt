-- What bytes of two counters each hold, the lower half first.
use Rattle.std.specs.Prelude.{ℕ, ◌*◌, ◌/◌, ◌%◌, ◌^◌, ◌<◌, List, [], ◌∷◌, length}
use Rattle.lru_admission.specs.Sketch.{Counted}

abbrev pub counts_in : List ℕ → List ℕ
counts_in [] = []
counts_in (byte ∷ bytes) = byte % 16 ∷ byte / 16 ∷ counts_in bytes

abbrev pub counted_in : List ℕ → ℕ → Counted
counted_in bytes uses = record { counts = counts_in bytes; uses = uses }

-- what is kept: there is a byte, and so few that ten times as many uses can be counted, and not so many have come
pub record IsKept (bytes : List ℕ) (uses : ℕ) : Type 0 where
  pub some : 0 < length bytes
  pub few : 10 * length bytes < 2 ^ 64
  pub young : uses < 10 * length bytes
