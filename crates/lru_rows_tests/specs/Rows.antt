-- The key of each place of a list of keys.
use Rattle.std.specs.Prelude.{ℕ, List, get_or, Option, None}

abbrev pub key_in : {K : Type 0} → List (Option K) → ℕ → Option K
key_in keys p = get_or keys p None
