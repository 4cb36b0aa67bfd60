-- Which rows stand beside that of a place, and a row put before it.
use Rattle.std.specs.Prelude.{ℕ, ◌==◌, Bool, false, List, [], ◌∷◌, Option, None, if◌then◌else◌, reverse}
use Rattle.std.specs.Option.{option_map_or}
use Rattle.lru_rows.specs.Rows.{Placed, first_row}

module _ {K V : Type 0} where
  -- the row behind that of a place, if there is one
  abbrev pub row_after : List (Placed K V) → ℕ → Option (Placed K V)
  row_after [] p = None
  row_after (r ∷ rs) p = if r.place == p then first_row rs else row_after rs p

  -- the row before it, if there is one
  abbrev pub row_before : List (Placed K V) → ℕ → Option (Placed K V)
  row_before rows p = row_after (reverse rows) p

  -- a row stands at the place that is named, if one is
  abbrev pub stands_at : Placed K V → Option ℕ → Bool
  stands_at r named = option_map_or (λ p. r.place == p) named false

  -- the rows with one more before that of the place that is named, or last where none is
  abbrev pub put_before : List (Placed K V) → Option ℕ → Placed K V → List (Placed K V)
  put_before [] named new = new ∷ []
  put_before (r ∷ rs) named new = if stands_at r named then new ∷ r ∷ rs else r ∷ put_before rs named new
