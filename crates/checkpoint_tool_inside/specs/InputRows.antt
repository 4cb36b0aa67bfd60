-- The rows of an input, a line each.
use Rattle.std.specs.Prelude.{◌≡◌, ℕ, suc, List, [], ◌∷◌, ◌++◌, length, map, Option, Some, None, option_and_then}
use Rattle.lru_frames.specs.declared.row.Row.{Row}
use Rattle.lru_lines.specs.Lines.{number_of, parts_of, lines_of}
use Rattle.checkpoint_tool_inside.specs.declared.input_rows.InputRowsError.{InputRowsError}
use Rattle.checkpoint_tool_inside.specs.declared.input_rows.InputRowsError.TheVariants.{Memory, Line}

abbrev pub row_in : List ℕ → List ℕ → List ℕ → Option (Row ℕ ℕ)
row_in key value weight =
    option_and_then (λ k. option_and_then (λ v. option_and_then (λ w. Some (record { key = k; «data» = v; weight = w })) (number_of weight)) (number_of value)) (number_of key)

-- three numbers
abbrev pub of_words : List (List ℕ) → Option (Row ℕ ℕ)
of_words (key ∷ value ∷ weight ∷ []) = row_in key value weight
of_words _ = None

-- words are separated by one space
abbrev pub row_of : List ℕ → Option (Row ℕ ℕ)
row_of line = of_words (parts_of 32 line)

-- the row of each line, if it is one
abbrev pub rows_of : List ℕ → List (Option (Row ℕ ℕ))
rows_of input = map row_of (lines_of input)

-- the first line that is no row has this number, from 1 on
abbrev pub IsFirstBad : List (Option (Row ℕ ℕ)) → ℕ → Type 0
IsFirstBad lines number = (rows : List (Row ℕ ℕ)) × ((behind : List (Option (Row ℕ ℕ)))
    × ((lines ≡ map (λ row. Some row) rows ++ None ∷ behind) × (number ≡ suc (length rows))))

-- why no rows were read
abbrev pub IsUnreadInput : List (Option (Row ℕ ℕ)) → InputRowsError → Type 0
IsUnreadInput lines Memory = Unit {0}
IsUnreadInput lines (Line number) = IsFirstBad lines number
