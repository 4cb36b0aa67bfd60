-- What the arguments of the program mean.
use Rattle.std.specs.Prelude.{ℕ, List, [], ◌∷◌, Option, Some, None, option_and_then}
use Rattle.lru_tool_inside.specs.declared.settings.CoreSettings.{CoreSettings}
use Rattle.lru_lines.specs.Lines.{number_of, most_of}

-- the arguments: a limit, a watermark or `-`, and a seed; anything else is none
abbrev pub settings_of : List (List ℕ) → Option CoreSettings
settings_of (limit ∷ mark ∷ seed ∷ []) =
    option_and_then (λ l. option_and_then (λ m. option_and_then (λ s. Some (record { limit = l; watermark = m; seed = s })) (number_of seed)) (most_of mark)) (number_of limit)
settings_of _ = None
