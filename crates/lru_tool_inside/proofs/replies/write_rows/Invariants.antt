use Rattle.std.proofs.Common.{◌≡◌, ◌++◌, ◌∷◌, [], List, ℕ}
use Rattle.std.specs.Io.KnownBytes.{Appends}
use Rattle.lru_tool_inside.specs.Replies.{rows_text, pairs_text}
use Rattle.lru_tool_inside.proofs.replies.write_rows.Given as goal

-- what is written so far, and what is still to be
abbrev pub invariant-loop-data : goal.invariant-loop-data
invariant-loop-data g l =
    (done : List ℕ) × (Appends (g.W.Write.contents l.fn.writer) (g.W.Write.contents l.writer) done × (done ++ (pairs_text l.rest ++ 10 ∷ []) ≡ rows_text l.fn.rows))
