use Rattle.std.proofs.Common.{◌≡◌, ◌++◌, map, length, Some}
use Rattle.checkpoint_tool_inside.specs.InputRows.{rows_of}
use Rattle.checkpoint_tool_inside.proofs.input_rows.rows_from.Given as goal

-- the lines so far are the rows
abbrev pub invariant-loop-rest : goal.invariant-loop-rest
invariant-loop-rest l = rows_of l.input ≡ map (λ row. Some row) l.rows.items ++ rows_of l.rest

abbrev pub decreases-loop-rest : goal.decreases-loop-rest
decreases-loop-rest l = length l.rest
