use Rattle.std.proofs.Common.{◌≡◌, take, filter}
use Rattle.std.specs.Prelude.{◌%◌, ◌==◌}
use Rattle.checkpoint_tool_inside.proofs.saving.rows_in.Given as goal

-- those of the rows so far that are of the shard
abbrev pub invariant-loop-row : goal.invariant-loop-row
invariant-loop-row l = l.found.items ≡ filter (λ row. row.key % 4 == l.shard) (take l.row-index l.rows)
