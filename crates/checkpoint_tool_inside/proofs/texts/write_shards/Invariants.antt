use Rattle.std.proofs.Common.{take}
use Rattle.std.specs.Io.KnownBytes.{Appends}
use Rattle.checkpoint_tool_inside.specs.Texts.{rows_text}
use Rattle.checkpoint_tool_inside.proofs.texts.write_shards.Given as goal

-- the shards so far are written
abbrev pub invariant-loop-rows : goal.invariant-loop-rows
invariant-loop-rows g l = Appends (g.W.Write.contents l.fn.writer) (g.W.Write.contents l.writer) (rows_text (take l.rows-index l.shards))
