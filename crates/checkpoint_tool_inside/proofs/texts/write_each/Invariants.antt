use Rattle.std.proofs.Common.{take}
use Rattle.std.specs.List.{flat_map}
use Rattle.std.specs.Io.KnownBytes.{Appends}
use Rattle.checkpoint_tool_inside.specs.Texts.{told_text}
use Rattle.checkpoint_tool_inside.proofs.texts.write_each.Given as goal

-- those so far are written
abbrev pub invariant-loop-one : goal.invariant-loop-one
invariant-loop-one g l = Appends (g.W.Write.contents l.fn.writer) (g.W.Write.contents l.writer) (flat_map told_text (take l.one-index l.told))
