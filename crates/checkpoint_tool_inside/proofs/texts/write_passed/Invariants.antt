use Rattle.std.proofs.Common.{take}
use Rattle.std.specs.List.{flat_map}
use Rattle.std.specs.Io.KnownBytes.{Appends}
use Rattle.checkpoint_tool_inside.specs.Texts.{passed_line}
use Rattle.checkpoint_tool_inside.proofs.texts.write_passed.Given as goal

-- those so far are written
abbrev pub invariant-loop-one : goal.invariant-loop-one
invariant-loop-one g l = Appends (g.W.Write.contents l.fn.writer) (g.W.Write.contents l.writer) (flat_map passed_line (take l.one-index l.passed))
