use Rattle.checkpoint_tool_inside.specs.Texts.{passed_line}
use Rattle.checkpoint_tool_inside.proofs.Told.{line_more}
use Rattle.checkpoint_tool_inside.proofs.texts.write_passed.Goals as goal

pub loop-one-preserved : goal.loop-one-preserved
loop-one-preserved g c =
    line_more passed_line c.args.passed.now c.loop-one.one-index _ (g.W.Write.contents c.args.writer.now) (g.W.Write.contents c.loop-one.writer) (g.W.Write.contents c.write_passed_line.new.writer)
    c.loop-one-test.true c.loop-one.invariant c.in_ok-write_passed_line.ensures.text
