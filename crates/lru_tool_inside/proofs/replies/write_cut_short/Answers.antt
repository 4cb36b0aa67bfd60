use Rattle.std.specs.Prelude.{codes}
use Rattle.lru_tool_inside.specs.Replies.{rows_text}
use Rattle.lru_lines.proofs.WriteLaws.{on_ok_then}
use Rattle.lru_tool_inside.proofs.replies.write_cut_short.Goals as goal

pub returns-clause-text : goal.returns-clause-text
returns-clause-text g c =
    on_ok_then c.write_pairs.result (g.W.Write.contents c.args.writer.now) (g.W.Write.contents c.write_pieces.new.writer) (g.W.Write.contents c.write_pairs.new.writer) (codes "refused memory ") (rows_text c.args.pairs.now)
    c.in_ok-write_pieces.ensures.text c.write_pairs.ensures.text
