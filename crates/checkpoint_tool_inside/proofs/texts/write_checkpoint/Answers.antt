use Rattle.std.proofs.Common.{◌++◌, ap}
use Rattle.lru_lines.proofs.WriteLaws.{on_ok_then}
use Rattle.checkpoint_tool_inside.specs.Texts.{generation_line, rows_text}
use Rattle.checkpoint_tool_inside.proofs.Told.{told_as}
use Rattle.checkpoint_tool_inside.proofs.texts.write_checkpoint.Goals as goal

pub returns-clause-text : goal.returns-clause-text
returns-clause-text g c =
    let from = g.W.Write.contents c.args.writer.now in
    let mid = g.W.Write.contents c.write_pieces.new.writer in
    let to = g.W.Write.contents c.write_shards.new.writer in
    let front = generation_line c.args.checkpoint.now.generation in
    told_as c.write_shards.result from to (front ++ rows_text c.deref.result.now) _ (ap (λ shards. front ++ rows_text shards) c.deref.ensures.value)
    (on_ok_then c.write_shards.result from mid to front (rows_text c.deref.result.now) c.in_ok-write_pieces.ensures.text c.write_shards.ensures.text)
