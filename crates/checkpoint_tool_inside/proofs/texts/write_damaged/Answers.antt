use Rattle.std.proofs.Common.{◌++◌, [], codes}
use Rattle.std.specs.Prelude.{decimal}
use Rattle.lru_lines.proofs.WriteLaws.{on_ok_then}
use Rattle.lru_generations.specs.Texts.{error_text}
use Rattle.checkpoint_tool_inside.specs.Texts.{line}
use Rattle.checkpoint_tool_inside.proofs.Told.{told_as, three_before}
use Rattle.checkpoint_tool_inside.proofs.texts.write_damaged.Goals as goal

pub returns-clause-text : goal.returns-clause-text
returns-clause-text g c =
    let from = g.W.Write.contents c.args.writer.now in
    let mid = g.W.Write.contents c.write_pieces.new.writer in
    let to = g.W.Write.contents c.write_reason.new.writer in
    let number = decimal c.args.generation in
    let front = codes "generation " ++ (number ++ (codes " damaged: " ++ [])) in
    let rest = line (error_text c.args.error) in
    told_as c.write_reason.result from to (front ++ rest) _ (three_before (codes "generation ") number (codes " damaged: ") rest)
    (on_ok_then c.write_reason.result from mid to front rest c.in_ok-write_pieces.ensures.text c.write_reason.ensures.text)
