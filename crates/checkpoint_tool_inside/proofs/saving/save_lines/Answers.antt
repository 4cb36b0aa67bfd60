use Rattle.std.proofs.Common.{sym, ◌∙◌, ap, map, Some}
use Rattle.checkpoint_tool_inside.proofs.Lines.{of_lines}
use Rattle.checkpoint_tool_inside.proofs.saving.save_lines.Goals as goal

pub returns-in-Ok-clause-outcome : goal.returns-in-Ok-clause-outcome
returns-in-Ok-clause-outcome g c =
    of_lines g.F.Folder.meaning c.args.dir.now c.args.file_name.now c.deref.result.now c.args.input.now c.args.folder.now c.save_rows.new.folder
    (c.in-Ok.ensures.rows ∙ ap (map (λ row. Some row)) (sym c.deref.ensures.value)) c.save_rows.result c.save_rows.ensures.outcome
