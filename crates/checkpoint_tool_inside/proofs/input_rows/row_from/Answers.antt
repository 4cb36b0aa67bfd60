use Rattle.std.proofs.Common.{◌∷◌, sym, ap, ◌∙◌}
use Rattle.std.specs.Prelude.{option_map}
use Rattle.lru_lines.specs.Lines.{parts_behind, now_of}
use Rattle.checkpoint_tool_inside.specs.InputRows.{of_words}
use Rattle.checkpoint_tool_inside.proofs.Words.{four_words}
use Rattle.checkpoint_tool_inside.proofs.input_rows.row_from.Goals as goal

pub returns-then-is_some : goal.returns-then-is_some
returns-then-is_some c =
    let key = c.cut.result.0.now in
    let value = c.cut-2.result.0.now in
    let weight = c.cut-3.result.0.now in
    sym (
    ap of_words (c.cut.ensures ∙ ap (λ o. key ∷ parts_behind 32 (option_map now_of o)) c.in-Some.is)
    ∙ ap (λ ws. of_words (key ∷ ws)) (c.cut-2.ensures ∙ ap (λ o. value ∷ parts_behind 32 (option_map now_of o)) c.in-Some-rest.is)
    ∙ ap (λ ws. of_words (key ∷ value ∷ ws)) c.cut-3.ensures
    ∙ four_words key value weight c.cut-3.result.1 (sym c.if-is_some.ensures)
    )
