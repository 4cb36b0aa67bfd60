use Rattle.std.proofs.Common.{◌∷◌, sym, ap, ◌∙◌}
use Rattle.std.specs.Prelude.{option_map}
use Rattle.lru_lines.specs.Lines.{parts_behind, now_of}
use Rattle.trace_player_inside.specs.TraceLines.{of_cells}
use Rattle.trace_player_inside.proofs.Reading.{four_cells}
use Rattle.trace_player_inside.proofs.requests.request_of_cells.Goals as goal

pub returns-then-is_some : goal.returns-then-is_some
returns-then-is_some c =
    let time = c.cut.result.0.now in
    let key = c.cut-2.result.0.now in
    let size = c.cut-3.result.0.now in
    sym (
    ap of_cells (c.cut.ensures ∙ ap (λ o. time ∷ parts_behind 44 (option_map now_of o)) c.in-Some.is)
    ∙ ap (λ cells. of_cells (time ∷ cells)) (c.cut-2.ensures ∙ ap (λ o. key ∷ parts_behind 44 (option_map now_of o)) c.in-Some-rest.is)
    ∙ ap (λ cells. of_cells (time ∷ key ∷ cells)) c.cut-3.ensures
    ∙ four_cells time key size c.cut-3.result.1 (sym c.if-is_some.ensures)
    )
