use Rattle.std.proofs.Common.{◌∷◌, sym, ap, ◌∙◌}
use Rattle.std.specs.Prelude.{option_map}
use Rattle.lru_lines.specs.Lines.{parts_behind, now_of}
use Rattle.lru_tool_inside.specs.Commands.{of_words}
use Rattle.lru_tool_inside.proofs.Words.{six_words}
use Rattle.lru_tool_inside.proofs.command.from_words.Goals as goal

pub returns-then-is_some : goal.returns-then-is_some
returns-then-is_some c =
    let name = c.cut.result.0.now in
    let a = c.cut-2.result.0.now in
    let b = c.cut-3.result.0.now in
    let third = c.cut-4.result.0.now in
    sym (
    ap of_words (c.cut.ensures ∙ ap (λ o. name ∷ parts_behind 32 (option_map now_of o)) c.in-Some.is)
    ∙ ap (λ ws. of_words (name ∷ ws)) (c.cut-2.ensures ∙ ap (λ o. a ∷ parts_behind 32 (option_map now_of o)) c.in-Some-rest.is)
    ∙ ap (λ ws. of_words (name ∷ a ∷ ws)) (c.cut-3.ensures ∙ ap (λ o. b ∷ parts_behind 32 (option_map now_of o)) c.in-Some-rest-2.is)
    ∙ ap (λ ws. of_words (name ∷ a ∷ b ∷ ws)) (c.cut-4.ensures ∙ ap (λ o. third ∷ parts_behind 32 (option_map now_of o)) c.in-Some-rest-3.is)
    ∙ ap (λ ws. of_words (name ∷ a ∷ b ∷ third ∷ ws)) c.cut-5.ensures
    ∙ six_words name a b third c.cut-5.result.0.now c.cut-5.result.1 (sym c.if-is_some.ensures)
    )
