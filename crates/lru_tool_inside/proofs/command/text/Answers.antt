use Rattle.std.proofs.Common.{◌≡◌, ◌∙◌, refl, sym, ap, length, Some, None}
use Rattle.std.specs.Prelude.{◌==◌, ◌&&◌, not}
use Rattle.std.specs.Str.{is_utf8}
use Rattle.std.proofs.lemmas.Bool.{and_from, and_parts, cond_both, cond-true}
use Rattle.std.proofs.lemmas.Str.{is_utf8-from_IsUtf8, IsUtf8-from_is_utf8}
use Rattle.lru_tool_inside.proofs.command.text.Goals as goal

pub returns-in-Ok : goal.returns-in-Ok
returns-in-Ok c =
    let w = c.args.word.now in
    ap (λ x. Some x) c.in-Ok.ensures.cases.0 ∙ sym (cond-true (not (length w == 0) && is_utf8 w) (Some w) None
    (and_from _ _ (ap not (sym c.is_empty.ensures ∙ c.if-is_empty.false)) (is_utf8-from_IsUtf8 w c.in-Ok.ensures.cases.1)))

pub returns-in-Err : goal.returns-in-Err
returns-in-Err c =
    let w = c.args.word.now in
    cond_both (not (length w == 0) && is_utf8 w) (Some w) None (λ o. None ≡ o) (λ e. absurd (c.in-Err.ensures.cases.0 (IsUtf8-from_is_utf8 w (and_parts _ _ e).1))) (λ _. refl)
