use Rattle.std.proofs.Common.{◌∙◌}
use Rattle.trace_player_inside.proofs.Reading.{text_test}
use Rattle.trace_player_inside.proofs.requests.is_text.Goals as goal

pub returns : goal.returns
returns c = c.is_ok.ensures.value ∙ text_test _ c.args.line.now _ _ (λ s h. h.1) (λ e h. h.0) c.from_utf8.ensures.cases
