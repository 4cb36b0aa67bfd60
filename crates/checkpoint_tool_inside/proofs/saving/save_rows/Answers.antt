use Rattle.std.proofs.Common.{inr, sym, subst}
use Rattle.checkpoint_tool_inside.specs.Texts.{Held}
use Rattle.checkpoint_tool_inside.specs.Outcomes.{AreShardsOf}
use Rattle.checkpoint_tool_inside.proofs.saving.save_rows.Goals as goal

pub returns-in-Err-clause-whole : goal.returns-in-Err-clause-whole
returns-in-Err-clause-whole g c k = inr (
  c.as_slice.result.now,
  (subst (λ (held : Held). AreShardsOf c.args.rows.now held) (sym c.as_slice.ensures) c.in-Ok.ensures, c.save.ensures.saves k),
)

pub returns-clause-whole : goal.returns-clause-whole
returns-clause-whole g c k = inr (
  c.as_slice.result.now,
  (subst (λ (held : Held). AreShardsOf c.args.rows.now held) (sym c.as_slice.ensures) c.in-Ok.ensures, c.save.ensures.saves k),
)
