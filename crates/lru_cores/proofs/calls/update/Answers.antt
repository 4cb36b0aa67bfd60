use Rattle.std.proofs.Common.{rules, ◌≡◌, ◌∙◌, sym}
use Rattle.lru_cores.specs.Calls.{Overwrites}
use Rattle.lru_cores.proofs.CallLaws.{updates_more}
use Rattle.lru_cores.proofs.calls.update.Goals as goal

pub returns : goal.returns
returns g c = updates_more _ (Overwrites c.args.present c.args.delta) _ (λ made. made ≡ (c.args.missing, c.args.delta)) (λ old weight given new h. (h.called.0, sym h.leaves ∙ h.called.1)) (λ made h. search rules) c.args.core.now c.args.key c.update_or_admit.result c.update_or_admit.new.self c.update_or_admit.ensures
