use Rattle.std.proofs.Common.{◌≡◌, ◌-◌, ◌*◌, sym, ◌∙◌, arith}
use Rattle.std.proofs.lemmas.Grind.{common_steps}
use Rattle.lru_shard.specs.Limits.{is_past}
use Rattle.lru_workers.proofs.PastLimits.{past_whatever_goes}
use Rattle.lru_workers.proofs.asking.may_ask.Goals as goal

pub returns-clause-wanted : goal.returns-clause-wanted
returns-clause-wanted c = λ past gone few light.
    let limits = c.args.limits.now in
    let held = c.args.held.now in
    let value : c.is_past.result ≡ is_past limits.weight_limit limits.len_watermark (held.weight - c.args.pending * held.heaviest) (held.len - c.args.pending) = grind (arith, common_steps) in
    past_whatever_goes limits.weight_limit limits.len_watermark held.weight held.len held.heaviest c.args.pending (sym value ∙ past) gone few light
