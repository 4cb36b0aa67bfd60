use Rattle.std.proofs.Common.{◌≡◌, ◌*◌, ◌+◌, length, ap, ◌∙◌, arith}
use Rattle.lru_admission.proofs.Kept.{counted-kept, counted-halved}
use Rattle.lru_admission.proofs.counters.count_use.Goals as goal

pub returns-then-uses-bytes-clause-counted : goal.returns-then-uses-bytes-clause-counted
returns-then-uses-bytes-clause-counted c =
    let now : c.args.uses + 1 ≡ 10 * length c.args.bytes.now = omega arith in
    counted-halved c.args.bytes.now c.raise.new.bytes c.halve.new.bytes c.args.uses c.args.hash c.raise.ensures c.halve.ensures now

pub returns-else-uses-bytes-clause-counted : goal.returns-else-uses-bytes-clause-counted
returns-else-uses-bytes-clause-counted c =
    counted-kept c.args.bytes.now c.raise.new.bytes c.args.uses c.args.hash c.raise.ensures (λ h. c.if-uses-bytes.false (h ∙ ap (λ n. 10 * n) (omega arith)))
