use Rattle.std.proofs.Common.{◌≡◌, ◌*◌, ◌/◌, ap, sym, ◌∙◌, get_or, suc, arith}
use Rattle.lru_admission.specs.Representation.{counts_in}
use Rattle.lru_admission.proofs.Packed.{length-counts, get_or-low, get_or-high}
use Rattle.lru_admission.proofs.counters.count_at.Goals as goal

pub bounds-bytes-counter : goal.bounds-bytes-counter
bounds-bytes-counter c = omega (arith, length-counts c.args.bytes.now)

pub returns-then-counter-eq0-clause-count : goal.returns-then-counter-eq0-clause-count
returns-then-counter-eq0-clause-count c =
    let i = c.args.counter / 2 in
    let at : 2 * i ≡ c.args.counter = omega arith in
    sym (get_or-low c.args.bytes.now i) ∙ ap (λ n. get_or (counts_in c.args.bytes.now) n 0) at

pub returns-else-counter-eq0-clause-count : goal.returns-else-counter-eq0-clause-count
returns-else-counter-eq0-clause-count c =
    let i = c.args.counter / 2 in
    let at : suc (2 * i) ≡ c.args.counter = omega arith in
    sym (get_or-high c.args.bytes.now i) ∙ ap (λ n. get_or (counts_in c.args.bytes.now) n 0) at
