use Rattle.std.proofs.Common.{◌≡◌, max, replicate, ap, ◌∙◌, arith}
use Rattle.lru_admission.specs.Representation.{counted_in}
use Rattle.lru_admission.proofs.Kept.{fresh-is}
use Rattle.lru_admission.proofs.sketch.Sketch.new.Goals as goal

pub returns : goal.returns
returns c =
    let most : c.max-len.result ≡ max 1 c.args.entries = omega arith in
    ap (λ items. counted_in items 0) (c.in_ok-zeros.ensures ∙ ap (λ n. replicate n 0) most) ∙ fresh-is c.args.entries
