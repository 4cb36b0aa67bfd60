use Rattle.std.proofs.Common.{◌≤◌, sym, ◌∙◌, subst}
use Rattle.std.specs.Prelude.{bit_xor}
use Rattle.std.proofs.lemmas.Bool.{le-leb, false≢true}
use Rattle.lru_index.proofs.Scales.{power_some, differ_low}
use Rattle.lru_index.proofs.cells.has_bits.Goals as goal

pub mask_of-requires-clause-some : goal.mask_of-requires-clause-some
mask_of-requires-clause-some c = power_some c.args.heads c.requires.scale

pub returns : goal.returns
returns c over same =
    let low = subst (λ n. bit_xor c.args.cell c.args.bits ≤ n) (sym c.mask_of.ensures) (differ_low c.args.heads c.requires.scale c.args.cell c.args.bits same) in
    false≢true (sym over ∙ le-leb (bit_xor c.args.cell c.args.bits) c.mask_of.result low)
