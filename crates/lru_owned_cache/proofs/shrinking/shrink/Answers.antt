use Rattle.std.proofs.Common.{arith, sym}
use Rattle.lru_owned_cache.proofs.Shrunk.{both_le, none_gone, all_gone}
use Rattle.lru_owned_cache.proofs.shrinking.shrink.Goals as goal

pub returns-then-fits-clause-shrinks : goal.returns-then-fits-clause-shrinks
returns-then-fits-clause-shrinks g c =
    let fit = both_le c.args.used c.args.most_weight c.len.result c.args.most_rows (sym c.if-fits.ensures) in
    all_gone (none_gone (λ p x q. goal.F-step g p x tt q) c.args.visit c.args.most_weight c.args.most_rows c.args.rows.now.held c.args.used c.requires.used) (fit.0, omega (arith, fit.1, c.len.ensures.value))
