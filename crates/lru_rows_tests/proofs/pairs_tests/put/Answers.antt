use Rattle.std.specs.Prelude.{◌==◌}
use Rattle.lru_pairs.proofs.Exchanged.{found_same}
use Rattle.lru_rows_tests.proofs.pairs_tests.put.Goals as goal

pub exchange-was-requires : goal.exchange-was-requires
exchange-was-requires c =
    let f = c.in-Some.ensures.finds in
    (f.0, f.2, found_same (λ a b. a.number == b.number) c.args.pairs.now.held.rows c.args.key f.0 f.1)
