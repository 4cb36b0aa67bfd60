use Rattle.lru_recording.specs.contracts.journal.Seat.{the_type}
use Rattle.lru_recording.proofs.journal.Seat.compare.Goals as goal

-- the same number, receipts and token make the same seat, whatever proves what is known of it
pub returns-clause-same : goal.returns-clause-same
returns-clause-same g c =
    let s = c.args.self.now in
    (the_type g.row.B g.B.Registry).to_one _ _ (λ i. (s.number, (s.receipts, (c.compare.ensures.seat i, (tt, tt)))))
