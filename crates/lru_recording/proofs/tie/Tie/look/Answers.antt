use Rattle.std.proofs.Common.{arith}
use Rattle.lru_recording.proofs.Moves.{looks}
use Rattle.lru_recording.proofs.tie.Tie.look.Goals as goal

pub compare_exchange-requires : goal.compare_exchange-requires
compare_exchange-requires c = let o = c.args.self.now.one in (c.requires.id, omega (arith, o), looks _ c.args.names _ _ _ _ (λ n. n) c.requires.key)

pub returns-clause-same : goal.returns-clause-same
returns-clause-same c =
    let e = c.compare_exchange.ensures in
    λ i. record { marker = c.args.token.now.marker; table_id = e.0 i; id = e.1 i; me = e.2.0 i }
