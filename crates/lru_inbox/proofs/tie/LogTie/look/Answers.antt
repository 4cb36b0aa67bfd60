use Rattle.std.proofs.Common.{arith}
use Rattle.lru_inbox.proofs.Moves.{looks}
use Rattle.lru_inbox.proofs.tie.LogTie.look.Goals as goal

pub load-requires : goal.load-requires
load-requires g c = let o = c.args.self.now.one in (c.requires.id, omega (arith, o), looks _ _ _ 0 0 _)

pub returns-clause-same : goal.returns-clause-same
returns-clause-same g c =
    let e = c.load.ensures in
    λ i. record { marker = c.args.token.now.marker; table_id = e.0 i; id = e.1 i; me = e.2.0 i }
