use Rattle.std.proofs.Common.{ap}
use Rattle.lru_inbox.proofs.inbox.Inbox.caller.Goals as goal

pub fresh-requires : goal.fresh-requires
fresh-requires g c = ap (λ m. m.1) (c.args.self.now.kept c.in-Some.log c.in-Some.is).speaks
