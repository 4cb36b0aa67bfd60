use Rattle.std.proofs.Common.{refl}
use Rattle.lru_shared_cache.proofs.Begun.{begins, begins_unnoted}
use Rattle.lru_shared_cache.proofs.locked.LockedShards.begin.Goals as goal

pub returns-in_default-clause-acts : goal.returns-in_default-clause-acts
returns-in_default-clause-acts g c =
    (_, (_, begins_unnoted (goal.F-post g c.args.act) _ _ c.act-found.result _ _ (c.has_found_none.ensures c.if-has_found_none.true) refl c.act-found.ensures))

pub returns-clause-acts : goal.returns-clause-acts
returns-clause-acts g c = (_, (_, begins (goal.F-post g c.args.act) _ _ c.act-found.result c.act-found.ensures))
