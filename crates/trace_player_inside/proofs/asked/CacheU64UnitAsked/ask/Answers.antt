use Rattle.std.proofs.Common.{inl, nat_eq}
use Rattle.lru_owned_cache.specs.Cache.{entry_of}
use Rattle.trace_player_inside.proofs.Unseen.{none_of, put_first_come}
use Rattle.trace_player_inside.proofs.asked.CacheU64UnitAsked.ask.Goals as goal

pub returns-in-Ok : goal.returns-in-Ok
returns-in-Ok c =
    let none = none_of (entry_of nat_eq c.args.self.now.entries c.args.request.key) c.if-contains.ensures in
    (none, inl (put_first_come _ _ c.args.self.now c.args.request c.max.result c.in-Ok.field-0 c.put.new.self none c.max.ensures c.in-Ok.ensures))
