use Rattle.std.proofs.Common.{[], refl}
use Rattle.lru_async.specs.Logged.{fronts_of}
use Rattle.lru_async.proofs.logged_lru.LoggedLru.peek.Goals as goal

pub returns-clause-told : goal.returns-clause-told
returns-clause-told g c = (c.peek_weight.result, fronts_of c.peek_weight.new.caller, [], c.peek_weight.ensures.told, refl, c.is_some.ensures)
