use Rattle.std.proofs.Common.{subst, Err}
use Rattle.lru_owned_cache.specs.Cache.{Puts}
use Rattle.lru_shared_deadlines.proofs.Shown.{refuses}
use Rattle.lru_shared_deadlines.proofs.one.place.Goals as goal

pub returns-in-Err : goal.returns-in-Err
returns-in-Err g c = (
  refuses (λ p e q. goal.F-step g p e tt q) c.args.visit g.K.PartialEq.eq c.args.moment c.args.shard.now.cache c.args.key c.args.value c.args.weight c.in-Err.refused c.put_hashed.new.self
      (subst (λ u. Puts g.K.PartialEq.eq (λ p e q. goal.F-step g p e tt q) c.args.visit c.args.shard.now.cache c.args.key u c.args.weight (Err c.in-Err.refused) c.put_hashed.new.self) c.begin-until.ensures c.in-Err.ensures),
  c.refuse.ensures,
)
