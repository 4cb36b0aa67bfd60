use Rattle.lru_shared_cache.proofs.Answered.{may_put}
use Rattle.lru_shared_cache.proofs.shared.SharedCache.put.Goals as goal

pub returns-clause-puts : goal.returns-clause-puts
returns-clause-puts g c =
    may_put g.K.PartialEq.eq c.args.key c.args.weight g.Rel.Relation.holds (λ p x q. goal.F-step g p x tt q) c.args.visit c.args.value c.put.result _ _ c.put.ensures.acts.0.related c.put.ensures.acts.1.0.related c.put.ensures.acts.1.1

pub put-requires-clause-related : goal.put-requires-clause-related
put-requires-clause-related g c = ∣ c.requires.related ∣₁
