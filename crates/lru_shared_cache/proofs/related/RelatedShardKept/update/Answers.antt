use Rattle.lru_shared_cache.proofs.Keeping.{keeps_lends}
use Rattle.lru_shared_cache.proofs.related.RelatedShardKept.update.Goals as goal

pub invariant_of-self : goal.invariant_of-self
invariant_of-self g c = record { related = keeps_lends g.Rel.Relation.holds g.Q.Query.stands_for _ c.requires.keeps c.args.query _ c.update.result _ c.update.ensures c.args.self.now.related }
