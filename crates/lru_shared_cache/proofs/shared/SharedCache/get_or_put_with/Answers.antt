use Rattle.lru_shared_cache.proofs.Answered.{hands_back, gets_own}
use Rattle.lru_shared_cache.proofs.shared.SharedCache.get_or_put_with.Goals as goal

pub returns-clause-refused : goal.returns-clause-refused
returns-clause-refused g c = hands_back g.Rel.Relation.holds _ _ (λ x. x.shard) (λ x. x.related) _ (Unit {0}) g.K.PartialEq.eq g.V.Clone.is_clone (goal.M-post g c.args.make) (λ p x q. goal.F-step g p x tt q) c.args.visit c.args.key c.get_or_put_with.new.shards c.get_or_put_with.new.shards c.get_or_put_with.result c.get_or_put_with.ensures.acts

pub returns-clause-value : goal.returns-clause-value
returns-clause-value g c = gets_own g.Rel.Relation.holds _ _ (λ x. x.shard) (λ x. x.related) _ (Unit {0}) g.K.PartialEq.eq g.V.Clone.is_clone (goal.M-post g c.args.make) (λ p x q. goal.F-step g p x tt q) c.args.visit c.args.key g.met.K.Eq.laws.refl (λ value weight made. ∣ c.requires.related value weight made ∣₁) c.get_or_put_with.new.shards c.get_or_put_with.new.shards c.get_or_put_with.result c.get_or_put_with.ensures.acts

pub get_or_put_with-requires-clause-related : goal.get_or_put_with-requires-clause-related
get_or_put_with-requires-clause-related g c = λ value weight made. ∣ c.requires.related value weight made ∣₁
