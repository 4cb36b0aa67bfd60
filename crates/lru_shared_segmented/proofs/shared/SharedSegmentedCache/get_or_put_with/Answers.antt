use Rattle.lru_shared_cache.specs.Shards.{MayDo}
use Rattle.lru_shared_segmented.proofs.Made.{gets_seen, hands_back}
use Rattle.lru_shared_segmented.proofs.shared.SharedSegmentedCache.get_or_put_with.Goals as goal

pub returns-clause-gets : goal.returns-clause-gets
returns-clause-gets g c =
    gets_seen (Unit {0}) g.K.PartialEq.eq g.V.Clone.is_clone (goal.M-post g c.args.make) (λ p x q. goal.F-step g p x tt q) c.args.visit c.args.key (λ s. tt)
    (λ old P new. MayDo P) (λ P Q more s t d. (d.0, (d.1.0, more d.0 d.1.0 d.1.1))) c.get_or_put_with.new.shards c.get_or_put_with.new.shards c.get_or_put_with.result c.get_or_put_with.ensures.acts

pub returns-clause-refused : goal.returns-clause-refused
returns-clause-refused g c = hands_back _ _ (Unit {0}) g.K.PartialEq.eq g.V.Clone.is_clone (goal.M-post g c.args.make) (λ p x q. goal.F-step g p x tt q) c.args.visit c.args.key c.get_or_put_with.new.shards c.get_or_put_with.new.shards c.get_or_put_with.result c.get_or_put_with.ensures.acts
