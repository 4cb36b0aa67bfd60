use Rattle.lru_shared_deadlines.specs.Calls.{Gets}
use Rattle.lru_shared_deadlines.proofs.Made.{begun_err}
use Rattle.lru_shared_deadlines.proofs.calls.start.Goals as goal

pub returns-clause-refused : goal.returns-clause-refused
returns-clause-refused g c =
    begun_err _ (λ r a b. Gets g.K.PartialEq.eq g.V.Clone.is_clone c.args.moment a c.args.key.now r b) (λ lent r left called. called) c.begin.result (λ P. g.T.Shards.does c.args.shards.now c.args.home P c.begin.new.self)
    (λ A B more. g.T.Shards.does_more A B more c.args.shards.now c.begin.new.self c.args.home) c.begin.ensures.acts
