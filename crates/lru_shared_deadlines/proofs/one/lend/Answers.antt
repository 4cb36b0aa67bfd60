use Rattle.std.proofs.Common.{ap, ◌∙◌}
use Rattle.lru_shared_cache.specs.Counts.{looked}
use Rattle.lru_shared_deadlines.proofs.Shown.{lends}
use Rattle.lru_shared_deadlines.proofs.one.lend.Goals as goal

pub returns : goal.returns
returns g c =
    lends g.Q.Query.stands_for c.args.moment c.args.query _ _ _ c.update_hashed-answer.result c.update_hashed-answer.ensures (c.look.ensures ∙ ap (λ b. looked c.args.shard.now.counts b) c.is_some.ensures) (λ lent w answer left. (g.F.FnOnce).post c.args.show (lent, (w, tt)) (answer, (left, tt)))
    (λ lent w r left called. called)
