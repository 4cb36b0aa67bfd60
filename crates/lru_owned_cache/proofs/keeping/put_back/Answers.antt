use Rattle.std.proofs.Common.{sym, ◌∙◌}
use Rattle.lru_owned_cache.proofs.PutBack.{first_stands, one_back}
use Rattle.lru_owned_cache.proofs.keeping.put_back.Goals as goal

pub demote-requires : goal.demote-requires
demote-requires g c = first_stands c.loop-left.invariant.0 g.K.PartialEq.eq c.first.ensures.valid c.loop-left-test.true c.in-Some.place (sym c.in-Some.is ∙ c.first.ensures.place)

pub loop-left-preserved : goal.loop-left-preserved
loop-left-preserved g c = (one_back c.loop-left.invariant.0 g.K.PartialEq.eq c.first.ensures.valid c.loop-left-test.true c.in-Some.place (sym c.in-Some.is ∙ c.first.ensures.place) c.demote.new.self.held c.demote.ensures.rows, c.demote.ensures.hashes ∙ c.loop-left.invariant.1)
