use Rattle.std.proofs.Common.{◌≡◌, [], ◌∷◌, ◌++◌, ◌∙◌, map, refl, ap, subst}
use Rattle.lru_recording.specs.Probes.{Adds, IsRound}
use Rattle.lru_short_locks.proofs.Hands.{map_snoc}
use Rattle.lru_recording.proofs.Probing.{no_rounds, one_round, last_round, nothing_more}
use Rattle.lru_recording.proofs.recorded.RecordedLru.evict_to_limit.Goals as goal

pub loop-preserved : goal.loop-preserved
loop-preserved g c = (
  one_round g.row.N c.in-Some.pair.1 _ _ _ _ _
      (ap (map (λ pair. pair.1)) c.push_reserved.ensures.items ∙ map_snoc (λ pair. pair.1) _ _ ∙ ap (λ l. map (λ pair. pair.1) l ++ c.in-Some.pair.1 ∷ []) c.reserve.ensures.items)
      c.loop.invariant.0
      (subst (λ o. Adds (IsRound g.row.N o) c.loop.seat.receipts.items c.evict_near.new.seat.receipts.items) c.in-Some.is c.in-Ok.ensures.ok),
  (c.in-Ok.ensures.seat ∙ c.loop.invariant.1.0, λ one. c.drawn_shard.ensures.undrawn one ∙ c.loop.invariant.1.1 one),
)

pub returns-then-is_err-clause-err : goal.returns-then-is_err-clause-err
returns-then-is_err-clause-err g c = last_round g.row.N _ _ _ _ _ (ap (map (λ pair. pair.1)) c.reserve.ensures.items) c.loop.invariant.0 (nothing_more g.row.N c.loop.seat.receipts.items)

pub returns-in_default-clause-err : goal.returns-in_default-clause-err
returns-in_default-clause-err g c = last_round g.row.N _ _ _ _ _ (ap (map (λ pair. pair.1)) c.reserve.ensures.items) c.loop.invariant.0 c.in_default.ensures.err

pub returns-clause-ok : goal.returns-clause-ok
returns-clause-ok g c = last_round g.row.N _ _ _ _ _ refl c.loop.invariant.0 (nothing_more g.row.N c.loop.seat.receipts.items)
