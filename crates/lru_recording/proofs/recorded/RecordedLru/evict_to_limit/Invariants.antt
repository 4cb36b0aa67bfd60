use Rattle.std.proofs.Common.{◌≡◌, map}
use Rattle.lru_recording.specs.Probes.{Adds, AreRounds}
use Rattle.lru_recording.proofs.recorded.RecordedLru.evict_to_limit.Given as goal

abbrev pub invariant-loop : goal.invariant-loop
invariant-loop g l = Adds (AreRounds g.row.N (map (λ pair. pair.1) l.evicted.items)) l.fn.seat.receipts.items l.seat.receipts.items × ((l.seat.number ≡ l.fn.seat.number) × (g.row.N ≡ 1 → l.rng ≡ l.fn.rng))
