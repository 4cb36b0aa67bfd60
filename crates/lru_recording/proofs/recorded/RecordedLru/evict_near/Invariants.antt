use Rattle.std.proofs.Common.{◌≡◌}
use Rattle.lru_recording.specs.Probes.{Adds}
use Rattle.lru_recording.proofs.Probing.{Empties}
use Rattle.lru_recording.proofs.recorded.RecordedLru.evict_near.Given as goal

abbrev pub invariant-loop-steps : goal.invariant-loop-steps
invariant-loop-steps g l = Adds (Empties g.row.N l.steps) l.fn.seat.receipts.items l.seat.receipts.items × (l.seat.number ≡ l.fn.seat.number)
