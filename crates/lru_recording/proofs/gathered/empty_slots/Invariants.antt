use Rattle.std.proofs.Common.{◌≡◌, vec_len}
use Rattle.lru_recording.specs.Gathered.{empty_in}
use Rattle.lru_recording.proofs.gathered.empty_slots.Given as goal

abbrev pub invariant-loop : goal.invariant-loop
invariant-loop g l = (vec_len l.slots ≡ l.counter) × (empty_in l.slots.items ≡ l.counter)
