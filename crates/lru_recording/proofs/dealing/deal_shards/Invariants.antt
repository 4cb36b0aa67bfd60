use Rattle.std.proofs.Common.{◌≡◌, ◌+◌, ◌-◌, [], vec_len}
use Rattle.lru_short_locks.specs.Hands.{up}
use Rattle.lru_recording.specs.Ties.{hand}
use Rattle.lru_recording.proofs.dealing.deal_shards.Given as goal

abbrev pub invariant-loop-number : goal.invariant-loop-number
invariant-loop-number g l = (l.rest.table_id ≡ g.B.Registry.table) × ((vec_len l.shards ≡ l.number) × (l.rest.me ≡ (hand (up l.number (g.row.N - l.number)) (up 0 l.seats) [] [], [])))
