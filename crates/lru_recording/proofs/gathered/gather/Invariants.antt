use Rattle.std.proofs.Common.{◌≡◌, vec_len}
use Rattle.lru_recording.specs.Gathered.{IsGathered, empty_in}
use Rattle.lru_recording.proofs.gathered.gather.Given as goal

abbrev pub invariant-loop-lock : goal.invariant-loop-lock
invariant-loop-lock g l = IsGathered (λ k. k.number) (λ k. k.history.items) g.row.N l.slots.items l.book.me × ((l.book.table_id ≡ g.B.Registry.table) × (empty_in l.slots.items ≡ vec_len l.locks))

abbrev pub decreases-loop-lock : goal.decreases-loop-lock
decreases-loop-lock g l = vec_len l.locks
