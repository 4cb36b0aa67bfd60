use Rattle.std.proofs.Common.{◌≡◌, ℕ, ◌<◌, [], ◌∷◌, Some}
use Rattle.std.specs.Prelude.{slice_get}
use Rattle.lru_recording.specs.Ties.{hand, Shows}
use Rattle.lru_recording.specs.Stamps.{slips_in}
use Rattle.lru_recording.proofs.journal.compare_all.Given as goal

abbrev pub invariant-loop-seat : goal.invariant-loop-seat
invariant-loop-seat g l = record {
  same : l.seats ≡ l.initial.seats;
  table : l.book.table_id ≡ l.initial.book.table_id;
  book : l.book.me ≡ l.initial.book.me;
  shows : (i : ℕ) → i < l.seat-index → (s : _) → slice_get l.initial.seats i ≡ Some s → Shows l.names.shards l.names.seats (hand l.initial.book.me.0.shards (s.number ∷ []) l.initial.book.me.0.book (slips_in s.number 0 s.receipts.items));
}
