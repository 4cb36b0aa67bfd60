use Rattle.std.proofs.Common.{◌≡◌, [], ◌∷◌, length, map, vec_len, vec_capacity}
use Rattle.lru_mailbox.specs.Slips.{lists_of}
use Rattle.lru_boxes.specs.Ties.{kept, hand, known}
use Rattle.lru_boxes.proofs.desk.gather_puts.Given as goal

abbrev pub invariant-loop-seat : goal.invariant-loop-seat
invariant-loop-seat g l = record {
  table : l.desk.table_id ≡ g.B.BoxRegistry.puts;
  told : l.desk.me ≡ (hand (known l.initial.desk.me.0 ∷ []) (map (λ s. kept s.number s.share.slips) l.yielded), []);
  lists : lists_of l.lists.items ≡ map (λ s. s.share.slips) l.yielded;
  len : vec_len l.lists ≡ length l.yielded;
  room : vec_capacity l.lists ≡ vec_capacity l.initial.lists;
}
