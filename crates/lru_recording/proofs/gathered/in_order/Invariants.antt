use Rattle.std.proofs.Common.{◌≡◌, ◌≤◌, length, map, Some, vec_len, vec_capacity}
use Rattle.std.specs.Prelude.{option_map}
use Rattle.lru_recording.proofs.gathered.in_order.Given as goal

abbrev pub invariant-loop-slot : goal.invariant-loop-slot
invariant-loop-slot g l = record {
  units : vec_len l.all.units ≡ length l.yielded;
  len : vec_len l.all.histories ≡ length l.yielded;
  histories : map (λ v. Some v.items) l.all.histories.items ≡ map (option_map (λ k. k.history.items)) l.yielded;
  room : (g.row.N ≤ vec_capacity l.all.units) × (g.row.N ≤ vec_capacity l.all.histories);
}
