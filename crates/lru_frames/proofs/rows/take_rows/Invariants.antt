use Rattle.std.proofs.Common.{◌≡◌, ◌++◌, length}
use Rattle.std.specs.List.{flat_map, AllByRecursion}
use Rattle.lru_frames.specs.Rows.{row_bytes, IsRow}
use Rattle.lru_frames.proofs.rows.take_rows.Given as goal

-- the rows that were read stood before the rest
abbrev pub invariant-loop : goal.invariant-loop
invariant-loop g l = record {
  rows : AllByRecursion (IsRow g.K.Stored.is_value g.V.Stored.is_value) l.rows.items;
  count : length l.rows.items ≡ l.counter;
  bytes : l.bytes ≡ flat_map (row_bytes g.K.Stored.bytes_of g.V.Stored.bytes_of) l.rows.items ++ l.rest;
}
