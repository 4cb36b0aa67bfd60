use Rattle.std.proofs.Common.{◌≡◌, ◌++◌, drop}
use Rattle.std.specs.List.{flat_map, AllByRecursion}
use Rattle.lru_frames.specs.Rows.{row_bytes, IsRow}
use Rattle.lru_frames.proofs.rows.put_rows.Given as goal

-- what is written and what is left are all
abbrev pub invariant-loop-row : goal.invariant-loop-row
invariant-loop-row g l =
    let bytes_of = flat_map (row_bytes g.K.Stored.bytes_of g.V.Stored.bytes_of) in
    let AreRows = AllByRecursion (IsRow g.K.Stored.is_value g.V.Stored.is_value) in
    record {
      bytes : l.out.items ++ bytes_of (drop l.row-index l.rows) ≡ l.fn.out.items ++ bytes_of l.rows;
      rows : AreRows (drop l.row-index l.rows) → AreRows l.rows;
    }
