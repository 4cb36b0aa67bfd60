use Rattle.std.proofs.Common.{rules, ◌<◌, length, arith}
use Rattle.lru_frames.specs.Rows.{row_bytes, IsRow, IsSameRow}
use Rattle.lru_frames.specs.RowLaws.{one_row}
use Rattle.lru_frames.proofs.RowsLaws.{no_more}
use Rattle.lru_frames.proofs.rows.take_rows.Goals as goal

pub returns-in_err-row-clause-damaged : goal.returns-in_err-row-clause-damaged
returns-in_err-row-clause-damaged g c = λ is_err rows rest are_rows count h.
    let K = g.K.Stored in
    let V = g.V.Stored in
    let so_far : length c.loop.rows.items < c.args.count = omega (arith, c.loop.invariant.count, c.loop-test.true) in
    no_more (row_bytes K.bytes_of V.bytes_of) (IsRow K.is_value V.is_value) (IsSameRow K.is_same V.is_same)
    (one_row K.bytes_of K.is_value K.is_same V.bytes_of V.is_value V.is_same g.met.K.Stored.tells_its_end g.met.V.Stored.tells_its_end)
    c.loop.rows.items rows c.args.bytes.now c.loop.rest.now rest c.args.count c.loop.invariant.rows are_rows count so_far c.loop.invariant.bytes
    (c.in_err-row.ensures.damaged (search rules)) h
