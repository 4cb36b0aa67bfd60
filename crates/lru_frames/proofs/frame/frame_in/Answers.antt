use Rattle.std.proofs.Common.{rules, [], append-nil, sym, ap, ◌∙◌, length, arith}
use Rattle.std.proofs.lemmas.Bool.{eqb-false}
use Rattle.lru_frames.specs.declared.frame.Header.{Header}
use Rattle.lru_frames.specs.Rows.{row_bytes, IsRow, IsSameRow}
use Rattle.lru_frames.specs.RowLaws.{one_row}
use Rattle.lru_frames.proofs.RowsLaws.{same_values}
use Rattle.lru_frames.proofs.FrameLaws.{AreNarrow, no_header, one_header, header_narrow, long_content, content_parts}
use Rattle.lru_frames.proofs.frame.frame_in.Goals as goal

pub returns-in_default-clause-refused : goal.returns-in_default-clause-refused
returns-in_default-clause-refused g c = λ _ header rows _ h.
    long_content g.K.Stored.bytes_of g.V.Stored.bytes_of g.K.Stored.is_value g.V.Stored.is_value c.args.content.now header rows c.in_default.ensures h

pub returns-then-header-clause-refused : goal.returns-then-header-clause-refused
returns-then-header-clause-refused g c = λ _ header rows fits h.
    let narrow : AreNarrow c.in-Some.header c.in-Some.count = record { shards = search rules; shard = search rules; generation = search rules; rows = search rules } in
    let parts = content_parts g.K.Stored.bytes_of g.V.Stored.bytes_of g.K.Stored.is_value g.V.Stored.is_value c.args.content.now c.in-Some.rest.now c.in-Some.header header c.in-Some.count rows narrow fits c.in-Some.ensures h in
    omega (arith, c.if-header.true, ap (λ (x : Header). x.shards) parts.0, ap (λ (x : Header). x.shard) parts.0, fits.numbers.shard)

pub returns-then-not-is_empty-clause-refused : goal.returns-then-not-is_empty-clause-refused
returns-then-not-is_empty-clause-refused g c = λ _ header rows fits h.
    let K = g.K.Stored in
    let V = g.V.Stored in
    let narrow : AreNarrow c.in-Some.header c.in-Some.count = record { shards = search rules; shard = search rules; generation = search rules; rows = search rules } in
    let parts = content_parts K.bytes_of V.bytes_of K.is_value V.is_value c.args.content.now c.in-Some.rest.now c.in-Some.header header c.in-Some.count rows narrow fits c.in-Some.ensures h in
    let same = same_values (row_bytes K.bytes_of V.bytes_of) (IsRow K.is_value V.is_value) (IsSameRow K.is_same V.is_same)
    (one_row K.bytes_of K.is_value K.is_same V.bytes_of V.is_value V.is_same g.met.K.Stored.tells_its_end g.met.V.Stored.tells_its_end)
    c.in-Ok.rows.items rows c.in-Ok.rest.now [] c.in-Ok.ensures.rows fits.each (c.in-Ok.ensures.count ∙ parts.1)
    (sym c.in-Ok.ensures.bytes ∙ parts.2 ∙ sym (append-nil _)) in
    eqb-false _ _ (sym c.if-not-is_empty.ensures) (ap length same.1)

pub returns-in-Err-Damaged-clause-refused : goal.returns-in-Err-Damaged-clause-refused
returns-in-Err-Damaged-clause-refused g c = λ _ header rows fits h.
    let narrow : AreNarrow c.in-Some.header c.in-Some.count = record { shards = search rules; shard = search rules; generation = search rules; rows = search rules } in
    let parts = content_parts g.K.Stored.bytes_of g.V.Stored.bytes_of g.K.Stored.is_value g.V.Stored.is_value c.args.content.now c.in-Some.rest.now c.in-Some.header header c.in-Some.count rows narrow fits c.in-Some.ensures h in
    c.in-Err-Damaged.ensures.damaged (search rules) rows [] fits.each (sym parts.1) (parts.2 ∙ sym (append-nil _))

pub returns-in_default-clause-wrong : goal.returns-in_default-clause-wrong
returns-in_default-clause-wrong g c = λ header count rest _ _ h. no_header c.args.content.now rest header count c.in_default.ensures h

pub returns-then-header-clause-wrong : goal.returns-then-header-clause-wrong
returns-then-header-clause-wrong g c = λ header count rest is_header small h.
    let narrow : AreNarrow c.in-Some.header c.in-Some.count = record { shards = search rules; shard = search rules; generation = search rules; rows = search rules } in
    let parts = one_header c.in-Some.header header c.in-Some.count count c.in-Some.rest.now rest narrow (header_narrow header count is_header small) (sym c.in-Some.ensures ∙ h) in
    omega (arith, c.if-header.true, ap (λ (x : Header). x.shards) parts.0, ap (λ (x : Header). x.shard) parts.0, is_header.shard)

pub returns-then-not-is_empty-clause-wrong : goal.returns-then-not-is_empty-clause-wrong
returns-then-not-is_empty-clause-wrong g c =
    let K = g.K.Stored in
    let V = g.V.Stored in (
      c.in-Some.header,
      (
        c.in-Some.count,
        (
          c.in-Some.rest.now,
          c.in-Some.ensures,
          λ rows are_rows count h.
              let same = same_values (row_bytes K.bytes_of V.bytes_of) (IsRow K.is_value V.is_value) (IsSameRow K.is_same V.is_same)
              (one_row K.bytes_of K.is_value K.is_same V.bytes_of V.is_value V.is_same g.met.K.Stored.tells_its_end g.met.V.Stored.tells_its_end)
              c.in-Ok.rows.items rows c.in-Ok.rest.now [] c.in-Ok.ensures.rows are_rows (c.in-Ok.ensures.count ∙ sym count)
              (sym c.in-Ok.ensures.bytes ∙ h ∙ sym (append-nil _)) in
              eqb-false _ _ (sym c.if-not-is_empty.ensures) (ap length same.1),
        ),
      ),
    )

pub returns-in-Err-Damaged-clause-wrong : goal.returns-in-Err-Damaged-clause-wrong
returns-in-Err-Damaged-clause-wrong g c = (
  c.in-Some.header,
  (
    c.in-Some.count,
    (
      c.in-Some.rest.now,
      c.in-Some.ensures,
      λ rows are_rows count h.
          c.in-Err-Damaged.ensures.damaged (search rules) rows [] are_rows count (h ∙ sym (append-nil _)),
    ),
  ),
)
