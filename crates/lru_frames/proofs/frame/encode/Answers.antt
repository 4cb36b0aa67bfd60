use Rattle.std.proofs.Common.{rules, ap, length, arith}
use Rattle.std.specs.List.{flat_map}
use Rattle.std.proofs.lemmas.List.{length-append}
use Rattle.lru_frames.specs.Rows.{row_bytes}
use Rattle.lru_frames.specs.Envelope.{head_of}
use Rattle.lru_frames.specs.Frame.{header_bytes}
use Rattle.lru_frames.proofs.EnvelopeLaws.{length-head}
use Rattle.lru_frames.proofs.frame.encode.Goals as goal

pub seal-requires : goal.seal-requires
seal-requires g c =
    omega (
      arith,
      length-head 0,
      ap length c.in_ok-open_head.ensures,
      length-append c.in_ok-out.out.items (head_of 0),
      ap length c.in_ok-put_header.ensures,
      length-append c.open_head.new.out.items (header_bytes c.args.header (length c.args.rows.now)),
      ap length c.in_ok-put_rows.ensures.bytes,
      length-append c.put_header.new.out.items (flat_map (row_bytes g.K.Stored.bytes_of g.V.Stored.bytes_of) c.args.rows.now),
    )

pub returns-clause-fits : goal.returns-clause-fits
returns-clause-fits g c = record {
  numbers = record { shards = search rules; shard = c.requires; generation = search rules };
  each = c.in_ok-put_rows.ensures.rows;
  count = search rules;
}
