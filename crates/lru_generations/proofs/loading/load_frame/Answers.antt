use Rattle.std.proofs.Common.{rules, ◌≡◌, refl, sym, ap, ◌∙◌, arith, length}
use Rattle.lru_frames.specs.Frame.{frame_of}
use Rattle.lru_generations.specs.Names.{frame_path}
use Rattle.lru_generations.proofs.Touched.{touches_started}
use Rattle.lru_generations.proofs.Loaded.{held, too_long, one_file}
use Rattle.lru_generations.proofs.Marked.{frame_length, frame_alike}
use Rattle.lru_generations.proofs.loading.load_frame.Goals as goal

pub returns-in_default-clause-touches : goal.returns-in_default-clause-touches
returns-in_default-clause-touches g c k = touches_started g.F.Folder.meaning (λ q. ⊥) c.args.folder.now k

pub returns-in-Ok-TooLong-clause-written : goal.returns-in-Ok-TooLong-clause-written
returns-in-Ok-TooLong-clause-written g c k rows fits marked there =
    let files = g.F.Folder.meaning.files c.args.folder.now in
    let header = c.args.header in
    let path = frame_path c.args.dir.now c.args.file_name.now header.generation header.shard in
    let t = too_long _ c.in-Ok-TooLong.field-0 c.deref.result.now path files c.in-Ok-TooLong.field-0-is (c.in-Ok-TooLong.ensures.found k) (c.deref.ensures ∙ c.in-Ok.ensures) in
    let frame = frame_of g.K.Stored.bytes_of g.V.Stored.bytes_of header rows in
    let same = one_file t.0 frame _ t.1.0 there in
    omega (arith, ap length same, frame_length g.K.Stored.bytes_of g.K.Stored.is_value g.V.Stored.bytes_of g.V.Stored.is_value header rows c.args.mark marked, t.1.1)

pub returns-in-Ok-TooLong-clause-refused : goal.returns-in-Ok-TooLong-clause-refused
returns-in-Ok-TooLong-clause-refused g c k =
    let files = g.F.Folder.meaning.files c.args.folder.now in
    let header = c.args.header in
    let path = frame_path c.args.dir.now c.args.file_name.now header.generation header.shard in
    let t = too_long _ c.in-Ok-TooLong.field-0 c.deref.result.now path files c.in-Ok-TooLong.field-0-is (c.in-Ok-TooLong.ensures.found k) (c.deref.ensures ∙ c.in-Ok.ensures) in (
      refl,
      (
        t.0,
        (
          t.1.0,
          λ rows fits marked same.
              omega (arith, ap length same, frame_length g.K.Stored.bytes_of g.K.Stored.is_value g.V.Stored.bytes_of g.V.Stored.is_value header rows c.args.mark marked, t.1.1),
        ),
      ),
    )

pub returns-then-ne-clause-written : goal.returns-then-ne-clause-written
returns-then-ne-clause-written g c k rows fits marked there =
    let files = g.F.Folder.meaning.files c.args.folder.now in
    let header = c.args.header in
    let path = frame_path c.args.dir.now c.args.file_name.now header.generation header.shard in
    let bytes = c.in-Ok-Bytes.bytes.items in
    let at = held _ c.in-Ok-Bytes.field-0 c.in-Ok-Bytes.bytes c.deref.result.now path files c.in-Ok-Bytes.field-0-is (c.in-Ok-Bytes.ensures.found k) (c.deref.ensures ∙ c.in-Ok.ensures) in
    let read = c.deref-2.ensures.value ∙ one_file bytes (frame_of g.K.Stored.bytes_of g.V.Stored.bytes_of header rows) _ at there in
    let same : c.in-Ok-decode_marked.decoded.0.header ≡ header = (c.in-Ok-decode_marked.ensures.written header rows fits read).0 in
    let unlike = c.ne.ensures in
    let told = c.if-ne.true in
    let says = c.if-ne.ensures in
    search rules

pub returns-then-ne-clause-refused : goal.returns-then-ne-clause-refused
returns-then-ne-clause-refused g c k =
    let files = g.F.Folder.meaning.files c.args.folder.now in
    let header = c.args.header in
    let path = frame_path c.args.dir.now c.args.file_name.now header.generation header.shard in
    let bytes = c.in-Ok-Bytes.bytes.items in
    let at = held _ c.in-Ok-Bytes.field-0 c.in-Ok-Bytes.bytes c.deref.result.now path files c.in-Ok-Bytes.field-0-is (c.in-Ok-Bytes.ensures.found k) (c.deref.ensures ∙ c.in-Ok.ensures) in (
      refl,
      (
        bytes,
        (
          at,
          λ rows fits marked is.
              let same : c.in-Ok-decode_marked.decoded.0.header ≡ header = (c.in-Ok-decode_marked.ensures.written header rows fits (c.deref-2.ensures.value ∙ is)).0 in
              let unlike = c.ne.ensures in
              let told = c.if-ne.true in
              let says = c.if-ne.ensures in
              search rules,
        ),
      ),
    )

pub returns-then-ne-2-clause-written : goal.returns-then-ne-2-clause-written
returns-then-ne-2-clause-written g c k rows fits marked there =
    let files = g.F.Folder.meaning.files c.args.folder.now in
    let header = c.args.header in
    let path = frame_path c.args.dir.now c.args.file_name.now header.generation header.shard in
    let bytes = c.in-Ok-Bytes.bytes.items in
    let at = held _ c.in-Ok-Bytes.field-0 c.in-Ok-Bytes.bytes c.deref.result.now path files c.in-Ok-Bytes.field-0-is (c.in-Ok-Bytes.ensures.found k) (c.deref.ensures ∙ c.in-Ok.ensures) in
    let found = c.in-Ok-decode_marked.decoded in
    let read = c.deref-2.ensures.value ∙ one_file bytes (frame_of g.K.Stored.bytes_of g.V.Stored.bytes_of header rows) _ at there in
    let alike = frame_alike g.K.Stored.bytes_of g.K.Stored.is_value g.V.Stored.bytes_of g.V.Stored.is_value found.0.header header found.0.rows.items rows c.in-Ok-decode_marked.ensures.fits fits
    (sym c.in-Ok-decode_marked.ensures.found ∙ read) in
    let same : found.1 ≡ c.args.mark = c.in-Ok-decode_marked.ensures.mark ∙ alike.1 ∙ sym marked in
    let unlike = c.ne-2.ensures in
    let told = c.if-ne-2.true in
    let says = c.if-ne-2.ensures in
    search rules

pub returns-then-ne-2-clause-refused : goal.returns-then-ne-2-clause-refused
returns-then-ne-2-clause-refused g c k =
    let files = g.F.Folder.meaning.files c.args.folder.now in
    let header = c.args.header in
    let path = frame_path c.args.dir.now c.args.file_name.now header.generation header.shard in
    let bytes = c.in-Ok-Bytes.bytes.items in
    let at = held _ c.in-Ok-Bytes.field-0 c.in-Ok-Bytes.bytes c.deref.result.now path files c.in-Ok-Bytes.field-0-is (c.in-Ok-Bytes.ensures.found k) (c.deref.ensures ∙ c.in-Ok.ensures) in
    let found = c.in-Ok-decode_marked.decoded in (
      refl,
      (
        bytes,
        (
          at,
          λ rows fits marked is.
              let alike = frame_alike g.K.Stored.bytes_of g.K.Stored.is_value g.V.Stored.bytes_of g.V.Stored.is_value found.0.header header found.0.rows.items rows c.in-Ok-decode_marked.ensures.fits fits
              (sym c.in-Ok-decode_marked.ensures.found ∙ c.deref-2.ensures.value ∙ is) in
              let same : found.1 ≡ c.args.mark = c.in-Ok-decode_marked.ensures.mark ∙ alike.1 ∙ sym marked in
              let unlike = c.ne-2.ensures in
              let told = c.if-ne-2.true in
              let says = c.if-ne-2.ensures in
              search rules,
        ),
      ),
    )

pub returns-clause-written : goal.returns-clause-written
returns-clause-written g c k rows fits marked there =
    let files = g.F.Folder.meaning.files c.args.folder.now in
    let header = c.args.header in
    let path = frame_path c.args.dir.now c.args.file_name.now header.generation header.shard in
    let bytes = c.in-Ok-Bytes.bytes.items in
    let at = held _ c.in-Ok-Bytes.field-0 c.in-Ok-Bytes.bytes c.deref.result.now path files c.in-Ok-Bytes.field-0-is (c.in-Ok-Bytes.ensures.found k) (c.deref.ensures ∙ c.in-Ok.ensures) in
    let read = c.deref-2.ensures.value ∙ one_file bytes (frame_of g.K.Stored.bytes_of g.V.Stored.bytes_of header rows) _ at there in
    (c.in-Ok-decode_marked.ensures.written header rows fits read).1
