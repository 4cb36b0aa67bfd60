use Rattle.std.proofs.Common.{rules, ◌≡◌, ℕ, List, refl, sym, ap, ◌∙◌, subst, arith, length}
use Rattle.lru_frames.proofs.FrameLaws.{AreNarrow}
use Rattle.lru_generations.specs.Names.{frame_path}
use Rattle.lru_generations.proofs.Touched.{touches_started}
use Rattle.lru_generations.specs.Checkpoints.{IsWholeFrame}
use Rattle.lru_generations.proofs.Lists.{never}
use Rattle.lru_generations.proofs.Loaded.{held, too_long, one_file}
use Rattle.lru_generations.proofs.Marked.{whole_length, whole_alike}
use Rattle.lru_generations.proofs.checking.check_frame.Goals as goal

pub returns-in_default-clause-touches : goal.returns-in_default-clause-touches
returns-in_default-clause-touches g c k = touches_started g.F.Folder.meaning (λ q. ⊥) c.args.folder.now k

pub returns-in-Ok-TooLong-clause-refused : goal.returns-in-Ok-TooLong-clause-refused
returns-in-Ok-TooLong-clause-refused g c k =
    let files = g.F.Folder.meaning.files c.args.folder.now in
    let header = c.args.header in
    let path = frame_path c.args.dir.now c.args.file_name.now header.generation header.shard in
    let t = too_long _ c.in-Ok-TooLong.field-0 c.deref.result.now path files c.in-Ok-TooLong.field-0-is (c.in-Ok-TooLong.ensures.found k) (c.deref.ensures ∙ c.in-Ok.ensures) in
    (refl, (t.0, (t.1.0, λ whole. omega (arith, whole_length header c.args.mark t.0 whole, t.1.1))))

pub returns-then-ne-clause-refused : goal.returns-then-ne-clause-refused
returns-then-ne-clause-refused g c k =
    let files = g.F.Folder.meaning.files c.args.folder.now in
    let header = c.args.header in
    let path = frame_path c.args.dir.now c.args.file_name.now header.generation header.shard in
    let bytes = c.in-Ok-Bytes.bytes.items in
    let at = held _ c.in-Ok-Bytes.field-0 c.in-Ok-Bytes.bytes c.deref.result.now path files c.in-Ok-Bytes.field-0-is (c.in-Ok-Bytes.ensures.found k) (c.deref.ensures ∙ c.in-Ok.ensures) in
    let it = c.in-Ok-inspect.it in
    let found = c.in-Ok-inspect.ensures.found in
    let narrow : AreNarrow it.header it.mark.rows = record { shards = search rules; shard = search rules; generation = search rules; rows = search rules } in
    let other : AreNarrow header c.args.mark.rows = record { shards = search rules; shard = search rules; generation = search rules; rows = search rules } in
    let alike = λ (whole : IsWholeFrame header c.args.mark bytes). whole_alike it.header header it.mark c.args.mark bytes found.0 narrow other (sym c.deref-2.ensures.value ∙ found.1.0) found.1.1 whole in
    (refl, (bytes, (at, λ whole. let same : it.header ≡ header = (alike whole).0 in search rules)))

pub returns-then-ne-2-clause-refused : goal.returns-then-ne-2-clause-refused
returns-then-ne-2-clause-refused g c k =
    let files = g.F.Folder.meaning.files c.args.folder.now in
    let header = c.args.header in
    let path = frame_path c.args.dir.now c.args.file_name.now header.generation header.shard in
    let bytes = c.in-Ok-Bytes.bytes.items in
    let at = held _ c.in-Ok-Bytes.field-0 c.in-Ok-Bytes.bytes c.deref.result.now path files c.in-Ok-Bytes.field-0-is (c.in-Ok-Bytes.ensures.found k) (c.deref.ensures ∙ c.in-Ok.ensures) in
    let it = c.in-Ok-inspect.it in
    let found = c.in-Ok-inspect.ensures.found in
    let narrow : AreNarrow it.header it.mark.rows = record { shards = search rules; shard = search rules; generation = search rules; rows = search rules } in
    let other : AreNarrow header c.args.mark.rows = record { shards = search rules; shard = search rules; generation = search rules; rows = search rules } in
    let alike = λ (whole : IsWholeFrame header c.args.mark bytes). whole_alike it.header header it.mark c.args.mark bytes found.0 narrow other (sym c.deref-2.ensures.value ∙ found.1.0) found.1.1 whole in
    (refl, (bytes, (at, λ whole. let same : it.mark ≡ c.args.mark = (alike whole).1 in search rules)))

pub returns-in-Ok-TooLong-clause-whole : goal.returns-in-Ok-TooLong-clause-whole
returns-in-Ok-TooLong-clause-whole g c k those there whole is_header =
    let files = g.F.Folder.meaning.files c.args.folder.now in
    let header = c.args.header in
    let path = frame_path c.args.dir.now c.args.file_name.now header.generation header.shard in
    let t = too_long _ c.in-Ok-TooLong.field-0 c.deref.result.now path files c.in-Ok-TooLong.field-0-is (c.in-Ok-TooLong.ensures.found k) (c.deref.ensures ∙ c.in-Ok.ensures) in
    let same = one_file t.0 those _ t.1.0 there in
    omega (arith, ap length same, whole_length header c.args.mark those whole, t.1.1)

pub returns-in-Err-inspect-clause-whole : goal.returns-in-Err-inspect-clause-whole
returns-in-Err-inspect-clause-whole g c k those there whole is_header =
    let files = g.F.Folder.meaning.files c.args.folder.now in
    let header = c.args.header in
    let path = frame_path c.args.dir.now c.args.file_name.now header.generation header.shard in
    let bytes = c.in-Ok-Bytes.bytes.items in
    let at = held _ c.in-Ok-Bytes.field-0 c.in-Ok-Bytes.bytes c.deref.result.now path files c.in-Ok-Bytes.field-0-is (c.in-Ok-Bytes.ensures.found k) (c.deref.ensures ∙ c.in-Ok.ensures) in
    let given : bytes ≡ those = one_file bytes those _ at there in
    let shown = subst (λ (b : List ℕ). IsWholeFrame header c.args.mark b) (sym given) whole in
    never (c.in-Err-inspect.ensures.written header c.args.mark.rows shown.0 is_header (search rules) (c.deref-2.ensures.value ∙ shown.1.0)).1

pub returns-then-ne-clause-whole : goal.returns-then-ne-clause-whole
returns-then-ne-clause-whole g c k those there whole is_header =
    let files = g.F.Folder.meaning.files c.args.folder.now in
    let header = c.args.header in
    let path = frame_path c.args.dir.now c.args.file_name.now header.generation header.shard in
    let bytes = c.in-Ok-Bytes.bytes.items in
    let at = held _ c.in-Ok-Bytes.field-0 c.in-Ok-Bytes.bytes c.deref.result.now path files c.in-Ok-Bytes.field-0-is (c.in-Ok-Bytes.ensures.found k) (c.deref.ensures ∙ c.in-Ok.ensures) in
    let given : bytes ≡ those = one_file bytes those _ at there in
    let shown = subst (λ (b : List ℕ). IsWholeFrame header c.args.mark b) (sym given) whole in
    let it = c.in-Ok-inspect.it in
    let found = c.in-Ok-inspect.ensures.found in
    let narrow : AreNarrow it.header it.mark.rows = record { shards = search rules; shard = search rules; generation = search rules; rows = search rules } in
    let other : AreNarrow header c.args.mark.rows = record { shards = search rules; shard = search rules; generation = search rules; rows = search rules } in
    let alike = whole_alike it.header header it.mark c.args.mark bytes found.0 narrow other (sym c.deref-2.ensures.value ∙ found.1.0) found.1.1 shown in
    let same : it.header ≡ header = alike.0 in
    let unlike = c.ne.ensures in
    let told = c.if-ne.true in
    let says = c.if-ne.ensures in
    absurd (let f : ⊥ = search rules in f)

pub returns-then-ne-2-clause-whole : goal.returns-then-ne-2-clause-whole
returns-then-ne-2-clause-whole g c k those there whole is_header =
    let files = g.F.Folder.meaning.files c.args.folder.now in
    let header = c.args.header in
    let path = frame_path c.args.dir.now c.args.file_name.now header.generation header.shard in
    let bytes = c.in-Ok-Bytes.bytes.items in
    let at = held _ c.in-Ok-Bytes.field-0 c.in-Ok-Bytes.bytes c.deref.result.now path files c.in-Ok-Bytes.field-0-is (c.in-Ok-Bytes.ensures.found k) (c.deref.ensures ∙ c.in-Ok.ensures) in
    let given : bytes ≡ those = one_file bytes those _ at there in
    let shown = subst (λ (b : List ℕ). IsWholeFrame header c.args.mark b) (sym given) whole in
    let it = c.in-Ok-inspect.it in
    let found = c.in-Ok-inspect.ensures.found in
    let narrow : AreNarrow it.header it.mark.rows = record { shards = search rules; shard = search rules; generation = search rules; rows = search rules } in
    let other : AreNarrow header c.args.mark.rows = record { shards = search rules; shard = search rules; generation = search rules; rows = search rules } in
    let alike = whole_alike it.header header it.mark c.args.mark bytes found.0 narrow other (sym c.deref-2.ensures.value ∙ found.1.0) found.1.1 shown in
    let same : it.mark ≡ c.args.mark = alike.1 in
    let unlike = c.ne-2.ensures in
    let told = c.if-ne-2.true in
    let says = c.if-ne-2.ensures in
    absurd (let f : ⊥ = search rules in f)
