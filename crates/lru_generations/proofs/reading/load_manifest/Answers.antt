use Rattle.std.proofs.Common.{refl, ap, ◌∙◌, arith, length}
use Rattle.lru_generations.specs.Manifests.{manifest_bytes}
use Rattle.lru_generations.specs.Names.{manifest_path}
use Rattle.lru_generations.proofs.Touched.{touches_started}
use Rattle.lru_generations.proofs.Loaded.{too_long, one_file}
use Rattle.lru_generations.proofs.Marked.{manifest_length}
use Rattle.lru_generations.proofs.reading.load_manifest.Goals as goal

pub returns-in_default-clause-touches : goal.returns-in_default-clause-touches
returns-in_default-clause-touches g c k = touches_started g.F.Folder.meaning (λ q. ⊥) c.args.folder.now k

pub returns-in-Ok-TooLong-clause-written : goal.returns-in-Ok-TooLong-clause-written
returns-in-Ok-TooLong-clause-written g c k marks numbers few there =
    let files = g.F.Folder.meaning.files c.args.folder.now in
    let path = manifest_path c.args.dir.now c.args.file_name.now c.args.generation in
    let t = too_long _ c.in-Ok-TooLong.field-0 c.deref.result.now path files c.in-Ok-TooLong.field-0-is (c.in-Ok-TooLong.ensures.found k) (c.deref.ensures ∙ c.in-Ok.ensures) in
    let same = one_file t.0 (manifest_bytes c.args.generation marks) _ t.1.0 there in
    omega (arith, ap length same, manifest_length c.args.generation marks, t.1.1, few)

pub returns-in-Ok-TooLong-clause-refused : goal.returns-in-Ok-TooLong-clause-refused
returns-in-Ok-TooLong-clause-refused g c k =
    let files = g.F.Folder.meaning.files c.args.folder.now in
    let path = manifest_path c.args.dir.now c.args.file_name.now c.args.generation in
    let t = too_long _ c.in-Ok-TooLong.field-0 c.deref.result.now path files c.in-Ok-TooLong.field-0-is (c.in-Ok-TooLong.ensures.found k) (c.deref.ensures ∙ c.in-Ok.ensures) in
    (refl, (t.0, (t.1.0, λ marks numbers few same. omega (arith, ap length same, manifest_length c.args.generation marks, t.1.1, few))))
