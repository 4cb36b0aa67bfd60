use Rattle.std.proofs.Common.{◌≡◌, ℕ, List, ◌∙◌, sym, subst}
use Rattle.lru_folder.specs.Meaning.{Meaning}
use Rattle.lru_generations.specs.Manifests.{manifest_bytes}
use Rattle.lru_generations.specs.Names.{manifest_path, manifest_temp_path}
use Rattle.lru_generations.specs.Touching.{TouchesOnly}
use Rattle.lru_generations.proofs.Touched.{touches_started}
use Rattle.lru_generations.proofs.Replaced.{not_yet}
use Rattle.lru_generations.proofs.Saved.{temp-apart-manifest}
use Rattle.lru_generations.proofs.saving.save_manifest.Goals as goal

pub returns-in_default-clause-replaces : goal.returns-in_default-clause-replaces
returns-in_default-clause-replaces g c k =
    let start = c.args.folder.now in
    let n = c.args.manifest.now.generation in
    not_yet g.F.Folder.meaning (manifest_temp_path c.args.dir.now c.args.file_name.now n) (manifest_path c.args.dir.now c.args.file_name.now n) (manifest_bytes n c.args.manifest.now.frames.items)
    (temp-apart-manifest c.args.dir.now c.args.file_name.now n) start start (touches_started g.F.Folder.meaning _ start k)

pub returns-in_default-clause-unnamed : goal.returns-in_default-clause-unnamed
returns-in_default-clause-unnamed g c k other = touches_started g.F.Folder.meaning _ c.args.folder.now k

pub returns-in_default-manifest_path-clause-replaces : goal.returns-in_default-manifest_path-clause-replaces
returns-in_default-manifest_path-clause-replaces g c k =
    let start = c.args.folder.now in
    let n = c.args.manifest.now.generation in
    not_yet g.F.Folder.meaning (manifest_temp_path c.args.dir.now c.args.file_name.now n) (manifest_path c.args.dir.now c.args.file_name.now n) (manifest_bytes n c.args.manifest.now.frames.items)
    (temp-apart-manifest c.args.dir.now c.args.file_name.now n) start start (touches_started g.F.Folder.meaning _ start k)

pub returns-in_default-manifest_path-clause-unnamed : goal.returns-in_default-manifest_path-clause-unnamed
returns-in_default-manifest_path-clause-unnamed g c k other = touches_started g.F.Folder.meaning _ c.args.folder.now k

pub returns-in_default-encode_manifest-clause-replaces : goal.returns-in_default-encode_manifest-clause-replaces
returns-in_default-encode_manifest-clause-replaces g c k =
    let start = c.args.folder.now in
    let n = c.args.manifest.now.generation in
    not_yet g.F.Folder.meaning (manifest_temp_path c.args.dir.now c.args.file_name.now n) (manifest_path c.args.dir.now c.args.file_name.now n) (manifest_bytes n c.args.manifest.now.frames.items)
    (temp-apart-manifest c.args.dir.now c.args.file_name.now n) start start (touches_started g.F.Folder.meaning _ start k)

pub returns-in_default-encode_manifest-clause-unnamed : goal.returns-in_default-encode_manifest-clause-unnamed
returns-in_default-encode_manifest-clause-unnamed g c k other = touches_started g.F.Folder.meaning _ c.args.folder.now k

pub replace_file-requires : goal.replace_file-requires
replace_file-requires g c same =
    temp-apart-manifest c.args.dir.now c.args.file_name.now c.args.manifest.now.generation
    (sym (c.deref.ensures ∙ c.in-Ok.ensures) ∙ same ∙ (c.deref-2.ensures ∙ c.in-Ok-manifest_path.ensures))

pub returns-clause-unnamed : goal.returns-clause-unnamed
returns-clause-unnamed g c k other =
    let m : Meaning _ = g.F.Folder.meaning in
    subst (λ (p : List ℕ). TouchesOnly m (λ q. q ≡ p) c.args.folder.now c.replace_file.new.folder) (c.deref.ensures ∙ c.in-Ok.ensures) (c.in-Err.ensures.unnamed k other)
