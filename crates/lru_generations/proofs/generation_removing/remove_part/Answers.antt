use Rattle.std.proofs.Common.{◌≡◌, ◌∙◌, List, ℕ, None, ap, subst}
use Rattle.std.specs.FinMap.{get}
use Rattle.lru_folder.specs.Files.{Files}
use Rattle.lru_folder.specs.Meaning.{Meaning}
use Rattle.lru_folder.proofs.FilesLemmas.{get-remove_same}
use Rattle.lru_generations.specs.Names.{part_path}
use Rattle.lru_generations.specs.Touching.{TouchesOnly}
use Rattle.lru_generations.proofs.Touched.{touches_started}
use Rattle.lru_generations.proofs.generation_removing.remove_part.Goals as goal

pub returns-in_default-clause-touches : goal.returns-in_default-clause-touches
returns-in_default-clause-touches g c k =
    touches_started g.F.Folder.meaning (λ q. q ≡ part_path c.args.dir.now c.args.file_name.now c.args.part) c.args.folder.now k

pub returns-in-Ok-remove_file-clause-gone : goal.returns-in-Ok-remove_file-clause-gone
returns-in-Ok-remove_file-clause-gone g c k =
    let m : Meaning _ = g.F.Folder.meaning in
    let path : c.deref.result.now ≡ part_path c.args.dir.now c.args.file_name.now c.args.part = c.deref.ensures ∙ c.in-Ok.ensures in
    subst (λ (p : List ℕ). get (m.files c.remove_file.new.folder) p ≡ None) path
    (ap (λ (f : Files). get f c.deref.result.now) (c.in-Ok-remove_file.ensures.done k) ∙ get-remove_same (m.files c.args.folder.now) c.deref.result.now)

pub returns-in-Ok-remove_file-clause-touches : goal.returns-in-Ok-remove_file-clause-touches
returns-in-Ok-remove_file-clause-touches g c k =
    let m : Meaning _ = g.F.Folder.meaning in
    subst (λ (p : List ℕ). TouchesOnly m (λ q. q ≡ p) c.args.folder.now c.remove_file.new.folder) (c.deref.ensures ∙ c.in-Ok.ensures) (c.remove_file.ensures.touches k)

pub returns-clause-touches : goal.returns-clause-touches
returns-clause-touches g c k =
    let m : Meaning _ = g.F.Folder.meaning in
    subst (λ (p : List ℕ). TouchesOnly m (λ q. q ≡ p) c.args.folder.now c.remove_file.new.folder) (c.deref.ensures ∙ c.in-Ok.ensures) (c.remove_file.ensures.touches k)
