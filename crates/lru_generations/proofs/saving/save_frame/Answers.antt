use Rattle.std.proofs.Common.{◌≡◌, ℕ, List, ◌∙◌, subst}
use Rattle.lru_folder.specs.Meaning.{Meaning}
use Rattle.lru_generations.specs.Touching.{TouchesOnly}
use Rattle.lru_generations.proofs.Touched.{touches_started}
use Rattle.lru_generations.proofs.saving.save_frame.Goals as goal

pub returns-in_default-clause-touches : goal.returns-in_default-clause-touches
returns-in_default-clause-touches g c k = touches_started g.F.Folder.meaning _ c.args.folder.now k

pub returns-in_default-frame-clause-touches : goal.returns-in_default-frame-clause-touches
returns-in_default-frame-clause-touches g c k = touches_started g.F.Folder.meaning _ c.args.folder.now k

pub returns-in-Ok-write_file-clause-touches : goal.returns-in-Ok-write_file-clause-touches
returns-in-Ok-write_file-clause-touches g c k =
    let m : Meaning _ = g.F.Folder.meaning in
    subst (λ (p : List ℕ). TouchesOnly m (λ q. q ≡ p) c.args.folder.now c.write_file.new.folder) (c.deref.ensures ∙ c.in-Ok.ensures) (c.write_file.ensures.touches k)

pub returns-clause-touches : goal.returns-clause-touches
returns-clause-touches g c k =
    let m : Meaning _ = g.F.Folder.meaning in
    subst (λ (p : List ℕ). TouchesOnly m (λ q. q ≡ p) c.args.folder.now c.write_file.new.folder) (c.deref.ensures ∙ c.in-Ok.ensures) (c.write_file.ensures.touches k)
