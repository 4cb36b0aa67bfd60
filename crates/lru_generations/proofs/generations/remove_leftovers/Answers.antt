use Rattle.std.proofs.Common.{List, sym, subst}
use Rattle.std.specs.Prelude.{Contains}
use Rattle.lru_folder.specs.Meaning.{Meaning}
use Rattle.lru_generations.specs.declared.names.PartName.{PartName}
use Rattle.lru_generations.proofs.Touched.{touches_started, touches_more}
use Rattle.lru_generations.proofs.Lists.{on_ok}
use Rattle.lru_generations.specs.Removing.{IsPathOf}
use Rattle.lru_generations.specs.Saving.{IsLeft}
use Rattle.lru_generations.proofs.generations.remove_leftovers.Goals as goal

pub returns-in_default-clause-touches : goal.returns-in_default-clause-touches
returns-in_default-clause-touches g c k = touches_started g.F.Folder.meaning _ c.args.folder.now k

pub returns-clause-gone : goal.returns-clause-gone
returns-clause-gone g c k =
    on_ok c.remove_parts.result _ _
    (λ all part there left. all part (subst (λ (xs : List PartName). Contains xs part) (sym c.deref.ensures.value) ((c.in-Ok.ensures part).1 (there, left))))
    (c.remove_parts.ensures.gone k)

pub returns-clause-touches : goal.returns-clause-touches
returns-clause-touches g c k =
    let m : Meaning _ = g.F.Folder.meaning in
    touches_more m (IsPathOf c.args.dir.now c.args.file_name.now c.deref.result.now) (IsLeft c.args.dir.now c.args.file_name.now c.args.parts.now)
    (λ q h. (h.0, ((c.in-Ok.ensures h.0).0 (subst (λ (xs : List PartName). Contains xs h.0) c.deref.ensures.value h.1.0), h.1.1)))
    c.args.folder.now c.remove_parts.new.folder (c.remove_parts.ensures.touches k)
