use Rattle.std.proofs.Common.{ℕ, List, sym, ◌∙◌, subst}
use Rattle.lru_folder.specs.Meaning.{Meaning}
use Rattle.lru_generations.specs.declared.names.PartName.{PartName}
use Rattle.lru_generations.specs.Listing.{HasParts}
use Rattle.lru_generations.proofs.Touched.{touches_then}
use Rattle.lru_generations.specs.Told.{AreAll}
use Rattle.lru_generations.proofs.Passing.{if_ok}
use Rattle.lru_generations.proofs.Telling.{all_so, told_again}
use Rattle.lru_generations.proofs.generation_checks.check_all.Goals as goal

pub returns-clause-all : goal.returns-clause-all
returns-clause-all g c k =
    let m : Meaning _ = g.F.Folder.meaning in
    let dir = c.args.dir.now in
    let file_name = c.args.file_name.now in
    let files = m.files c.args.folder.now in
    let numbers = c.in_ok-generations.generations.items in
    let parts = subst (λ (l : List PartName). HasParts dir file_name files l) (sym c.deref.ensures.value) (c.in_ok-parts.ensures.parts k) in
    let are = all_so dir file_name files c.deref.result.now numbers parts c.in_ok-generations.ensures.found c.in_ok-generations.ensures.falling in
    if_ok c.tell_each.result _ _ (λ told is. subst (λ (l : List ℕ). AreAll dir file_name files l) (sym (is ∙ c.deref-2.ensures.value)) are) c.tell_each.ensures.all

pub returns-clause-told : goal.returns-clause-told
returns-clause-told g c k =
    let m : Meaning _ = g.F.Folder.meaning in
    if_ok c.tell_each.result _ _
    (λ told each one h. told_again m c.args.dir.now c.args.file_name.now c.parts_of.new.folder c.tell_each.new.folder c.args.folder.now c.tell_each.new.folder (c.parts_of.ensures.files k)
    one.generation one.shards (each one h)) (c.tell_each.ensures.told (c.parts_of.ensures.kept.0 k))

pub returns-clause-touches : goal.returns-clause-touches
returns-clause-touches g c k =
    touches_then g.F.Folder.meaning (λ q. ⊥) c.args.folder.now c.parts_of.new.folder c.tell_each.new.folder (c.parts_of.ensures.touches k) (c.tell_each.ensures.touches (c.parts_of.ensures.kept.0 k))
