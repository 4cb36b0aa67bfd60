use Rattle.std.proofs.Common.{ap, ◌∙◌}
use Rattle.std.specs.Prelude.{map}
use Rattle.lru_folder.specs.Listings.{name_of}
use Rattle.lru_generations.proofs.Touched.{touches_started, touches_looked}
use Rattle.lru_generations.proofs.FolderLaws.{has_parts}
use Rattle.lru_generations.proofs.listing.list_parts.Goals as goal

pub returns-in-Err-clause-touches : goal.returns-in-Err-clause-touches
returns-in-Err-clause-touches g c k =
    let start = c.args.folder.now in
    touches_looked g.F.Folder.meaning (λ q. ⊥) start start c.list.new.self (touches_started g.F.Folder.meaning (λ q. ⊥) start k) (c.list.ensures.time k) (c.list.ensures.loss k)

pub returns-in-Ok-parts_in-clause-touches : goal.returns-in-Ok-parts_in-clause-touches
returns-in-Ok-parts_in-clause-touches g c k =
    let start = c.args.folder.now in
    touches_looked g.F.Folder.meaning (λ q. ⊥) start start c.list.new.self (touches_started g.F.Folder.meaning (λ q. ⊥) start k) (c.list.ensures.time k) (c.list.ensures.loss k)

pub returns-clause-touches : goal.returns-clause-touches
returns-clause-touches g c k =
    let start = c.args.folder.now in
    touches_looked g.F.Folder.meaning (λ q. ⊥) start start c.list.new.self (touches_started g.F.Folder.meaning (λ q. ⊥) start k) (c.list.ensures.time k) (c.list.ensures.loss k)

pub returns-in-Ok-parts_in-clause-parts : goal.returns-in-Ok-parts_in-clause-parts
returns-in-Ok-parts_in-clause-parts g c k =
    let files = g.F.Folder.meaning.files c.args.folder.now in
    has_parts c.args.dir.now c.args.file_name.now files (map name_of c.deref.result.now) c.in-Ok-parts_in.parts.items c.requires c.utf8.file_name
    (ap (map name_of) c.deref.ensures.value ∙ (c.in-Ok.ensures.done k).1) c.in-Ok-parts_in.ensures
