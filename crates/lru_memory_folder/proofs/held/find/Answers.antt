use Rattle.std.proofs.Common.{Some, sym, ap, ◌∙◌}
use Rattle.std.specs.Option.{option_map}
use Rattle.lru_memory_folder.proofs.HeldLemmas.{items_of, get-files_in}
use Rattle.lru_memory_folder.proofs.held.find.Goals as goal

pub returns-in-Some : goal.returns-in-Some
returns-in-Some c =
    get-files_in c.args.held.now c.args.path.now ∙ ap (option_map items_of) (sym c.in-Some.ensures.value) ∙ ap Some (sym c.deref.ensures.value)

pub returns-in-None : goal.returns-in-None
returns-in-None c = get-files_in c.args.held.now c.args.path.now ∙ ap (option_map items_of) (sym c.in-None.ensures.value)
