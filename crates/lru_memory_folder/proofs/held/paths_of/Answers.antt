use Rattle.std.proofs.Common.{◌≡◌, ◌++◌, [], map, string_bytes, sym, ap, ◌∙◌}
use Rattle.std.proofs.lemmas.List.{append-nil}
use Rattle.lru_memory_folder.proofs.ListingLemmas.{keys-files_in}
use Rattle.lru_memory_folder.proofs.held.paths_of.Goals as goal

pub returns : goal.returns
returns c =
    let paths = map string_bytes c.loop-path.paths.items in
    let over : c.loop-path.path-iterator ≡ [] = c.in-None.ensures.steps.0 in
    sym (append-nil paths) ∙ ap (λ l. paths ++ map string_bytes l) (sym over) ∙ c.loop-path.invariant
    ∙ sym (keys-files_in c.args.held.now.entries c.keys-path-items.ensures.ordered)
