use Rattle.std.proofs.Common.{◌≡◌, ◌++◌, Some, [], map, string_bytes, sym, ap, ◌∙◌}
use Rattle.std.proofs.lemmas.List.{append-nil}
use Rattle.std.specs.BTreeMap.{keys}
use Rattle.std.specs.List.{filter_map}
use Rattle.lru_memory_folder.specs.HeldInside.{files_in}
use Rattle.lru_folder.specs.Listings.{name_of}
use Rattle.lru_folder.specs.Places.{name_after, names_in}
use Rattle.lru_memory_folder.proofs.ListingLemmas.{keys-files_in, all_readable}
use Rattle.lru_memory_folder.proofs.held.names_of.Goals as goal

pub returns : goal.returns
returns c =
    let held = c.args.held.now in
    let dir = c.args.dir.now in
    let listed = c.loop-path.listed.items in
    let front = string_bytes c.in_ok-front.front in
    let over : c.loop-path.path-iterator ≡ [] = c.in-None.ensures.steps.0 in
    let all : map name_of listed ≡ map Some (filter_map (name_after front) (map string_bytes (keys held))) =
    sym (append-nil (map name_of listed)) ∙ ap (λ l. map name_of listed ++ map Some (filter_map (name_after front) (map string_bytes l))) (sym over) ∙ c.loop-path.invariant in
    let names : filter_map (name_after front) (map string_bytes (keys held)) ≡ names_in dir (files_in held.entries) =
    (λ i. filter_map (name_after (c.in_ok-front.ensures i)) (sym (keys-files_in held.entries c.keys-path-items.ensures.ordered) i)) in
    all_readable listed (names_in dir (files_in held.entries)) (all ∙ ap (map Some) names)
