use Rattle.std.proofs.Common.{◌≡◌, ◌<◌, ◌+◌, ◌==◌, Some, get_or, ap, sym, subst, ◌∙◌}
use Rattle.std.proofs.lemmas.List.{get_or_default}
use Rattle.lru_index.specs.Hashing.{hash_by, key_hash}
use Rattle.lru_index.specs.Representation.Cells.{at, home_in, places_in}
use Rattle.lru_index.proofs.Calls.{hash_is, home_is, home_within, within_is, cut_kept, cut_indexes, stands_there, link_there, some_there}
use Rattle.lru_index.proofs.Marked.{at_places}
use Rattle.lru_index.proofs.place_index.PlaceIndex.remove_at.Goals as goal

pub index-next-requires : goal.index-next-requires
index-next-requires g c =
    let i = c.self.inside in
    let hash = key_hash g.S.BuildHasher g.S.Hasher.Hasher g.K.Hash.hash_input in
    subst (λ n. i.heads + c.args.place < n) (sym i.cells.ok.0) (link_there hash i.cells.items i.heads i.shift i.hash_builder c.self.invariant c.args.self.now c.self.view_is c.args.key.now c.args.place c.requires)

pub cell_before-cell-requires-clause-stands : goal.cell_before-cell-requires-clause-stands
cell_before-cell-requires-clause-stands g c =
    let i = c.self.inside in
    let hash = key_hash g.S.BuildHasher g.S.Hasher.Hasher g.K.Hash.hash_input in
    let hashed = hash i.hash_builder c.args.key.now in
    let given = hash_is hash i.cells.items i.heads i.shift i.hash_builder c.args.self.now c.self.view_is c.args.key.now c.hash_of.result c.hash_of.ensures in
    subst (λ xs. home_in (places_in xs i.heads) i.heads c.args.place ≡ Some c.home_of-home.result) (sym c.deref.ensures.value)
    (stands_there hash i.cells.items i.heads i.shift i.hash_builder c.self.invariant c.args.self.now c.self.view_is c.args.key.now c.args.place c.requires
    ∙ ap (λ n. Some n) (sym (home_is i.heads i.shift c.self.invariant.scale c.hash_of.result hashed given c.home_of-home.result c.home_of-home.ensures)))

pub index_mut-requires : goal.index_mut-requires
index_mut-requires g c =
    let i = c.self.inside in
    let hash = key_hash g.S.BuildHasher g.S.Hasher.Hasher g.K.Hash.hash_input in
    let hashed = hash i.hash_builder c.args.key.now in
    let given = hash_is hash i.cells.items i.heads i.shift i.hash_builder c.args.self.now c.self.view_is c.args.key.now c.hash_of.result c.hash_of.ensures in
    let low = home_within i.heads i.shift c.self.invariant.scale c.hash_of.result hashed given c.hash_of.type_inv c.home_of-home.result c.home_of-home.ensures in
    subst (λ n. c.cell_before-cell.result < n) (sym i.cells.ok.0) (within_is ◌==◌ Some c.args.place i.cells.items i.heads i.shift c.self.invariant c.home_of-home.result c.cell_before-cell.result low c.deref.result.now c.deref.ensures.value c.cell_before-cell.ensures.walk)

pub invariant_of-self : goal.invariant_of-self
invariant_of-self g c =
    let i = c.self.inside in
    let hash = key_hash g.S.BuildHasher g.S.Hasher.Hasher g.K.Hash.hash_input in
    let hashed = hash i.hash_builder c.args.key.now in
    let given = hash_is hash i.cells.items i.heads i.shift i.hash_builder c.args.self.now c.self.view_is c.args.key.now c.hash_of.result c.hash_of.ensures in
    let low = home_within i.heads i.shift c.self.invariant.scale c.hash_of.result hashed given c.hash_of.type_inv c.home_of-home.result c.home_of-home.ensures in
    let within = within_is ◌==◌ Some c.args.place i.cells.items i.heads i.shift c.self.invariant c.home_of-home.result c.cell_before-cell.result low c.deref.result.now c.deref.ensures.value c.cell_before-cell.ensures.walk in
    let held = get_or i.cells.items c.cell_before-cell.result 0 in
    let holds = subst (λ xs. at (places_in xs i.heads) c.cell_before-cell.result ≡ c.args.place) c.deref.ensures.value c.cell_before-cell.ensures.holds in
    let place = sym holds ∙ at_places i.cells.items i.heads c.cell_before-cell.result in
    cut_kept ◌==◌ Some c.args.place i.cells.items i.heads i.shift c.self.invariant c.home_of-home.result c.cell_before-cell.result low c.deref.result.now c.deref.ensures.value c.cell_before-cell.ensures.walk
    held (sym (get_or_default i.cells.items c.cell_before-cell.result held 0 within)) c.args.place place
    (some_there hash i.cells.items i.heads i.shift i.hash_builder c.self.invariant c.args.self.now c.self.view_is c.args.key.now c.args.place c.requires) c.index-next.result.now c.index-next.ensures

pub returns-clause-drops : goal.returns-clause-drops
returns-clause-drops g c keys of =
    let i = c.self.inside in
    let hash = key_hash g.S.BuildHasher g.S.Hasher.Hasher g.K.Hash.hash_input in
    let hashed = hash i.hash_builder c.args.key.now in
    let given = hash_is hash i.cells.items i.heads i.shift i.hash_builder c.args.self.now c.self.view_is c.args.key.now c.hash_of.result c.hash_of.ensures in
    let low = home_within i.heads i.shift c.self.invariant.scale c.hash_of.result hashed given c.hash_of.type_inv c.home_of-home.result c.home_of-home.ensures in
    let within = within_is ◌==◌ Some c.args.place i.cells.items i.heads i.shift c.self.invariant c.home_of-home.result c.cell_before-cell.result low c.deref.result.now c.deref.ensures.value c.cell_before-cell.ensures.walk in
    let held = get_or i.cells.items c.cell_before-cell.result 0 in
    let holds = subst (λ xs. at (places_in xs i.heads) c.cell_before-cell.result ≡ c.args.place) c.deref.ensures.value c.cell_before-cell.ensures.holds in
    let place = sym holds ∙ at_places i.cells.items i.heads c.cell_before-cell.result in
    cut_indexes ◌==◌ Some c.args.place i.cells.items i.heads i.shift c.self.invariant c.home_of-home.result c.cell_before-cell.result low c.deref.result.now c.deref.ensures.value c.cell_before-cell.ensures.walk
    held (sym (get_or_default i.cells.items c.cell_before-cell.result held 0 within)) c.args.place place
    (some_there hash i.cells.items i.heads i.shift i.hash_builder c.self.invariant c.args.self.now c.self.view_is c.args.key.now c.args.place c.requires) c.index-next.result.now c.index-next.ensures g.K.PartialEq.eq g.met.K.Eq.laws hash
    (λ s x y e. ap (hash_by g.S.BuildHasher g.S.Hasher.Hasher s) (g.met.K.Hash.respects_eq x y e)) i.hash_builder keys c.args.self.now c.self.view_is of
