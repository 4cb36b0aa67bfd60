use Rattle.std.proofs.Common.{◌+◌, ◌*◌, ◌/◌, ◌<◌, length, get_or, set, ap, sym, subst, ◌∙◌}
use Rattle.std.proofs.lemmas.List.{with_items_is}
use Rattle.lru_index.specs.Hashing.{hash_by, key_hash}
use Rattle.lru_index.specs.Index.{Indexes, put}
use Rattle.lru_index.specs.Representation.Cells.{IsKept, index_of}
use Rattle.lru_index.proofs.Calls.{hash_is, home_is, home_within, bits_are, bits_fit, put_fits, put_narrow, put_kept, put_indexes}
use Rattle.lru_index.proofs.place_index.PlaceIndex.insert_hashed.Goals as goal

pub put_first-requires-clause-place : goal.put_first-requires-clause-place
put_first-requires-clause-place g c =
    let i = c.self.inside in
    subst (λ xs. i.heads + c.args.place < length xs) (sym c.deref_mut.ensures.value)
    (put_fits i.cells.items i.heads i.shift i.hash_builder c.self.invariant c.args.self.now c.self.view_is c.args.place c.requires.room)

pub put_first-requires-clause-narrow : goal.put_first-requires-clause-narrow
put_first-requires-clause-narrow g c =
    let i = c.self.inside in
    put_narrow i.cells.items i.heads i.shift i.hash_builder c.self.invariant c.args.self.now c.self.view_is c.args.place c.requires.room

pub invariant_of-self : goal.invariant_of-self
invariant_of-self g c =
    let i = c.self.inside in
    let hash = key_hash g.S.BuildHasher g.S.Hasher.Hasher g.K.Hash.hash_input in
    let hashed = hash i.hash_builder c.args.key.now in
    let given = hash_is hash i.cells.items i.heads i.shift i.hash_builder c.args.self.now c.self.view_is c.args.key.now c.args.hash c.requires.hash in
    let low = home_within i.heads i.shift c.self.invariant.scale c.args.hash hashed given c.ranges.hash.fits c.home_of-home.result c.home_of-home.ensures in
    let small = bits_fit i.heads i.shift c.self.invariant.scale c.args.hash hashed given c.bits_of-bits.result c.bits_of-bits.ensures in
    let bits = c.bits_of-bits.result / (2 * i.heads) in
    let wrote = with_items_is i.cells c.put_first.new.cells (c.put_first.auto.cells ∙ c.deref_mut.ensures.len)
    ∙ c.put_first.ensures
    ∙ ap (λ xs. set (set xs (i.heads + c.args.place) (get_or xs c.home_of-home.result 0)) c.home_of-home.result (bits * (2 * i.heads) + c.args.place)) c.deref_mut.ensures.value in
    subst (λ xs. IsKept xs i.heads i.shift) (sym wrote) (put_kept i.cells.items i.heads i.shift i.hash_builder c.self.invariant c.args.self.now c.self.view_is c.args.place c.requires.room c.requires.place c.requires.free c.home_of-home.result bits low small)

pub returns-clause-indexes : goal.returns-clause-indexes
returns-clause-indexes g c = λ keys new of.
    let i = c.self.inside in
    let hash = key_hash g.S.BuildHasher g.S.Hasher.Hasher g.K.Hash.hash_input in
    let hashed = hash i.hash_builder c.args.key.now in
    let given = hash_is hash i.cells.items i.heads i.shift i.hash_builder c.args.self.now c.self.view_is c.args.key.now c.args.hash c.requires.hash in
    let low = home_within i.heads i.shift c.self.invariant.scale c.args.hash hashed given c.ranges.hash.fits c.home_of-home.result c.home_of-home.ensures in
    let small = bits_fit i.heads i.shift c.self.invariant.scale c.args.hash hashed given c.bits_of-bits.result c.bits_of-bits.ensures in
    let bits = c.bits_of-bits.result / (2 * i.heads) in
    let wrote = with_items_is i.cells c.put_first.new.cells (c.put_first.auto.cells ∙ c.deref_mut.ensures.len)
    ∙ c.put_first.ensures
    ∙ ap (λ xs. set (set xs (i.heads + c.args.place) (get_or xs c.home_of-home.result 0)) c.home_of-home.result (bits * (2 * i.heads) + c.args.place)) c.deref_mut.ensures.value in
    subst (λ xs. Indexes g.K.PartialEq.eq hash (index_of xs i.heads i.shift i.hash_builder) (put keys c.args.place c.args.key.now)) (sym wrote)
    (put_indexes i.cells.items i.heads i.shift i.hash_builder c.self.invariant c.args.self.now c.self.view_is c.args.place c.requires.room c.requires.place c.requires.free c.home_of-home.result bits low small
    g.K.PartialEq.eq g.met.K.Eq.laws hash (λ s x y e. ap (hash_by g.S.BuildHasher g.S.Hasher.Hasher s) (g.met.K.Hash.respects_eq x y e)) c.args.key.now
    (home_is i.heads i.shift c.self.invariant.scale c.args.hash hashed given c.home_of-home.result c.home_of-home.ensures)
    (bits_are i.heads i.shift c.self.invariant.scale c.args.hash hashed given c.bits_of-bits.result c.bits_of-bits.ensures) keys new of)
