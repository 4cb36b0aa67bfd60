use Rattle.std.proofs.Common.{◌<◌, ◌+◌, ap, sym, subst}
use Rattle.lru_index.specs.Hashing.{hash_by, key_hash}
use Rattle.lru_index.proofs.Calls.{link_is, cut_kept, cut_indexes, hash_is, home_is, home_within, bits_are, within_is, found_is, absent_is, live_given, told_given}
use Rattle.lru_index.proofs.place_index.PlaceIndex.remove_hashed.Goals as goal

pub cell_of-cell-requires-clause-live : goal.cell_of-cell-requires-clause-live
cell_of-cell-requires-clause-live g c p e =
    let i = c.self.inside in
    let hash = key_hash g.S.BuildHasher g.S.Hasher.Hasher g.K.Hash.hash_input in
    let asked = key_hash g.S.BuildHasher g.S.Hasher.Hasher g.Q.Hash.hash_input in
    let hashed = asked i.hash_builder c.args.query in
    let given = hash_is asked i.cells.items i.heads i.shift i.hash_builder c.args.self.now c.self.view_is c.args.query c.args.hash c.requires.hash in
    live_given i.cells.items i.heads i.shift c.self.invariant c.deref.result.now c.deref.ensures.value g.Q.Query.stands_for (g.T.Keys.key_of c.args.keys.now) c.args.query g.K.PartialEq.eq g.met.K.Eq.laws hash
    (λ s x y e. ap (hash_by g.S.BuildHasher g.S.Hasher.Hasher s) (g.met.K.Hash.respects_eq x y e)) i.hash_builder c.args.self.now c.self.view_is c.requires.indexed hashed (λ k e. ap (hash_by g.S.BuildHasher g.S.Hasher.Hasher i.hash_builder) (g.met.Q.Query.respects_hash c.args.query k e)) p c.home_of-home.result e

pub cell_of-cell-requires-clause-told : goal.cell_of-cell-requires-clause-told
cell_of-cell-requires-clause-told g c =
    let i = c.self.inside in
    let hash = key_hash g.S.BuildHasher g.S.Hasher.Hasher g.K.Hash.hash_input in
    let asked = key_hash g.S.BuildHasher g.S.Hasher.Hasher g.Q.Hash.hash_input in
    let hashed = asked i.hash_builder c.args.query in
    let given = hash_is asked i.cells.items i.heads i.shift i.hash_builder c.args.self.now c.self.view_is c.args.query c.args.hash c.requires.hash in
    told_given i.cells.items i.heads i.shift c.self.invariant c.deref.result.now c.deref.ensures.value g.Q.Query.stands_for (g.T.Keys.key_of c.args.keys.now) c.args.query g.K.PartialEq.eq g.met.K.Eq.laws hash
    (λ s x y e. ap (hash_by g.S.BuildHasher g.S.Hasher.Hasher s) (g.met.K.Hash.respects_eq x y e)) i.hash_builder c.args.self.now c.self.view_is c.requires.indexed hashed (λ k e. ap (hash_by g.S.BuildHasher g.S.Hasher.Hasher i.hash_builder) (g.met.Q.Query.respects_hash c.args.query k e))
    c.bits_of-bits.result (bits_are i.heads i.shift c.self.invariant.scale c.args.hash hashed given c.bits_of-bits.result c.bits_of-bits.ensures)

pub index-requires : goal.index-requires
index-requires g c =
    let i = c.self.inside in
    let hash = key_hash g.S.BuildHasher g.S.Hasher.Hasher g.K.Hash.hash_input in
    let asked = key_hash g.S.BuildHasher g.S.Hasher.Hasher g.Q.Hash.hash_input in
    let hashed = asked i.hash_builder c.args.query in
    let given = hash_is asked i.cells.items i.heads i.shift i.hash_builder c.args.self.now c.self.view_is c.args.query c.args.hash c.requires.hash in
    let low = home_within i.heads i.shift c.self.invariant.scale c.args.hash hashed given c.ranges.hash.fits c.home_of-home.result c.home_of-home.ensures in
    subst (λ n. c.cell_of-cell.result < n) (sym i.cells.ok.0) (within_is g.Q.Query.stands_for (g.T.Keys.key_of c.args.keys.now) c.args.query i.cells.items i.heads i.shift c.self.invariant c.home_of-home.result c.cell_of-cell.result low c.deref.result.now c.deref.ensures.value c.cell_of-cell.ensures)

pub index_mut-requires : goal.index_mut-requires
index_mut-requires g c =
    let i = c.self.inside in
    let hash = key_hash g.S.BuildHasher g.S.Hasher.Hasher g.K.Hash.hash_input in
    let asked = key_hash g.S.BuildHasher g.S.Hasher.Hasher g.Q.Hash.hash_input in
    let hashed = asked i.hash_builder c.args.query in
    let given = hash_is asked i.cells.items i.heads i.shift i.hash_builder c.args.self.now c.self.view_is c.args.query c.args.hash c.requires.hash in
    let low = home_within i.heads i.shift c.self.invariant.scale c.args.hash hashed given c.ranges.hash.fits c.home_of-home.result c.home_of-home.ensures in
    subst (λ n. c.cell_of-cell.result < n) (sym i.cells.ok.0) (within_is g.Q.Query.stands_for (g.T.Keys.key_of c.args.keys.now) c.args.query i.cells.items i.heads i.shift c.self.invariant c.home_of-home.result c.cell_of-cell.result low c.deref.result.now c.deref.ensures.value c.cell_of-cell.ensures)

pub index-requires-2 : goal.index-requires-2
index-requires-2 g c =
    let i = c.self.inside in
    let hash = key_hash g.S.BuildHasher g.S.Hasher.Hasher g.K.Hash.hash_input in
    let asked = key_hash g.S.BuildHasher g.S.Hasher.Hasher g.Q.Hash.hash_input in
    let hashed = asked i.hash_builder c.args.query in
    let given = hash_is asked i.cells.items i.heads i.shift i.hash_builder c.args.self.now c.self.view_is c.args.query c.args.hash c.requires.hash in
    let low = home_within i.heads i.shift c.self.invariant.scale c.args.hash hashed given c.ranges.hash.fits c.home_of-home.result c.home_of-home.ensures in
    subst (λ n. i.heads + c.place_of-place.result < n) (sym i.cells.ok.0)
    (link_is g.Q.Query.stands_for (g.T.Keys.key_of c.args.keys.now) c.args.query i.cells.items i.heads i.shift c.self.invariant c.home_of-home.result c.cell_of-cell.result low c.deref.result.now c.deref.ensures.value c.cell_of-cell.ensures
    c.index.result.now c.index.ensures c.place_of-place.result c.place_of-place.ensures c.if-place-eq0.false)

pub returns-then-place-eq0-clause-finds : goal.returns-then-place-eq0-clause-finds
returns-then-place-eq0-clause-finds g c =
    let i = c.self.inside in
    let hash = key_hash g.S.BuildHasher g.S.Hasher.Hasher g.K.Hash.hash_input in
    let asked = key_hash g.S.BuildHasher g.S.Hasher.Hasher g.Q.Hash.hash_input in
    let hashed = asked i.hash_builder c.args.query in
    let given = hash_is asked i.cells.items i.heads i.shift i.hash_builder c.args.self.now c.self.view_is c.args.query c.args.hash c.requires.hash in
    let low = home_within i.heads i.shift c.self.invariant.scale c.args.hash hashed given c.ranges.hash.fits c.home_of-home.result c.home_of-home.ensures in
    absent_is g.Q.Query.stands_for (g.T.Keys.key_of c.args.keys.now) c.args.query i.cells.items i.heads i.shift c.self.invariant c.home_of-home.result c.cell_of-cell.result low c.deref.result.now c.deref.ensures.value c.cell_of-cell.ensures
    c.index.result.now c.index.ensures c.place_of-place.result c.place_of-place.ensures g.K.PartialEq.eq g.met.K.Eq.laws hash
    (λ s x y e. ap (hash_by g.S.BuildHasher g.S.Hasher.Hasher s) (g.met.K.Hash.respects_eq x y e)) i.hash_builder c.args.self.now c.self.view_is c.requires.indexed hashed (λ k e. ap (hash_by g.S.BuildHasher g.S.Hasher.Hasher i.hash_builder) (g.met.Q.Query.respects_hash c.args.query k e))
    (home_is i.heads i.shift c.self.invariant.scale c.args.hash hashed given c.home_of-home.result c.home_of-home.ensures) c.if-place-eq0.true

pub returns-clause-finds : goal.returns-clause-finds
returns-clause-finds g c =
    let i = c.self.inside in
    let hash = key_hash g.S.BuildHasher g.S.Hasher.Hasher g.K.Hash.hash_input in
    let asked = key_hash g.S.BuildHasher g.S.Hasher.Hasher g.Q.Hash.hash_input in
    let hashed = asked i.hash_builder c.args.query in
    let given = hash_is asked i.cells.items i.heads i.shift i.hash_builder c.args.self.now c.self.view_is c.args.query c.args.hash c.requires.hash in
    let low = home_within i.heads i.shift c.self.invariant.scale c.args.hash hashed given c.ranges.hash.fits c.home_of-home.result c.home_of-home.ensures in
    found_is g.Q.Query.stands_for (g.T.Keys.key_of c.args.keys.now) c.args.query i.cells.items i.heads i.shift c.self.invariant c.home_of-home.result c.cell_of-cell.result low c.deref.result.now c.deref.ensures.value c.cell_of-cell.ensures
    c.index.result.now c.index.ensures c.place_of-place.result c.place_of-place.ensures c.if-place-eq0.false

pub invariant_of-self : goal.invariant_of-self
invariant_of-self g c =
    let i = c.self.inside in
    let hash = key_hash g.S.BuildHasher g.S.Hasher.Hasher g.K.Hash.hash_input in
    let asked = key_hash g.S.BuildHasher g.S.Hasher.Hasher g.Q.Hash.hash_input in
    let hashed = asked i.hash_builder c.args.query in
    let given = hash_is asked i.cells.items i.heads i.shift i.hash_builder c.args.self.now c.self.view_is c.args.query c.args.hash c.requires.hash in
    let low = home_within i.heads i.shift c.self.invariant.scale c.args.hash hashed given c.ranges.hash.fits c.home_of-home.result c.home_of-home.ensures in
    cut_kept g.Q.Query.stands_for (g.T.Keys.key_of c.args.keys.now) c.args.query i.cells.items i.heads i.shift c.self.invariant c.home_of-home.result c.cell_of-cell.result low c.deref.result.now c.deref.ensures.value c.cell_of-cell.ensures
    c.index.result.now c.index.ensures c.place_of-place.result c.place_of-place.ensures c.if-place-eq0.false c.index-2.result.now c.index-2.ensures

pub returns-clause-indexes : goal.returns-clause-indexes
returns-clause-indexes g c =
    let i = c.self.inside in
    let hash = key_hash g.S.BuildHasher g.S.Hasher.Hasher g.K.Hash.hash_input in
    let asked = key_hash g.S.BuildHasher g.S.Hasher.Hasher g.Q.Hash.hash_input in
    let hashed = asked i.hash_builder c.args.query in
    let given = hash_is asked i.cells.items i.heads i.shift i.hash_builder c.args.self.now c.self.view_is c.args.query c.args.hash c.requires.hash in
    let low = home_within i.heads i.shift c.self.invariant.scale c.args.hash hashed given c.ranges.hash.fits c.home_of-home.result c.home_of-home.ensures in
    cut_indexes g.Q.Query.stands_for (g.T.Keys.key_of c.args.keys.now) c.args.query i.cells.items i.heads i.shift c.self.invariant c.home_of-home.result c.cell_of-cell.result low c.deref.result.now c.deref.ensures.value c.cell_of-cell.ensures
    c.index.result.now c.index.ensures c.place_of-place.result c.place_of-place.ensures c.if-place-eq0.false c.index-2.result.now c.index-2.ensures g.K.PartialEq.eq g.met.K.Eq.laws hash
    (λ s x y e. ap (hash_by g.S.BuildHasher g.S.Hasher.Hasher s) (g.met.K.Hash.respects_eq x y e)) i.hash_builder (g.T.Keys.key_of c.args.keys.now) c.args.self.now c.self.view_is c.requires.indexed
