use Rattle.std.proofs.Common.{◌<◌, ap, sym, subst}
use Rattle.lru_index.specs.Hashing.{hash_by, key_hash}
use Rattle.lru_index.proofs.Calls.{hash_is, home_is, home_within, bits_are, within_is, found_is, absent_is, live_given, told_given}
use Rattle.lru_index.proofs.place_index.PlaceIndex.find_hashed.Goals as goal

pub cell_of-cell-requires-clause-live : goal.cell_of-cell-requires-clause-live
cell_of-cell-requires-clause-live g c p e =
    let i = c.self.inside in
    let hash = key_hash g.S.BuildHasher g.S.Hasher.Hasher g.K.Hash.hash_input in
    let asked = key_hash g.S.BuildHasher g.S.Hasher.Hasher g.Q.Hash.hash_input in
    let hashed = asked i.hash_builder c.args.query in
    let given = hash_is asked i.cells.items i.heads i.shift i.hash_builder c.args.self.now c.self.view_is c.args.query c.args.hash c.requires.hash in
    live_given i.cells.items i.heads i.shift c.self.invariant c.deref.result.now c.deref.ensures.value g.Q.Query.stands_for (g.T.Keys.key_of c.args.keys.now) c.args.query g.K.PartialEq.eq g.met.K.Eq.laws hash
    (λ s x y e. ap (hash_by g.S.BuildHasher g.S.Hasher.Hasher s) (g.met.K.Hash.respects_eq x y e)) i.hash_builder c.args.self.now c.self.view_is c.requires.indexed hashed (λ k e. ap (hash_by g.S.BuildHasher g.S.Hasher.Hasher i.hash_builder) (g.met.Q.Query.respects_hash c.args.query k e)) p c.home_of-home.result e

pub cell_of-cell-requires-clause-told : goal.cell_of-cell-requires-clause-told
cell_of-cell-requires-clause-told g c =
    let i = c.self.inside in
    let hash = key_hash g.S.BuildHasher g.S.Hasher.Hasher g.K.Hash.hash_input in
    let asked = key_hash g.S.BuildHasher g.S.Hasher.Hasher g.Q.Hash.hash_input in
    let hashed = asked i.hash_builder c.args.query in
    let given = hash_is asked i.cells.items i.heads i.shift i.hash_builder c.args.self.now c.self.view_is c.args.query c.args.hash c.requires.hash in
    told_given i.cells.items i.heads i.shift c.self.invariant c.deref.result.now c.deref.ensures.value g.Q.Query.stands_for (g.T.Keys.key_of c.args.keys.now) c.args.query g.K.PartialEq.eq g.met.K.Eq.laws hash
    (λ s x y e. ap (hash_by g.S.BuildHasher g.S.Hasher.Hasher s) (g.met.K.Hash.respects_eq x y e)) i.hash_builder c.args.self.now c.self.view_is c.requires.indexed hashed (λ k e. ap (hash_by g.S.BuildHasher g.S.Hasher.Hasher i.hash_builder) (g.met.Q.Query.respects_hash c.args.query k e))
    c.bits_of-bits.result (bits_are i.heads i.shift c.self.invariant.scale c.args.hash hashed given c.bits_of-bits.result c.bits_of-bits.ensures)

pub index-requires : goal.index-requires
index-requires g c =
    let i = c.self.inside in
    let hash = key_hash g.S.BuildHasher g.S.Hasher.Hasher g.K.Hash.hash_input in
    let asked = key_hash g.S.BuildHasher g.S.Hasher.Hasher g.Q.Hash.hash_input in
    let hashed = asked i.hash_builder c.args.query in
    let given = hash_is asked i.cells.items i.heads i.shift i.hash_builder c.args.self.now c.self.view_is c.args.query c.args.hash c.requires.hash in
    let low = home_within i.heads i.shift c.self.invariant.scale c.args.hash hashed given c.ranges.hash.fits c.home_of-home.result c.home_of-home.ensures in
    subst (λ n. c.cell_of-cell.result < n) (sym i.cells.ok.0) (within_is g.Q.Query.stands_for (g.T.Keys.key_of c.args.keys.now) c.args.query i.cells.items i.heads i.shift c.self.invariant c.home_of-home.result c.cell_of-cell.result low c.deref.result.now c.deref.ensures.value c.cell_of-cell.ensures)

pub returns-then-found-eq0 : goal.returns-then-found-eq0
returns-then-found-eq0 g c =
    let i = c.self.inside in
    let hash = key_hash g.S.BuildHasher g.S.Hasher.Hasher g.K.Hash.hash_input in
    let asked = key_hash g.S.BuildHasher g.S.Hasher.Hasher g.Q.Hash.hash_input in
    let hashed = asked i.hash_builder c.args.query in
    let given = hash_is asked i.cells.items i.heads i.shift i.hash_builder c.args.self.now c.self.view_is c.args.query c.args.hash c.requires.hash in
    let low = home_within i.heads i.shift c.self.invariant.scale c.args.hash hashed given c.ranges.hash.fits c.home_of-home.result c.home_of-home.ensures in
    absent_is g.Q.Query.stands_for (g.T.Keys.key_of c.args.keys.now) c.args.query i.cells.items i.heads i.shift c.self.invariant c.home_of-home.result c.cell_of-cell.result low c.deref.result.now c.deref.ensures.value c.cell_of-cell.ensures
    c.index.result.now c.index.ensures c.place_of-found.result c.place_of-found.ensures g.K.PartialEq.eq g.met.K.Eq.laws hash
    (λ s x y e. ap (hash_by g.S.BuildHasher g.S.Hasher.Hasher s) (g.met.K.Hash.respects_eq x y e)) i.hash_builder c.args.self.now c.self.view_is c.requires.indexed hashed (λ k e. ap (hash_by g.S.BuildHasher g.S.Hasher.Hasher i.hash_builder) (g.met.Q.Query.respects_hash c.args.query k e))
    (home_is i.heads i.shift c.self.invariant.scale c.args.hash hashed given c.home_of-home.result c.home_of-home.ensures) c.if-found-eq0.true

pub returns : goal.returns
returns g c =
    let i = c.self.inside in
    let hash = key_hash g.S.BuildHasher g.S.Hasher.Hasher g.K.Hash.hash_input in
    let asked = key_hash g.S.BuildHasher g.S.Hasher.Hasher g.Q.Hash.hash_input in
    let hashed = asked i.hash_builder c.args.query in
    let given = hash_is asked i.cells.items i.heads i.shift i.hash_builder c.args.self.now c.self.view_is c.args.query c.args.hash c.requires.hash in
    let low = home_within i.heads i.shift c.self.invariant.scale c.args.hash hashed given c.ranges.hash.fits c.home_of-home.result c.home_of-home.ensures in
    found_is g.Q.Query.stands_for (g.T.Keys.key_of c.args.keys.now) c.args.query i.cells.items i.heads i.shift c.self.invariant c.home_of-home.result c.cell_of-cell.result low c.deref.result.now c.deref.ensures.value c.cell_of-cell.ensures
    c.index.result.now c.index.ensures c.place_of-found.result c.place_of-found.ensures c.if-found-eq0.false
