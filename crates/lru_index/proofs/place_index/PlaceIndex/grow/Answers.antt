use Rattle.std.proofs.Common.{◌≡◌, ◌+◌, ◌-◌, ◌*◌, ◌^◌, ◌≤◌, ◌++◌, length, replicate, ap, arith, sym, subst, ◌∙◌}
use Rattle.std.proofs.lemmas.List.{with_items_is}
use Rattle.std.proofs.lemmas.List.FromFn.{length-map-range_with_len}
use Rattle.std.specs.Vec.{with_items, vec_len}
use Rattle.lru_index.specs.Hashing.{hash_by, key_hash}
use Rattle.lru_index.specs.Index.{Indexes}
use Rattle.lru_index.specs.Representation.Cells.{IsScale, IsKept, known_in, index_of}
use Rattle.lru_index.proofs.Calls.{room_at, heads_on, links_narrow, longer_kept, longer_indexes, zero_keyless, grown_kept, grown_indexes}
use Rattle.lru_index.proofs.place_index.PlaceIndex.grow.Goals as goal

pub lengthen-requires : goal.lengthen-requires
lengthen-requires g c =
    let i = c.self.inside in
    let room = room_at i.cells.items i.heads i.shift i.hash_builder c.self.invariant c.args.self.now c.self.view_is in
    let more = heads_on i.cells.items i.heads i.shift i.hash_builder c.self.invariant c.args.self.now c.self.view_is
    c.heads_of-heads.result c.shift_for-shift.result c.heads_of-heads.ensures.heads c.shift_for-shift.ensures.most in
    omega (arith, i.cells.ok.0, room, more, c.requires.more, c.links_for-links.ensures.places)

-- ---- as many heads as before
pub invariant_of-self-then-shift-self : goal.invariant_of-self-then-shift-self
invariant_of-self-then-shift-self g c =
    let i = c.self.inside in
    let v = c.lengthen.new.cells in
    let more = replicate (c.heads_of-heads.result + c.links_for-links.result - vec_len i.cells) 0 in
    let heads : c.heads_of-heads.result ≡ i.heads = c.heads_of-heads.ensures.heads ∙ ap (λ s. 2 ^ (64 - s)) c.if-shift-self.true ∙ sym c.self.invariant.scale.power in
    let narrow = links_narrow c.heads_of-heads.result c.shift_for-shift.result (record { power = c.heads_of-heads.ensures.heads; least = c.shift_for-shift.ensures.least; most = omega (arith, c.shift_for-shift.ensures.most, c.self.invariant.scale.most) })
    c.args.places c.links_for-links.result c.shift_for-shift.ensures.wide c.links_for-links.ensures.few c.links_for-links.type_inv in
    let made = c.in_ok-lengthen.ensures.made in
    let few : length (i.cells.items ++ more) ≤ i.heads + 4294967295 = omega (arith, ap length made, v.ok.0, c.in_ok-lengthen.ensures.long, heads, c.links_for-links.type_inv) in
    let tight : length (i.cells.items ++ more) ≤ 3 * i.heads = omega (arith, ap length made, v.ok.0, c.in_ok-lengthen.ensures.long, heads, narrow) in
    longer_kept i.cells.items i.heads i.shift i.hash_builder c.self.invariant c.args.self.now c.self.view_is more few tight v.items made

pub returns-then-shift-self-clause-indexes : goal.returns-then-shift-self-clause-indexes
returns-then-shift-self-clause-indexes g c =
    let i = c.self.inside in
    let v = c.lengthen.new.cells in
    let more = replicate (c.heads_of-heads.result + c.links_for-links.result - vec_len i.cells) 0 in
    let heads : c.heads_of-heads.result ≡ i.heads = c.heads_of-heads.ensures.heads ∙ ap (λ s. 2 ^ (64 - s)) c.if-shift-self.true ∙ sym c.self.invariant.scale.power in
    let narrow = links_narrow c.heads_of-heads.result c.shift_for-shift.result (record { power = c.heads_of-heads.ensures.heads; least = c.shift_for-shift.ensures.least; most = omega (arith, c.shift_for-shift.ensures.most, c.self.invariant.scale.most) })
    c.args.places c.links_for-links.result c.shift_for-shift.ensures.wide c.links_for-links.ensures.few c.links_for-links.type_inv in
    let made = c.in_ok-lengthen.ensures.made in
    let few : length (i.cells.items ++ more) ≤ i.heads + 4294967295 = omega (arith, ap length made, v.ok.0, c.in_ok-lengthen.ensures.long, heads, c.links_for-links.type_inv) in
    let tight : length (i.cells.items ++ more) ≤ 3 * i.heads = omega (arith, ap length made, v.ok.0, c.in_ok-lengthen.ensures.long, heads, narrow) in
    longer_indexes i.cells.items i.heads i.shift i.hash_builder c.self.invariant c.args.self.now c.self.view_is more few tight v.items made
    g.K.PartialEq.eq (key_hash g.S.BuildHasher g.S.Hasher.Hasher g.K.Hash.hash_input) (g.T.Keys.key_of c.args.keys.now) c.requires.indexed

pub returns-then-shift-self-clause-made : goal.returns-then-shift-self-clause-made
returns-then-shift-self-clause-made g c =
    let i = c.self.inside in
    let v = c.lengthen.new.cells in
    let heads : c.heads_of-heads.result ≡ i.heads = c.heads_of-heads.ensures.heads ∙ ap (λ s. 2 ^ (64 - s)) c.if-shift-self.true ∙ sym c.self.invariant.scale.power in
    omega (arith, length-map-range_with_len (known_in v.items i.heads i.shift) 0 (length v.items - i.heads), v.ok.0, c.in_ok-lengthen.ensures.long, heads, c.links_for-links.ensures.places)

-- ---- more heads
pub fill-requires-clause-none : goal.fill-requires-clause-none
fill-requires-clause-none g c =
    let i = c.self.inside in
    zero_keyless i.cells.items i.heads i.shift i.hash_builder c.self.invariant c.args.self.now c.self.view_is g.K.PartialEq.eq g.met.K.Eq.laws (key_hash g.S.BuildHasher g.S.Hasher.Hasher g.K.Hash.hash_input)
    (λ s x y e. ap (hash_by g.S.BuildHasher g.S.Hasher.Hasher s) (g.met.K.Hash.respects_eq x y e)) (g.T.Keys.key_of c.args.keys.now) c.requires.indexed

pub fill-requires-clause-narrow : goal.fill-requires-clause-narrow
fill-requires-clause-narrow g c =
    let i = c.self.inside in
    let room = room_at i.cells.items i.heads i.shift i.hash_builder c.self.invariant c.args.self.now c.self.view_is in
    let more = heads_on i.cells.items i.heads i.shift i.hash_builder c.self.invariant c.args.self.now c.self.view_is
    c.heads_of-heads.result c.shift_for-shift.result c.heads_of-heads.ensures.heads c.shift_for-shift.ensures.most in
    omega (arith, room, more, c.room-room.ensures, c.heads_of-heads.ensures.heads, c.self.invariant.narrow)

pub invariant_of-self-2 : goal.invariant_of-self-2
invariant_of-self-2 g c =
    let i = c.self.inside in
    let v = c.lengthen.new.cells in
    let heads = c.heads_of-heads.result in
    let hash = key_hash g.S.BuildHasher g.S.Hasher.Hasher g.K.Hash.hash_input in
    let same : length c.fill.new.cells ≡ v.len = c.fill.auto.cells ∙ c.deref_mut.ensures.len in
    let long : length c.fill.new.cells ≡ heads + c.links_for-links.result = same ∙ c.in_ok-lengthen.ensures.long in
    let scale : IsScale heads c.shift_for-shift.result = record { power = c.heads_of-heads.ensures.heads; least = c.shift_for-shift.ensures.least; most = omega (arith, c.shift_for-shift.ensures.most, c.self.invariant.scale.most) } in
    let narrow = links_narrow heads c.shift_for-shift.result scale c.args.places c.links_for-links.result c.shift_for-shift.ensures.wide c.links_for-links.ensures.few c.links_for-links.type_inv in
    subst (λ xs. IsKept xs heads c.shift_for-shift.result) (sym (with_items_is v c.fill.new.cells same))
    (grown_kept i.cells.items i.heads i.shift i.hash_builder c.self.invariant c.args.self.now c.self.view_is g.K.PartialEq.eq g.met.K.Eq.laws hash
    (λ s x y e. ap (hash_by g.S.BuildHasher g.S.Hasher.Hasher s) (g.met.K.Hash.respects_eq x y e)) (g.T.Keys.key_of c.args.keys.now) c.requires.indexed
    c.fill.new.cells heads c.shift_for-shift.result c.room-room.result scale c.room-room.ensures c.fill.ensures
    (omega (arith, long, c.links_for-links.ensures.some)) (omega (arith, long, c.links_for-links.type_inv)) (omega (arith, long, narrow)))

pub returns-clause-indexes : goal.returns-clause-indexes
returns-clause-indexes g c =
    let i = c.self.inside in
    let v = c.lengthen.new.cells in
    let heads = c.heads_of-heads.result in
    let hash = key_hash g.S.BuildHasher g.S.Hasher.Hasher g.K.Hash.hash_input in
    let same : length c.fill.new.cells ≡ v.len = c.fill.auto.cells ∙ c.deref_mut.ensures.len in
    let long : length c.fill.new.cells ≡ heads + c.links_for-links.result = same ∙ c.in_ok-lengthen.ensures.long in
    let scale : IsScale heads c.shift_for-shift.result = record { power = c.heads_of-heads.ensures.heads; least = c.shift_for-shift.ensures.least; most = omega (arith, c.shift_for-shift.ensures.most, c.self.invariant.scale.most) } in
    let narrow = links_narrow heads c.shift_for-shift.result scale c.args.places c.links_for-links.result c.shift_for-shift.ensures.wide c.links_for-links.ensures.few c.links_for-links.type_inv in
    subst (λ xs. Indexes g.K.PartialEq.eq hash (index_of xs heads c.shift_for-shift.result i.hash_builder) (g.T.Keys.key_of c.args.keys.now)) (sym (with_items_is v c.fill.new.cells same))
    (grown_indexes i.cells.items i.heads i.shift i.hash_builder c.self.invariant c.args.self.now c.self.view_is g.K.PartialEq.eq g.met.K.Eq.laws hash
    (λ s x y e. ap (hash_by g.S.BuildHasher g.S.Hasher.Hasher s) (g.met.K.Hash.respects_eq x y e)) (g.T.Keys.key_of c.args.keys.now) c.requires.indexed
    c.fill.new.cells heads c.shift_for-shift.result c.room-room.result scale c.room-room.ensures c.fill.ensures
    (omega (arith, long, c.links_for-links.ensures.some)) (omega (arith, long, c.links_for-links.type_inv)) (omega (arith, long, narrow)))

pub returns-clause-made : goal.returns-clause-made
returns-clause-made g c =
    let v = c.lengthen.new.cells in
    let heads = c.heads_of-heads.result in
    let same : length c.fill.new.cells ≡ v.len = c.fill.auto.cells ∙ c.deref_mut.ensures.len in
    let whole = with_items_is v c.fill.new.cells same in
    let items = (with_items v c.fill.new.cells).items in
    omega (arith, length-map-range_with_len (known_in items heads c.shift_for-shift.result) 0 (length items - heads), ap length whole, same, c.in_ok-lengthen.ensures.long, c.links_for-links.ensures.places)
