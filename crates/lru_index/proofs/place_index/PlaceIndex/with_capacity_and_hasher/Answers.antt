use Rattle.std.proofs.Common.{◌≤◌, ◌<◌, ◌-◌, ◌*◌, length, replicate, ap, arith, ◌∙◌}
use Rattle.std.proofs.lemmas.List.FromFn.{length-map-range_with_len}
use Rattle.lru_index.specs.Representation.Cells.{IsScale, known_in}
use Rattle.lru_index.proofs.Calls.{empty_kept, empty_shown, links_narrow}
use Rattle.lru_index.proofs.Indexed.{seen}
use Rattle.lru_index.proofs.place_index.PlaceIndex.with_capacity_and_hasher.Goals as goal

pub invariant_of-result : goal.invariant_of-result
invariant_of-result g c =
    let v = c.in_ok-cells.cells in
    let heads = c.heads_of-heads.result in
    let scale : IsScale heads c.shift_for-shift.result = record { power = c.heads_of-heads.ensures.heads; least = c.shift_for-shift.ensures.least; most = c.shift_for-shift.ensures.most } in
    let narrow : c.links_for.result ≤ 2 * heads = links_narrow heads c.shift_for-shift.result scale c.args.places c.links_for.result c.shift_for-shift.ensures.wide c.links_for.ensures.few c.links_for.type_inv in
    let empty = c.in_ok-cells.ensures.empty ∙ ap (λ n. replicate n 0) v.ok.0 in
    let some : heads < length v.items = omega (arith, v.ok.0, c.in_ok-cells.ensures.long, c.links_for.ensures.some) in
    empty_kept v.items heads empty some c.shift_for-shift.result scale (omega (arith, v.ok.0, c.in_ok-cells.ensures.long, c.links_for.type_inv)) (omega (arith, v.ok.0, c.in_ok-cells.ensures.long, narrow))

pub returns-clause-empty : goal.returns-clause-empty
returns-clause-empty g c = λ p.
    let v = c.in_ok-cells.cells in
    let heads = c.heads_of-heads.result in
    let scale : IsScale heads c.shift_for-shift.result = record { power = c.heads_of-heads.ensures.heads; least = c.shift_for-shift.ensures.least; most = c.shift_for-shift.ensures.most } in
    let narrow : c.links_for.result ≤ 2 * heads = links_narrow heads c.shift_for-shift.result scale c.args.places c.links_for.result c.shift_for-shift.ensures.wide c.links_for.ensures.few c.links_for.type_inv in
    let empty = c.in_ok-cells.ensures.empty ∙ ap (λ n. replicate n 0) v.ok.0 in
    let some : heads < length v.items = omega (arith, v.ok.0, c.in_ok-cells.ensures.long, c.links_for.ensures.some) in
    seen v.items heads c.shift_for-shift.result
    (empty_kept v.items heads empty some c.shift_for-shift.result scale (omega (arith, v.ok.0, c.in_ok-cells.ensures.long, c.links_for.type_inv)) (omega (arith, v.ok.0, c.in_ok-cells.ensures.long, narrow))) p
    ∙ empty_shown v.items heads empty some c.shift_for-shift.result p

pub returns-clause-room : goal.returns-clause-room
returns-clause-room g c =
    let v = c.in_ok-cells.cells in
    let heads = c.heads_of-heads.result in
    omega (arith, length-map-range_with_len (known_in v.items heads c.shift_for-shift.result) 0 (length v.items - heads), c.in_ok-cells.ensures.long, c.links_for.ensures.places, v.ok.0)
