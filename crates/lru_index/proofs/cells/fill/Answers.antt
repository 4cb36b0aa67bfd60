use Rattle.std.proofs.Common.{◌≡◌, ◌<◌, length, get_or, set, replicate, ◌+◌, ◌-◌, ◌*◌, ◌/◌, ◌%◌, ◌^◌, None, arith, refl, sym, ap, ◌∙◌, subst}
use Rattle.lru_index.specs.Hashing.{key_hash}
use Rattle.lru_index.specs.Representation.Cells.{IsScale, IsFilled}
use Rattle.lru_index.proofs.Calls.{home_is, home_within, bits_are, bits_fit}
use Rattle.lru_index.proofs.Indexed.{fill_start, fill_put, fill_skip, not_live}
use Rattle.lru_index.proofs.cells.fill.Goals as goal
use Rattle.lru_index.proofs.cells.fill.Goals.{then-is_live, else-is_live}

pub loop-place-init : goal.loop-place-init
loop-place-init g c =
    let hash = key_hash g.S.BuildHasher g.S.Hasher.Hasher g.K.Hash.hash_input c.args.hash_builder.now in
    let same = c.fill.ensures.len in
    fill_start hash (2 ^ (64 - c.args.shift)) c.args.shift (g.T.Keys.key_of c.args.keys.now) c.fill.new.self (omega (arith, c.requires.fits, same))
    (c.fill.ensures.after (λ y e. e) ∙ ap (λ n. replicate n 0) (sym same)) c.requires.none

pub loop-place-preserved : goal.loop-place-preserved
loop-place-preserved g c =
    let hash = key_hash g.S.BuildHasher g.S.Hasher.Hasher g.K.Hash.hash_input c.args.hash_builder.now in
    let keys = g.T.Keys.key_of c.args.keys.now in
    let heads = 2 ^ (64 - c.args.shift) in
    let cells = c.loop-place.cells in
    let place = c.loop-place.place in
    let scale : IsScale heads c.args.shift = record { power = refl; least = c.requires.least; most = c.requires.most } in
    elim c.if-is_live.branch [
      | then-is_live w ↦
          let is = c.heads_of-heads.ensures.heads in
          let given = w.hash_of-hash.result in
          let b = w.home_of.result in
          let bits = w.bits_of.result in
          let home : b ≡ given * heads / 2 ^ 64 = w.home_of.ensures ∙ ap (λ n. given * n / 2 ^ 64) is in
          let rest : bits ≡ given * heads / 2 ^ 32 % 2 ^ 32 = w.bits_of.ensures ∙ ap (λ n. given * n / 2 ^ 32 % 2 ^ 32) is in
          let within : heads + place < length cells = omega (arith, c.requires.fits, c.loop-place-test.true, c.loop-place.auto.cells, c.fill.ensures.len) in
          let narrow : place < 2 * heads = omega (arith, c.requires.narrow, c.loop-place-test.true) in
          let filled = fill_put hash heads c.args.shift keys cells place w.key_at.result.now b (bits / (2 * heads)) c.loop-place.invariant w.key_at.ensures
          (home_is heads c.args.shift scale given (hash w.key_at.result.now) w.hash_of-hash.ensures b home)
          (bits_are heads c.args.shift scale given (hash w.key_at.result.now) w.hash_of-hash.ensures bits rest)
          (home_within heads c.args.shift scale given (hash w.key_at.result.now) w.hash_of-hash.ensures w.hash_of-hash.type_inv b home)
          (bits_fit heads c.args.shift scale given (hash w.key_at.result.now) w.hash_of-hash.ensures bits rest)
          c.loop-place.auto.place within narrow in
          let cells_are = w.cells-is ∙ w.put_first.ensures ∙ ap (λ h. set (set cells (h + place) (get_or cells b 0)) b (bits / (2 * h) * (2 * h) + place)) is in
          subst (IsFilled hash heads c.args.shift (place + 1) keys) (sym cells_are) filled
      | else-is_live w ↦
          let none : keys place ≡ None = not_live (keys place) (sym c.is_live.ensures ∙ w.if-is_live.false) in
          subst (IsFilled hash heads c.args.shift (place + 1) keys) (sym w.cells-is) (fill_skip hash heads c.args.shift keys cells place c.loop-place.invariant none)
    ]

pub returns : goal.returns
returns g c =
    let hash = key_hash g.S.BuildHasher g.S.Hasher.Hasher g.K.Hash.hash_input c.args.hash_builder.now in
    let same : c.loop-place.place ≡ c.args.room = omega (arith, c.loop-place.auto.place-end, c.loop-place-test.false, c.requires.some) in
    subst (λ n. IsFilled hash (2 ^ (64 - c.args.shift)) c.args.shift n (g.T.Keys.key_of c.args.keys.now) c.loop-place.cells) same c.loop-place.invariant
