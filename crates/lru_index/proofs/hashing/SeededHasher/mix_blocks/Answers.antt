use Rattle.std.proofs.Common.{◌≡◌, ℕ, suc, ◌+◌, ◌-◌, ◌*◌, ◌/◌, length, refl, arith}
use Rattle.lru_index.specs.Hashing.{blocks_mixed}
use Rattle.lru_index.proofs.hashing.SeededHasher.mix_blocks.Goals as goal

pub loop-at-init : goal.loop-at-init
unfolding blocks_mixed
loop-at-init c = (refl, c.requires, refl)

pub loop-at-preserved : goal.loop-at-preserved
unfolding blocks_mixed
loop-at-preserved c =
    let at : ℕ = c.loop-at.at in
    let whole : at ≡ 16 * (at / 16) = omega (arith, c.loop-at.invariant.0) in
    let more : (at + 16) / 16 ≡ suc (at / 16) = omega arith in (
      omega arith,
      omega arith,
      rw (more, c.mix.ensures, c.read_word.ensures, c.read_word-in-loop-at.ensures, ← c.loop-at.invariant.2, ← whole),
    )

pub returns : goal.returns
returns c =
    let count : (length c.args.bytes.now - 1) / 16 ≡ c.loop-at.at / 16 = omega (arith, c.loop-at.invariant.0, c.loop-at.invariant.1, c.loop-at-test.false) in
    rw (count, ← c.loop-at.invariant.2)
