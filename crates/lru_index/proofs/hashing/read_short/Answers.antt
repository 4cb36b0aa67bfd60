use Rattle.std.proofs.Common.{◌-◌, ◌/◌, length, arith}
use Rattle.std.proofs.lemmas.Bool.{le-leb, lt-leb, lt-ltb, le-ltb}
use Rattle.lru_index.specs.Hashing.{short_word}
use Rattle.lru_index.proofs.hashing.read_short.Goals as goal

pub returns-then-len-ge4 : goal.returns-then-len-ge4
unfolding short_word
returns-then-len-ge4 c =
    let n = length c.args.bytes.now in
    rw (le-leb 4 n c.if-len-ge4.true, ← c.read_half.ensures.number, ← c.read_half-then-len-ge4.ensures.number) (omega (arith, c.read_half-then-len-ge4.ensures.small))

pub returns-then-len-gt0 : goal.returns-then-len-gt0
unfolding short_word
returns-then-len-gt0 c =
    let n = length c.args.bytes.now in
    rw (lt-leb 4 n c.if-len-ge4.false, lt-ltb 0 n c.if-len-gt0.true) (omega (arith, c.type_inv.bytes (n / 2), c.type_inv.bytes (n - 1)))

pub returns-else-len-gt0 : goal.returns-else-len-gt0
unfolding short_word
returns-else-len-gt0 c =
    let n = length c.args.bytes.now in
    rw (lt-leb 4 n c.if-len-ge4.false, le-ltb 0 n c.if-len-gt0.false)
