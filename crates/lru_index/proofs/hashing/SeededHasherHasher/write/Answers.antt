use Rattle.std.proofs.Common.{length, arith}
use Rattle.std.proofs.lemmas.Bool.{le-leb, lt-leb}
use Rattle.lru_index.specs.Hashing.{mixed_across, written}
use Rattle.lru_index.proofs.hashing.SeededHasherHasher.write.Goals as goal
use Rattle.lru_index.proofs.hashing.SeededHasherHasher.write.Goals.{then-len-gt16, else-len-gt16+then-len-gt8, else-len-gt16+else-len-gt8}

pub returns : goal.returns
unfolding written mixed_across
returns c =
    let n = length c.args.bytes.now in
    elim c.if-len-gt16.branch [
      | then-len-gt16 w ↦
          rw (c.mix.ensures, w.first-is, w.self-is, w.mix_blocks.ensures, c.turn.ensures, w.read_word.ensures, w.read_word-then-len-gt16.ensures, lt-leb n 8 (omega (arith, w.if-len-gt16.true)), lt-leb n 16 w.if-len-gt16.true)
      | else-len-gt16+then-len-gt8 w ↦
          rw (c.mix.ensures, w.first-is, w.self-is, c.turn.ensures, w.rotate_left.ensures, w.read_word-low.ensures, w.read_word-then-len-gt8.ensures, lt-leb n 8 w.if-len-gt8.true, le-leb n 16 w.if-len-gt16.false)
      | else-len-gt16+else-len-gt8 w ↦
          rw (c.mix.ensures, w.first-is, w.self-is, c.turn.ensures, w.read_short-word.ensures, le-leb n 8 w.if-len-gt8.false)
    ]
