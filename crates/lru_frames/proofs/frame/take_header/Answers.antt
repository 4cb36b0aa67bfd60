use Rattle.std.proofs.Common.{ap, length, arith}
use Rattle.std.proofs.lemmas.List.{length-append}
use Rattle.lru_frames.specs.Words.{word}
use Rattle.lru_frames.specs.WordLaws.{length-word}
use Rattle.lru_frames.proofs.frame.take_header.Goals as goal

pub returns-in_default-take_word : goal.returns-in_default-take_word
returns-in_default-take_word c =
    omega (arith, c.in_default-take_word.ensures, ap length c.in-Some.ensures, length-append (word c.in-Some.shards) c.in-Some.rest.now, length-word c.in-Some.shards)

pub returns-in_default-take_word-2 : goal.returns-in_default-take_word-2
returns-in_default-take_word-2 c =
    omega (
      arith,
      c.in_default-take_word-2.ensures,
      ap length c.in-Some.ensures,
      length-append (word c.in-Some.shards) c.in-Some.rest.now,
      length-word c.in-Some.shards,
      ap length c.in-Some-take_word.ensures,
      length-append (word c.in-Some-take_word.shard) c.in-Some-take_word.rest.now,
      length-word c.in-Some-take_word.shard,
    )

pub returns-in_default-take_word-3 : goal.returns-in_default-take_word-3
returns-in_default-take_word-3 c =
    omega (
      arith,
      c.in_default-take_word-3.ensures,
      ap length c.in-Some.ensures,
      length-append (word c.in-Some.shards) c.in-Some.rest.now,
      length-word c.in-Some.shards,
      ap length c.in-Some-take_word.ensures,
      length-append (word c.in-Some-take_word.shard) c.in-Some-take_word.rest.now,
      length-word c.in-Some-take_word.shard,
      ap length c.in-Some-take_word-2.ensures,
      length-append (word c.in-Some-take_word-2.generation) c.in-Some-take_word-2.rest.now,
      length-word c.in-Some-take_word-2.generation,
    )
