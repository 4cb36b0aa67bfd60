use Rattle.std.proofs.Common.{◌≡◌, ◌≤◌, ◌+◌, ◌++◌, map, vec_len, vec_capacity}
use Rattle.std.specs.Prelude.{reverse}
use Rattle.lru_actors.specs.declared.letter.Letter.{Letter}
use Rattle.lru_workers.specs.Batch.{asked_by}
use Rattle.lru_workers.proofs.bench.take_apart.Given as goal

-- the messages of the letters that are left come after those of the others
abbrev pub invariant-loop-letter : goal.invariant-loop-letter
invariant-loop-letter g l = record {
  messages : l.batch.items ++ map (λ (x : Letter g.row.K.Denot g.row.T.Denot). x.message) (reverse l.letters.items) ≡ map (λ (x : Letter g.row.K.Denot g.row.T.Denot). x.message) (reverse l.initial.letters.items);
  asked : l.asked.items ++ map asked_by (reverse l.letters.items) ≡ map asked_by (reverse l.initial.letters.items);
  as_many : vec_len l.batch + vec_len l.letters ≡ vec_len l.initial.letters;
  batch_fits : vec_len l.batch + vec_len l.letters ≤ vec_capacity l.batch;
  asked_fit : vec_len l.asked + vec_len l.letters ≤ vec_capacity l.asked;
}

abbrev pub decreases-loop-letter : goal.decreases-loop-letter
decreases-loop-letter g l = vec_len l.letters
