use Rattle.std.proofs.Common.{rules, ◌++◌, ℕ, List, sym, ap, ◌∙◌}
use Rattle.std.proofs.lemmas.Nat.{le_bytes_8}
use Rattle.lru_frames.specs.Words.{word}
use Rattle.lru_frames.proofs.words.take_word.Goals as goal

pub returns : goal.returns
unfolding word
returns c =
    c.split_at.ensures.by_index.0
    ∙ ap (λ (front : List ℕ). front ++ c.split_at.result.1.now) (sym (le_bytes_8 c.split_at.result.0.now _ (search rules) (search rules) c.from_le_bytes-number.ensures))
