use Rattle.std.proofs.Common.{ℕ, List, ◌≡◌, ◌+◌, ◌-◌, ◌++◌, take, drop, arith, ap, ◌∙◌}
use Rattle.std.proofs.lemmas.List.{drop-drop}
use Rattle.lru_frames.specs.Words.{word}
use Rattle.lru_frames.proofs.envelope.set_word.Goals as goal

-- the bytes behind 8 others, from a place on
behind_word : (bytes : List ℕ) (place : ℕ) → drop (place + 8 - place) (drop place bytes) ≡ drop (place + 8) bytes
behind_word bytes place =
    let eight : place + 8 - place ≡ 8 = omega arith in
    ap (λ (n : ℕ). drop n (drop place bytes)) eight ∙ drop-drop 8 place bytes

pub returns : goal.returns
unfolding word
returns c =
    ap (λ (x : List ℕ). take c.args.place c.args.bytes.now ++ (c.copy_from_slice.new.self ++ x)) (behind_word c.args.bytes.now c.args.place)
    ∙ ap (λ (x : List ℕ). take c.args.place c.args.bytes.now ++ (x ++ drop (c.args.place + 8) c.args.bytes.now)) (c.copy_from_slice.ensures.after ∙ c.to_le_bytes.ensures)
