use Rattle.std.proofs.Common.{◌≡◌, ◌+◌, [], length, drop, get_or, Some, sym, ap, ◌∙◌, arith}
use Rattle.std.specs.Prelude.{fold}
use Rattle.std.specs.List.{list_all}
use Rattle.std.proofs.lemmas.List.{drop_more, drop_all}
use Rattle.std.proofs.lemmas.Bool.{eqb-false}
use Rattle.lru_lines.specs.Lines.{is_digit, value_of}
use Rattle.lru_lines.proofs.LineLaws.{step, grows, too_big, is_number}
use Rattle.lru_lines.proofs.numbers.number.Goals as goal

pub returns : goal.returns
returns c =
    let word = c.args.word.now in
    let i = c.loop-byte.byte-index in
    let none : drop i word ≡ [] = drop_all i word (omega arith) in
    let value : c.loop-byte.value ≡ value_of word = sym (ap (fold step c.loop-byte.value) none) ∙ c.loop-byte.invariant.value in
    let some : length word ≡ 0 → ⊥ = eqb-false (length word) 0 (sym c.is_empty.ensures ∙ c.if-is_empty.false) in
    ap (λ n. Some n) value ∙ sym (is_number word (omega (arith, some)) (omega arith) (sym c.loop-byte.invariant.digits ∙ ap (list_all is_digit) none) (omega (arith, value)))

pub returns-then-value-digit : goal.returns-then-value-digit
returns-then-value-digit c =
    let word = c.args.word.now in
    let i = c.loop-byte.byte-index in
    let more = grows (drop (i + 1) word) (step c.loop-byte.value (get_or word i 0)) in
    let whole : fold step (step c.loop-byte.value (get_or word i 0)) (drop (i + 1) word) ≡ value_of word = sym (ap (fold step c.loop-byte.value) (drop_more word i 0 (omega arith))) ∙ c.loop-byte.invariant.value in
    sym (too_big word (omega arith))
