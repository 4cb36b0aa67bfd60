use Rattle.std.proofs.Common.{◌≡◌, ◌-◌, ◌∙◌, length, sym, ap, arith}
use Rattle.std.proofs.lemmas.Bool.{le-leb}
use Rattle.std.specs.Str.{bytes_eq}
use Rattle.lru_index.proofs.SameTexts.{two_words, four_words}
use Rattle.lru_index.proofs.keys.is_same_text.Goals as goal

pub returns-then-len-2 : goal.returns-then-len-2
returns-then-len-2 c =
    let same = two_words c.as_bytes-bytes.result.now c.as_bytes-others.result.now c.is_same_word.ensures.bytes c.if-len-others.false
    (sym c.is_same_word.ensures.number ∙ c.if-not-is_same_word.false)
    (sym c.is_same_word-else-not-is_same_word.ensures.number ∙ c.if-not-is_same_word-2.false)
    c.if-len-2.true in
    le-leb (length c.as_bytes-bytes.result.now) 16 c.if-len-2.true ∙ sym same
    ∙ ap (λ x. bytes_eq x c.as_bytes-others.result.now) c.as_bytes-bytes.ensures.value ∙ ap (bytes_eq c.args.text.now) c.as_bytes-others.ensures.value

pub returns-then-is_same_word : goal.returns-then-is_same_word
returns-then-is_same_word c =
    c.is_same_word-then-is_same_word.ensures.number
    ∙ four_words c.as_bytes-bytes.result.now c.as_bytes-others.result.now c.is_same_word.ensures.bytes c.if-len-others.false
    (sym c.is_same_word.ensures.number ∙ c.if-not-is_same_word.false)
    (sym c.is_same_word-else-not-is_same_word.ensures.number ∙ c.if-not-is_same_word-2.false)
    (sym c.is_same_word-else-len-2.ensures.number ∙ c.if-is_same_word.true)
    c.if-len-2.false c.if-len.false
    ∙ ap (λ x. bytes_eq x c.as_bytes-others.result.now) c.as_bytes-bytes.ensures.value ∙ ap (bytes_eq c.args.text.now) c.as_bytes-others.ensures.value
