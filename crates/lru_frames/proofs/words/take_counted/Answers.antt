use Rattle.std.proofs.Common.{rules, ◌++◌, sym, ap, ◌∙◌, append_assoc, length, arith}
use Rattle.std.proofs.lemmas.List.{length-append}
use Rattle.lru_frames.specs.Words.{word}
use Rattle.lru_frames.specs.WordLaws.{no_word, one_word}
use Rattle.lru_frames.proofs.words.take_counted.Goals as goal

pub returns-in-None : goal.returns-in-None
returns-in-None c = λ text rest _ h. no_word c.args.bytes.now (text ++ rest) (length text) c.in-None.ensures (h ∙ append_assoc (word (length text)) text rest)

pub returns-then-rest-count : goal.returns-then-rest-count
returns-then-rest-count c = λ text rest small h.
    let parts = one_word c.in-Some.count (length text) c.in-Some.rest.now (text ++ rest) (search rules) small (sym c.in-Some.ensures ∙ h ∙ append_assoc (word (length text)) text rest) in
    omega (arith, parts.0, ap length parts.1, length-append text rest)
