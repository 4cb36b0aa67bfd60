use Rattle.std.proofs.Common.{◌≡◌, ◌==◌, ◌&&◌, true, not, length, ap, ◌∙◌, sym, arith, rules}
use Rattle.std.proofs.lemmas.Str.Pattern.{contains_char}
use Rattle.lru_folder.specs.Names.{has_slash}
use Rattle.lru_memory_folder.proofs.MadeLemmas.{contains_slash}
use Rattle.lru_memory_folder.proofs.places.is_name.Goals as goal

pub returns-then-not-is_empty : goal.returns-then-not-is_empty
returns-then-not-is_empty c =
    let text = c.args.text.now in
    let finds = contains_char 47 text c.contains.result c.contains.ensures.cases (omega arith) in
    let some : not (length text == 0) ≡ true = search rules in
    ap not (contains_slash text c.contains.result finds.0 finds.1) ∙ ap (λ b. b && not (has_slash text)) (sym some)
