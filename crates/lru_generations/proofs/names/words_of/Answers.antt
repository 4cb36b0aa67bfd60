use Rattle.std.proofs.Common.{ℕ, List, ◌++◌, ◌∷◌, None, Some, sym, ◌∙◌, ap, arith}
use Rattle.std.proofs.lemmas.List.{append_cancel_left}
use Rattle.std.proofs.lemmas.Str.Pattern.{split_parts, strip_prefix_char}
use Rattle.lru_generations.proofs.NameLaws.{IsCut-split}
use Rattle.lru_generations.proofs.names.words_of.Goals as goal

pub returns-in_err-rest-2 : goal.returns-in_err-rest-2
returns-in_err-rest-2 c =
    let front = c.in_ok-rest.ensures.cases in
    let name = front.1.1 ∙ ap (λ (l : List ℕ). c.args.file_name.now ++ l) (sym front.2) in
    let none = strip_prefix_char 46 c.in_ok-rest.rest.now None c.in_err-rest-2.ensures.cases (omega arith) in
    rw c.from_residual-in_err-rest-2.ensures (λ number kind same. none (number ++ (46 ∷ kind))
    (append_cancel_left c.args.file_name.now c.in_ok-rest.rest.now (46 ∷ (number ++ (46 ∷ kind))) (sym name ∙ same)))

pub returns : goal.returns
returns c =
    let front = c.in_ok-rest.ensures.cases in
    let name = front.1.1 ∙ ap (λ (l : List ℕ). c.args.file_name.now ++ l) (sym front.2) in
    let dot = strip_prefix_char 46 c.in_ok-rest.rest.now (Some c.in_ok-rest-2.rest) c.in_ok-rest-2.ensures.cases (omega arith) in
    IsCut-split c.args.file_name.now c.args.name.now c.in_ok-rest.rest.now c.in_ok-rest-2.rest.now c.split_once.result name dot
    (split_parts 46 c.in_ok-rest-2.rest.now c.split_once.result c.split_once.ensures.cases (omega arith))
