use Rattle.std.proofs.Common.{◌≡◌, ◌==◌, ◌||◌, ◌&&◌, true, false, not, length, sym, ◌∙◌}
use Rattle.std.specs.Prelude.{codes, nat_eq}
use Rattle.std.specs.List.{ends_with, starts_with}
use Rattle.std.proofs.lemmas.Str.Pattern.{starts_text, ends_text}
use Rattle.lru_host_folder.proofs.steps.ends_name.Goals as goal

pub returns-then-is_empty : goal.returns-then-is_empty
returns-then-is_empty c =
    let front = c.args.front.now in
    let rest = c.args.rest.now in
    let open_end : ends_with nat_eq front (codes "/") ≡ false = sym (ends_text c.ends_with.result (codes "/") front c.ends_with.ensures.cases) ∙ c.if-not-ends_with.true in
    let over : (length rest == 0) ≡ true = sym c.is_empty.ensures ∙ c.if-is_empty.true in
    c.if-is_empty.true ∙ (λ i. not (sym open_end i) && (sym over i || starts_with nat_eq rest (codes "/")))

pub returns-else-is_empty : goal.returns-else-is_empty
returns-else-is_empty c =
    let front = c.args.front.now in
    let rest = c.args.rest.now in
    let open_end : ends_with nat_eq front (codes "/") ≡ false = sym (ends_text c.ends_with.result (codes "/") front c.ends_with.ensures.cases) ∙ c.if-not-ends_with.true in
    let goes_on : (length rest == 0) ≡ false = sym c.is_empty.ensures ∙ c.if-is_empty.false in
    starts_text c.starts_with.result (codes "/") rest c.starts_with.ensures.cases ∙ (λ i. not (sym open_end i) && (sym goes_on i || starts_with nat_eq rest (codes "/")))
