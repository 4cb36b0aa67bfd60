use Rattle.std.proofs.Common.{Bool, ◌&&◌, sym, ◌∙◌, ap}
use Rattle.std.specs.Prelude.{codes, nat_eq}
use Rattle.std.specs.List.{ends_with}
use Rattle.std.proofs.lemmas.Str.Pattern.{starts_text, ends_text}
use Rattle.lru_folder.proofs.names.is_temp_name.Goals as goal

pub returns-then-starts_with : goal.returns-then-starts_with
returns-then-starts_with c =
    let starts = starts_text c.starts_with.result c.args.file_name.now c.args.name.now c.starts_with.ensures.cases in
    let ends = ends_text c.ends_with.result (codes ".tmp") c.args.name.now c.ends_with.ensures.cases in
    ends ∙ ap (λ (b : Bool). b && ends_with nat_eq c.args.name.now (codes ".tmp")) (sym c.if-starts_with.true ∙ starts)

pub returns-else-starts_with : goal.returns-else-starts_with
returns-else-starts_with c =
    let starts = starts_text c.starts_with.result c.args.file_name.now c.args.name.now c.starts_with.ensures.cases in
    c.if-starts_with.false ∙ ap (λ (b : Bool). b && ends_with nat_eq c.args.name.now (codes ".tmp")) (sym c.if-starts_with.false ∙ starts)
