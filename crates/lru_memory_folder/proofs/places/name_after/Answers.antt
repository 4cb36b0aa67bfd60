use Rattle.std.proofs.Common.{sym, ◌∙◌}
use Rattle.lru_memory_folder.proofs.MadeLemmas.{name_after-some, name_after-none}
use Rattle.lru_memory_folder.proofs.places.name_after.Goals as goal

pub returns-then-is_name : goal.returns-then-is_name
returns-then-is_name c =
    let cut = c.in-Some.ensures.cases in
    name_after-some c.args.front.now c.args.path.now c.in-Some.name.now cut.0 cut.1.0 cut.1.1 cut.2 (sym c.is_name.ensures ∙ c.if-is_name.true)

pub returns-in-None : goal.returns-in-None
returns-in-None c = name_after-none c.args.front.now c.args.path.now c.in-None.ensures.cases
