use Rattle.std.proofs.Common.{◌<◌, ℕ, List, sym, subst}
use Rattle.std.specs.Prelude.{◌↔◌, Contains, IfOk, Option}
use Rattle.lru_generations.specs.declared.names.PartName.{PartName}
use Rattle.lru_generations.specs.Names.{generation_of}
use Rattle.lru_generations.specs.Newest.{IsBelow}
use Rattle.lru_generations.proofs.newest_loading.parts_below.Goals as goal

pub returns-in-Some : goal.returns-in-Some
returns-in-Some c =
    subst (λ (o : Option ℕ). IfOk c.older_than.result (λ below. (part : PartName) → Contains below.items part ↔ (Contains c.args.parts.items part × IsBelow o (generation_of part)))) (sym c.in-Some.is)
    (subst (λ (l : List PartName). IfOk c.older_than.result (λ below. (part : PartName) → Contains below.items part ↔ (Contains l part × (generation_of part < c.in-Some.bound)))) c.deref.ensures.value c.older_than.ensures)
