use Rattle.std.proofs.Common.{◌≡◌, Some, refl, sym, ◌∙◌, rules}
use Rattle.std.proofs.lemmas.Grind.{get_or_default_zero}
use Rattle.lru_rows.proofs.Moves.{value_read}
use Rattle.lru_rows.proofs.columns.Columns.update.Goals as goal

pub returns-clause-values : goal.returns-clause-values
returns-clause-values g c = λ d e.
    let same : Some d ≡ Some c.in-Some.value = sym (value_read c.args.self.now.values.items c.args.place c.index_mut.result.now d e c.index_mut.ensures.value) ∙ c.in-Some.is in
    let is : d ≡ c.in-Some.value = cc in
    let weight = c.index-weight.ensures ∙ get_or_default_zero c.args.self.now.weights.items c.args.place c.index-weight.result.now c.requires.weighed in
    rw is (rw (sym weight) (c.update.new.arg2, (search rules, refl)))
