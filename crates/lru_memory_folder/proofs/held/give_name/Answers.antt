use Rattle.std.proofs.Common.{sym, ap, ◌∙◌}
use Rattle.std.proofs.lemmas.Slice.Eq.{bytes_eq-Decides}
use Rattle.lru_folder.specs.Files.{renamed}
use Rattle.lru_memory_folder.specs.HeldInside.{files_in}
use Rattle.lru_memory_folder.proofs.HeldLemmas.{renamed-own}
use Rattle.lru_memory_folder.proofs.held.give_name.Goals as goal

pub returns-then-eq-clause-ok : goal.returns-then-eq-clause-ok
returns-then-eq-clause-ok c =
    let m = files_in c.args.held.now.entries in
    let from = c.args.from.now in
    sym (renamed-own m from) ∙ ap (λ p. renamed from p m) ((bytes_eq-Decides from c.args.to.now).0 (sym c.eq.ensures ∙ c.if-eq.true))
