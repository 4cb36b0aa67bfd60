use Rattle.std.proofs.Common.{◌≡◌, ap, sym, ◌∙◌, rules}
use Rattle.std.specs.FinSet.{insert}
use Rattle.std.specs.List.{list_any}
use Rattle.std.specs.Str.{bytes_eq}
use Rattle.lru_memory_folder.specs.MadeInside.{folders_in}
use Rattle.lru_memory_folder.proofs.MadeLemmas.{has_is, folders_in-push, insert-has}
use Rattle.lru_memory_folder.proofs.places.add.Goals as goal

pub returns-in_ok-push-clause-ok : goal.returns-in_ok-push-clause-ok
returns-in_ok-push-clause-ok c =
    let made = c.args.made.now.items in
    let same : c.in_ok-to_vec.field-0.items ≡ c.args.text.now = search rules in
    ap folders_in c.in_ok-push.ensures.items ∙ folders_in-push made c.in_ok-to_vec.field-0 ∙ ap (insert (folders_in made)) same

pub returns-else-not-has-clause-ok : goal.returns-else-not-has-clause-ok
returns-else-not-has-clause-ok c =
    let made = c.args.made.now.items in
    let text = c.args.text.now in
    insert-has (folders_in made) text
    (sym (has_is made text) ∙ sym (ap (λ l. list_any (λ f. bytes_eq f.items text) l) c.deref.ensures.value) ∙ sym c.if-not-has.ensures)
