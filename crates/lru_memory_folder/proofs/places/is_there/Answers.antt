use Rattle.std.proofs.Common.{◌==◌, length, codes, sym, ap, ◌∙◌}
use Rattle.std.specs.FinSet.{contains}
use Rattle.std.specs.Str.{bytes_eq}
use Rattle.lru_memory_folder.specs.MadeInside.{folders_in}
use Rattle.lru_folder.specs.Places.{without_last_slash}
use Rattle.lru_memory_folder.proofs.MadeLemmas.{has_is, by_third}
use Rattle.lru_memory_folder.proofs.places.is_there.Goals as goal
use Rattle.lru_memory_folder.proofs.places.is_there.Goals.{then-is_empty, else-is_empty}

pub returns-else-eq : goal.returns-else-eq
returns-else-eq c =
    let made = c.args.made.now in
    let text = without_last_slash c.args.dir.now in
    elim c.if-is_empty.branch [
      | then-is_empty w ↦ absurd (let a = w.value-is in let b = w.if-is_empty.true in let d = c.if-eq.false in let f : ⊥ = cc in f)
      | else-is_empty w ↦
          by_third (length text == 0) (bytes_eq text (codes "/")) (contains (folders_in made) text) c.has.result
          (ap (λ t. length t == 0) (sym c.without_last_slash-text.ensures) ∙ sym c.is_empty.ensures ∙ w.if-is_empty.false)
          ((λ i. bytes_eq (sym c.without_last_slash-text.ensures i) (sym w.as_slice.ensures i)) ∙ sym w.eq.ensures ∙ sym w.value-is ∙ c.if-eq.false)
          (c.has.ensures ∙ has_is made c.without_last_slash-text.result.now ∙ ap (contains (folders_in made)) c.without_last_slash-text.ensures)
    ]
