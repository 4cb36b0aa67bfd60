-- Laws of a walk to a place that a home has.
use Rattle.std.proofs.Common.{◌≡◌, ℕ, ◌<◌, List, refl, sym, ◌∙◌, Some, ◌==◌}
use Rattle.std.proofs.lemmas.Bool.{eq-eqb, ne_eqb, false≢true}
use Rattle.lru_index.specs.Index.{Differs}
use Rattle.lru_index.specs.Representation.Cells.{IsTable, at, home_in}
use Rattle.lru_index.specs.Representation.Walks.{Walks, Reaches}
use Rattle.lru_index.proofs.Tables.{some_is}
use Rattle.lru_index.proofs.Walked.{at_key, all_passed}

module _ (place : ℕ) (cells : List ℕ) (heads b : ℕ) (table : IsTable cells heads (home_in cells heads)) (low : b < heads) (stands : home_in cells heads place ≡ Some b) (cell : ℕ) (w : Walks ◌==◌ Some place cells heads b cell) where
  -- the chain does not end before the place
  pub some : at cells cell ≡ 0 → ⊥
  some end = false≢true (sym (all_passed ◌==◌ Some place cells heads b table low cell w end place stands place refl) ∙ eq-eqb place place refl)

  pub others : (v : ℕ) → (v ≡ place → ⊥) → Differs ◌==◌ Some place v
  others v ne k e = ne_eqb k place (λ same. ne (some_is v k e ∙ same))

  pub reached : at cells cell ≡ place → Reaches ◌==◌ Some place cells heads b cell
  reached e = at_key ◌==◌ Some place cells heads b table low cell w (at cells cell) refl some (at cells cell, refl, eq-eqb (at cells cell) place e)
