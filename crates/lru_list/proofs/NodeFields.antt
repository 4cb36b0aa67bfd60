-- A write to one field of one node, seen in the lists of each field.
use Rattle.std.proofs.Common.{◌≡◌, ℕ, ◌<◌, List, length, get_or, set, map, sym, ap, ◌∙◌}
use Rattle.std.proofs.lemmas.List.{map-set, get_or-map, set-get_or}

module _ {A B : Type 0} (field : A → B) (xs : List A) (i : ℕ) (a : A) where
  -- the field that is written
  pub written_field : (b : B) → field a ≡ b → map field (set xs i a) ≡ set (map field xs) i b
  written_field b e = map-set field xs i a ∙ ap (set (map field xs) i) e

  -- a field that stays
  pub kept_field : (d : A) → i < length xs → field a ≡ field (get_or xs i d) → map field (set xs i a) ≡ map field xs
  kept_field d within e =
      map-set field xs i a ∙ ap (set (map field xs) i) (e ∙ sym (get_or-map field xs i d (field d) within)) ∙ set-get_or (map field xs) i (field d)
