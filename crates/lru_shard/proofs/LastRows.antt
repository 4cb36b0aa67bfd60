-- Laws of the last row of a list, and of the list without it.
use Rattle.std.proofs.Common.{◌≡◌, ℕ, ◌+◌, ◌-◌, ◌<◌, List, [], ◌∷◌, ◌++◌, length, get_or, Some, None, refl, sym, ap, ◌∙◌, arith}
use Rattle.std.specs.Prelude.{Option, option_map}
use Rattle.std.proofs.lemmas.Option.{slice_get_within, slice_get-get_or}
use Rattle.std.proofs.lemmas.List.{take_more, take_all, length_push}
use Rattle.lru_shard.specs.Row.{Row, pair_of, weight_of, last_row, without_last}
use Rattle.lru_shard.proofs.Rows.{weight-append}

module _ {T : Type 0} where
  from_option : (o : Option (Row T)) (p : T × ℕ) → Some p ≡ option_map pair_of o → (r : Row T) × ((o ≡ Some r) × (p ≡ pair_of r))
  from_option None p h = cc
  from_option (Some r) p h = (r, (refl, cc))

  -- the row that was evicted
  pub last_of : (rows : List (Row T)) (p : T × ℕ) → Some p ≡ option_map pair_of (last_row rows) → (r : Row T) × ((last_row rows ≡ Some r) × (p ≡ pair_of r))
  last_of rows p h = from_option (last_row rows) p h

  pub last_split : (rows : List (Row T)) (r : Row T) → last_row rows ≡ Some r → rows ≡ without_last rows ++ r ∷ []
  last_split rows r h =
      let lt = slice_get_within rows (length rows - 1) r h in
      let same : Some r ≡ Some (get_or rows (length rows - 1) r) = sym h ∙ slice_get-get_or rows (length rows - 1) r lt in
      let is : r ≡ get_or rows (length rows - 1) r = cc in
      sym (take_all (length rows - 1 + 1) rows (omega arith)) ∙ take_more rows (length rows - 1) r lt ∙ ap (λ x. without_last rows ++ x ∷ []) (sym is)

  pub weight-without_last : (rows : List (Row T)) (r : Row T) → last_row rows ≡ Some r → weight_of (without_last rows) + r.weight ≡ weight_of rows
  weight-without_last rows r h =
      let one : weight_of (r ∷ []) ≡ r.weight = omega arith in
      omega (arith, one, ap weight_of (last_split rows r h), weight-append (without_last rows) (r ∷ []))

  pub length-without_last : (rows : List (Row T)) (r : Row T) → last_row rows ≡ Some r → length (without_last rows) + 1 ≡ length rows
  length-without_last rows r h = omega (arith, ap length (last_split rows r h), length_push (without_last rows) r)

  -- a list that holds a row has a last one
  pub held_last : (rows : List (Row T)) → 0 < length rows → None ≡ option_map pair_of (last_row rows) → ⊥
  held_last [] h e = absurd (omega arith)
  held_last (x ∷ rows) h e =
      let some : None ≡ option_map pair_of (Some (get_or (x ∷ rows) (length (x ∷ rows) - 1) x)) = e ∙ ap (option_map pair_of) (slice_get-get_or (x ∷ rows) (length (x ∷ rows) - 1) x (omega arith)) in cc
