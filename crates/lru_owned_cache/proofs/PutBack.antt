-- The first rows go last again, in their order.
use Rattle.std.proofs.Common.{◌≡◌, ℕ, ◌-◌, ◌<◌, ◌≤◌, List, [], ◌∷◌, ◌++◌, length, Some, None, refl, sym, ap, ◌∙◌, subst, arith, append_assoc, append-nil}
use Rattle.std.specs.Prelude.{Bool, is_some, count_by, ◌==◌}
use Rattle.std.specs.Option.{option_map, option_map_or}
use Rattle.std.proofs.lemmas.Bool.{false≢true}
use Rattle.std.proofs.lemmas.List.{length-append}
use Rattle.lru_rows.specs.Rows.{Placed, Recency, recency, row_at, first_row, IsAt, IsRecency, demoted, without as rows_without}
use Rattle.lru_owned_cache.specs.Partings.{PuttingBack, PutsBack}
use Rattle.lru_owned_cache.proofs.Lists.{same_head, same_tail}
use Rattle.lru_owned_cache.proofs.Rows.{first_told, row_first, without_first}

pub none_back : {K V : Type 0} (count : ℕ) (old : Recency K V) → count ≤ length old.rows → PuttingBack count old old count
none_back count old enough = record {
  moved = [];
  rest = old.rows;
  parts = refl;
  now_is = ap (λ rs. recency rs old.free) (sym (append-nil old.rows));
  left_is = omega arith;
  enough = enough;
}

module _ {K V : Type 0} {count : ℕ} {old : Recency K V} where
  module _ {now : Recency K V} {left : ℕ} (s : PuttingBack count old now left) where
    rows_are : now.rows ≡ s.rest ++ s.moved
    rows_are = ap (λ (x : Recency K V). x.rows) s.now_is

    pub all_back : left ≡ 0 → PutsBack count old now
    all_back over = record {
      moved = s.moved;
      rest = s.rest;
      parts = s.parts;
      count_is = omega (arith, over, s.left_is);
      left = s.now_is;
    }

    -- what is not told has no rows
    pub first_untold : 0 < left → None ≡ option_map (λ (x : Placed K V). x.place) (first_row now.rows) → ⊥
    first_untold more told = from now.rows refl
      where
        from : (rows : List (Placed K V)) → now.rows ≡ rows → ⊥
        from [] is = absurd (omega (arith, more, s.enough, ap length rows_are, length-append s.rest s.moved, ap length is))
        from (x ∷ xs) is = absurd (false≢true (ap is_some (told ∙ ap (λ rs. option_map (λ (y : Placed K V). y.place) (first_row rs)) is)))

    module _ (eq : K → K → Bool) (valid : IsRecency eq now.rows) (more : 0 < left) (p : ℕ) (told : Some p ≡ option_map (λ (x : Placed K V). x.place) (first_row now.rows)) where
      abbrev x : Placed K V
      x = (first_told now.rows p told).0

      abbrev xs : List (Placed K V)
      xs = (first_told now.rows p told).1.0

      first_is : now.rows ≡ x ∷ xs
      first_is = (first_told now.rows p told).1.1.0

      place_is : (first_told now.rows p told).0.place ≡ p
      place_is = (first_told now.rows p told).1.1.1

      at : row_at now.rows p ≡ Some x
      at = ap (λ rs. row_at rs p) first_is ∙ row_first x xs p place_is

      pub first_stands : IsAt now.rows p
      first_stands = ap is_some at

      others : rows_without now.rows p ≡ xs
      others = ap (λ rs. rows_without rs p) first_is ∙ without_first x xs p place_is (subst (λ rs. count_by (λ (y : Placed K V). y.place == p) rs ≤ 1) first_is (valid.places p))

      pub one_back : (then : Recency K V) → then ≡ recency (demoted now.rows p) now.free → PuttingBack count old then (left - 1)
      one_back then is = from s.rest refl
        where
          from : (rest : List (Placed K V)) → s.rest ≡ rest → PuttingBack count old then (left - 1)
          from [] none = absurd (omega (arith, more, s.enough, ap length none))
          from (y ∷ ys) some =
              let both : x ∷ xs ≡ y ∷ (ys ++ s.moved) = sym first_is ∙ rows_are ∙ ap (λ rs. rs ++ s.moved) some in
              record {
                moved = s.moved ++ y ∷ [];
                rest = ys;
                parts = s.parts ∙ ap (λ rs. s.moved ++ rs) some ∙ sym (append_assoc s.moved (y ∷ []) ys);
                now_is =
                    is ∙ ap (λ n. recency (demoted now.rows p) n) (ap (λ (r : Recency K V). r.free) s.now_is)
                    ∙ ap (λ rs. recency rs old.free)
                    (ap (λ o. option_map_or (λ r. rows_without now.rows p ++ r ∷ []) o now.rows) at ∙ ap (λ rs. rs ++ x ∷ []) (others ∙ same_tail x y xs (ys ++ s.moved) both)
                    ∙ ap (λ r. (ys ++ s.moved) ++ r ∷ []) (same_head x y xs (ys ++ s.moved) both) ∙ append_assoc ys s.moved (y ∷ []));
                left_is = omega (arith, more, s.left_is, length-append s.moved (y ∷ []));
                enough = omega (arith, more, s.enough, ap length some);
              }
