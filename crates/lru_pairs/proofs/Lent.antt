-- What another value at a place leaves as it was.
use Rattle.std.proofs.Common.{◌≡◌, ℕ, ◌+◌, true, false, cond, eqb, List, [], ◌∷◌, length, Some, None, refl, sym, ap, ◌∙◌, arith}
use Rattle.std.specs.Prelude.{Option, Bool, is_some, count_by, ◌==◌}
use Rattle.std.specs.Option.{option_map}
use Rattle.std.proofs.lemmas.List.Sums.{sum_by-cons}
use Rattle.lru_rows.specs.Rows.{Placed, placed, row_at, IsAt, with_value}
use Rattle.lru_pairs.specs.Representation.Nodes.{Laid, with_rows, IsLaid}
use Rattle.lru_pairs.proofs.Kept.{keys_value}

module _ {K V : Type 0} where
  same_place : (x : Placed K V) (d : V) (b : Bool) → (cond b (placed x.place x.key d x.weight) x).place ≡ x.place
  same_place x d true = refl
  same_place x d false = refl

  times_value : (rs : List (Placed K V)) (p : ℕ) (d : V) (q : ℕ) → count_by (λ (r : Placed K V). r.place == q) (with_value rs p d) ≡ count_by (λ (r : Placed K V). r.place == q) rs
  times_value [] p d q = refl
  times_value (x ∷ xs) p d q =
      sum_by-cons (λ (r : Placed K V). cond (eqb r.place q) 1 0) (cond (eqb x.place p) (placed x.place x.key d x.weight) x) (with_value xs p d)
      ∙ ap (λ n. cond (eqb n q) 1 0 + count_by (λ (r : Placed K V). r.place == q) (with_value xs p d)) (same_place x d (eqb x.place p))
      ∙ ap (λ n. cond (eqb x.place q) 1 0 + n) (times_value xs p d q)
      ∙ sym (sum_by-cons (λ (r : Placed K V). cond (eqb r.place q) 1 0) x xs)

  length_value : (rs : List (Placed K V)) (p : ℕ) (d : V) → length (with_value rs p d) ≡ length rs
  length_value [] p d = refl
  length_value (x ∷ xs) p d = omega (arith, length_value xs p d)

  has_key : (o : Option (Placed K V)) → is_some (option_map (λ (r : Placed K V). r.key) o) ≡ is_some o
  has_key None = refl
  has_key (Some r) = refl

  at_value : (rs : List (Placed K V)) (p : ℕ) (d : V) (q : ℕ) → IsAt (with_value rs p d) q → IsAt rs q
  at_value rs p d q at = sym (has_key (row_at rs q)) ∙ ap is_some (keys_value rs p d q) ∙ has_key (row_at (with_value rs p d) q) ∙ at

  -- the places stay, so what is known of them stays true
  pub laid_value : (l : Laid K V) (p : ℕ) (d : V) → IsLaid l → IsLaid (with_rows l (with_value l.held.rows p d))
  laid_value l p d is = record {
    once = λ q. omega (arith, times_value l.held.rows p d q, is.once q);
    within = λ q at. is.within q (at_value l.held.rows p d q at);
    wide = omega (arith, length_value l.held.rows p d, is.wide);
    few = is.few;
  }
