-- What a call does not do: it brings in no key of another shard.
use Rattle.std.proofs.Common.{◌≡◌, ℕ, ◌%◌, ◌<◌, ◌≤◌, ◌-◌, cond, eqb, List, length, Some, None, Ok, Err, refl, sym, ap, ◌∙◌, arith, inl, inr, [], ◌∷◌}
use Rattle.std.specs.Prelude.{Option, Result, max}
use Rattle.std.specs.Option.{option_map_or}
use Rattle.std.proofs.lemmas.Bool.{cases_eq, cases_lt, ne_eqb}
use Rattle.std.proofs.lemmas.List.Sums.{sum_by-take-le}
use Rattle.lru_shard.specs.declared.unit.Cause.{Cause}
use Rattle.lru_shard.specs.Row.{Row, row_of, times, with_first, without, without_last}
use Rattle.lru_shard.specs.Shard.{Shard, shard}
use Rattle.lru_shard.specs.Unit.{SetsWeight, accessed}
use Rattle.lru_shard.proofs.Rows.{times_no, times-without_other, row_of_absent}
use Rattle.lru_shard.proofs.Edits.{times-without-le, times-with_weight}
use Rattle.lru_shard.proofs.Pulls.{row_key}
use Rattle.lru_shard.proofs.EditsOf.{Edit, edits_admit}
use Rattle.lru_shard.specs.Shards.{AreAtHome}
use Rattle.lru_shared_order.specs.declared.admission.Admission.{Admission}
use Rattle.lru_shared_order.specs.declared.admission.Fate.{Fate}
use Rattle.lru_shared_order.specs.declared.admission.Fate.TheVariants.{Waiting, Admitted, HandedBack}
use Rattle.lru_shared_order.specs.Batches.{IsAsked, AdmitsOne, AdmitsEach}
use Rattle.lru_shared_order.proofs.Answered.{in_turn}

module _ {T : Type 0} (n s : ℕ) where
  -- a call on a key of this shard
  pub home_edit : (k : ℕ) (a b : Shard T) → Edit k a b → k % n ≡ s → AreAtHome n s a.rows → AreAtHome n s b.rows
  home_edit k a b e own all j h = elim (e.fresh j h) [ inl old ↦ all j old | inr new ↦ ap (λ x. x % n) new ∙ own ]

  -- no more rows of any key
  pub home_fewer : (a b : Shard T) → ((j : ℕ) → times j b.rows ≤ times j a.rows) → AreAtHome n s a.rows → AreAtHome n s b.rows
  home_fewer a b fewer all j h = all j (omega (arith, h, fewer j))

  pub home_set : (k w : ℕ) (a b : Shard T) (answer : Result (Option ℕ) Cause) → SetsWeight a k w answer b → AreAtHome n s a.rows → AreAtHome n s b.rows
  home_set k w a b (Ok was) h all = home_fewer a b (λ j. omega (arith, ap (λ (u : Shard T). times j u.rows) h.1.left, times-with_weight a.rows k w j)) all
  home_set k w a b (Err cause) h all = home_fewer a b (λ j. omega (arith, ap (λ (u : Shard T). times j u.rows) h.left)) all

  pub home_remove : (k : ℕ) (a b : Shard T) → b ≡ shard (without a.rows k) a.cap → AreAtHome n s a.rows → AreAtHome n s b.rows
  home_remove k a b e all = home_fewer a b (λ j. omega (arith, ap (λ (u : Shard T). times j u.rows) e, times-without-le j k a.rows)) all

  pub home_evict : (a b : Shard T) → b ≡ shard (without_last a.rows) a.cap → AreAtHome n s a.rows → AreAtHome n s b.rows
  home_evict a b e all = home_fewer a b (λ j. omega (arith, ap (λ (u : Shard T). times j u.rows) e, sum_by-take-le (λ (r : Row T). cond (eqb r.key j) 1 0) a.rows (length a.rows - 1))) all

  pub has_row : (k : ℕ) (rows : List (Row T)) (r : Row T) → row_of rows k ≡ Some r → 0 < times k rows
  has_row k rows r found =
      elim (cases_lt 0 (times k rows)) [
        | inl some ↦ some
        | inr none ↦ absurd (let bad : Some r ≡ None = sym found ∙ row_of_absent k rows (omega (arith, none)) in cc)
      ]

  -- a key that is put first has a row already, so it is at home
  home_row : (k : ℕ) (a b : Shard T) (o : Option (Row T)) → row_of a.rows k ≡ o → b.rows ≡ option_map_or (λ (r : Row T). with_first a.rows r) o a.rows → AreAtHome n s a.rows → AreAtHome n s b.rows
  home_row k a b None found e all = home_fewer a b (λ j. omega (arith, ap (times j) e)) all
  home_row k a b (Some r) found e all = λ j h.
      elim (cases_eq j r.key) [
        | inl is ↦ ap (λ x. x % n) (is ∙ row_key a.rows k r found) ∙ all k (has_row k a.rows r found)
        | inr ne ↦ all j (omega (arith, h, ap (times j) e, times_no j r (without a.rows r.key) (ne_eqb r.key j (λ q. ne (sym q))), times-without_other j r.key a.rows ne))
      ]

  pub home_access : (k : ℕ) (a b : Shard T) → b ≡ shard (accessed a.rows k) a.cap → AreAtHome n s a.rows → AreAtHome n s b.rows
  home_access k a b e all = home_row k a b (row_of a.rows k) refl (ap (λ (u : Shard T). u.rows) e) all

  asked_home : (k w : ℕ) (x y : Fate T) (a b : Shard T) → IsAsked s a k w x y b → k % n ≡ s → AreAtHome n s a.rows → AreAtHome n s b.rows
  asked_home k w (Waiting d) (Waiting e) a b h own all = absurd h
  asked_home k w (Waiting d) (Admitted at) a b h own all = home_edit k a b (edits_admit a k d (max w 1) (Ok h.1.0) b h.1.1) own all
  asked_home k w (Waiting d) (HandedBack r) a b h own all = home_edit k a b (edits_admit a k d (max w 1) (Err r) b h) own all
  asked_home k w (Admitted at) y a b h own all = absurd h
  asked_home k w (HandedBack r) y a b h own all = absurd h

  one_home : (x y : Admission T) (a b : Shard T) → AdmitsOne n s a x y b → AreAtHome n s a.rows → AreAtHome n s b.rows
  one_home x y a b h all =
      elim (in_turn n s a b x y h) [
        | inl mine ↦ asked_home x.key x.weight x.fate y.fate a b mine.1 mine.0 all
        | inr others ↦ home_fewer a b (λ j. omega (arith, ap (λ (u : Shard T). times j u.rows) others.1)) all
      ]

  -- a batch, as far as it is for this shard
  pub home_each : (batch answered : List (Admission T)) (a b : Shard T) → AdmitsEach n s a batch answered b → AreAtHome n s a.rows → AreAtHome n s b.rows
  home_each [] [] a b h all = home_fewer a b (λ j. omega (arith, ap (λ (u : Shard T). times j u.rows) h)) all
  home_each [] (y ∷ answered) a b h all = absurd h
  home_each (x ∷ batch) [] a b h all = absurd h
  home_each (x ∷ batch) (y ∷ answered) a b h all = home_each batch answered h.0 b h.1.1 (one_home x y a h.0 h.1.0 all)
