-- A row that is pulled out of one shard into another.
use Rattle.std.proofs.Common.{◌≡◌, ℕ, List, Some, None, Ok, Err, refl, sym, ap, ◌∙◌, subst}
use Rattle.std.specs.Prelude.{Option, option_map}
use Rattle.lru_shard.specs.declared.unit.Cause.{Cause}
use Rattle.lru_shard.specs.Row.{Row, row, row_of, pair_of, with_first, without}
use Rattle.lru_shard.specs.Shard.{Shard, shard, size_of, MayRefuse, Accepts}
use Rattle.lru_shard.specs.Unit.{PullsRow, Pulls}
use Rattle.lru_shard.proofs.Edits.{split_row}

module _ {T : Type 0} where
  -- the row of a key has that key
  pub row_key : (rows : List (Row T)) (k : ℕ) (r : Row T) → row_of rows k ≡ Some r → r.key ≡ k
  row_key rows k r h = (split_row rows k r h).1.1.1

  -- the row that a weight was read of
  of_weight : (o : Option (Row T)) (w : ℕ) → Some w ≡ option_map (λ (r : Row T). r.weight) o → (r : Row T) × ((o ≡ Some r) × (r.weight ≡ w))
  of_weight None w h = cc
  of_weight (Some r) w h = (r, (refl, cc))

  of_pair : (o : Option (Row T)) (d : T) (v : ℕ) (r : Row T) → Some (d, v) ≡ option_map pair_of o → o ≡ Some r → r.value ≡ d
  of_pair o d v r h is = let same : Some (d, v) ≡ Some (pair_of r) = h ∙ ap (option_map pair_of) is in
      let pair : (d, v) ≡ pair_of r = cc in sym (ap (λ (p : T × ℕ). p.0) pair)

  -- a row whose weight was read can be taken out
  pub not_gone : (o : Option (Row T)) (w : ℕ) → Some w ≡ option_map (λ (r : Row T). r.weight) o → None ≡ option_map pair_of o → ⊥
  not_gone None w h e = cc
  not_gone (Some r) w h e = cc

  module _ (old new from left : Shard T) (k : ℕ) where
    pub nothing_pulled : None ≡ option_map (λ (r : Row T). r.weight) (row_of from.rows k) → new ≡ old → left ≡ from → Pulls old from k (Ok None) new left
    nothing_pulled h same stays = go (row_of from.rows k) h
      where
        go : (o : Option (Row T)) → None ≡ option_map (λ (r : Row T). r.weight) o → PullsRow old from k o (Ok None) new left
        go None e = (refl, (same, stays))
        go (Some r) e = cc

    module _ (w : ℕ) (read : Some w ≡ option_map (λ (r : Row T). r.weight) (row_of from.rows k)) where
      pub pull_refused : (cause : Cause) → ((d : T) → MayRefuse old.cap (size_of old.rows) (size_of (with_first old.rows (row k d w))) cause) → new ≡ old → left ≡ from → Pulls old from k (Err cause) new left
      pull_refused cause may same stays =
          let found = of_weight (row_of from.rows k) w read in
          let key = row_key from.rows k found.0 found.1.0 in
          subst (λ o. PullsRow old from k o (Err cause) new left) (sym found.1.0) (
            record {
              may = subst (λ j. MayRefuse old.cap (size_of old.rows) (size_of (with_first old.rows (row j found.0.value found.0.weight))) cause) (sym key)
                  (subst (λ v. MayRefuse old.cap (size_of old.rows) (size_of (with_first old.rows (row k found.0.value v))) cause) (sym found.1.1) (may found.0.value));
              left = same;
            },
            stays,
          )

      pub pulled : (d : T) (v : ℕ) → Some (d, v) ≡ option_map pair_of (row_of from.rows k) → Accepts old new (with_first old.rows (row k d w)) → left ≡ shard (without from.rows k) from.cap → Pulls old from k (Ok (Some w)) new left
      pulled d v taken accepts leaves =
          let found = of_weight (row_of from.rows k) w read in
          let key = row_key from.rows k found.0 found.1.0 in
          let value = of_pair (row_of from.rows k) d v found.0 taken found.1.0 in
          subst (λ o. PullsRow old from k o (Ok (Some w)) new left) (sym found.1.0) (
            ap (λ u. Some u) (sym found.1.1),
            (
              subst (λ j. Accepts old new (with_first old.rows (row j found.0.value found.0.weight))) (sym key)
                  (subst (λ u. Accepts old new (with_first old.rows (row k found.0.value u))) (sym found.1.1)
                  (subst (λ e. Accepts old new (with_first old.rows (row k e w))) (sym value) accepts)),
              leaves,
            ),
          )
