-- A row that goes from one core into another: what its pull leaves, and that each key has as many rows as before.
use Rattle.std.proofs.Common.{◌≡◌, ℕ, ◌+◌, ◌<◌, ◌≤◌, length, Some, None, Ok, Err, refl, sym, ap, ◌∙◌, arith, subst, inl, inr}
use Rattle.std.specs.Prelude.{Option}
use Rattle.std.proofs.lemmas.Bool.{cases_eq}
use Rattle.lru_shard.specs.declared.unit.Cause.{Cause}
use Rattle.lru_shard.specs.Row.{Row, times, with_first, without}
use Rattle.lru_shard.specs.Shard.{Shard, shard}
use Rattle.lru_shard.specs.Unit.{PullsRow}
use Rattle.lru_shard.proofs.Rows.{times-without_same, times-without_other}
use Rattle.lru_shard.proofs.Pulls.{row_key}
use Rattle.lru_shard.specs.Limits.{cap_of}
use Rattle.lru_cores.specs.Core.{Core, list_at, with_list, home, shard_at}
use Rattle.lru_cores.specs.CoreCalls.{CorePulls}
use Rattle.lru_cores.specs.Tiers.{row_in, core_without, times_in, IsTier}
use Rattle.lru_cores.proofs.Times.{times_found, times_first, times_first_other, times_with, times_at, with_same, home_in}

module _ {T : Type 0} where
  module _ (to from : Core T) (k : ℕ) (new left : Core T) where
    -- a row has been moved
    pub record Moved : Type 0 where
      pub row : Row T
      pub found : row_in from k ≡ Some row
      pub new_is : new ≡ with_list to (home to k) (with_first (list_at to (home to k)) row)
      pub left_is : left ≡ core_without from k

    pub moved : (w : ℕ) → CorePulls to from k (Ok (Some w)) new left → Moved
    moved w h = go (row_in from k) refl h.acts.acts
      where
        go : (o : Option (Row T)) → row_in from k ≡ o → PullsRow (shard_at to (home to k)) (shard_at from (home from k)) k o (Ok (Some w)) (shard h.rows (cap_of (length to.lists))) (shard h.acts.rows (cap_of (length from.lists))) → Moved
        go None is p = let bad : Some w ≡ None = p.0 in cc
        go (Some r) is p = record {
          row = r;
          found = is;
          new_is = h.left ∙ ap (with_list to (home to k)) (ap (λ (s : Shard T). s.rows) p.1.0.left);
          left_is = h.acts.left ∙ ap (with_list from (home from k)) (ap (λ (s : Shard T). s.rows) p.1.1);
        }

    pub not_moved : (cause : Cause) → CorePulls to from k (Err cause) new left → (new ≡ to) × (left ≡ from)
    not_moved cause h = go (row_in from k) h.acts.acts
      where
        go : (o : Option (Row T)) → PullsRow (shard_at to (home to k)) (shard_at from (home from k)) k o (Err cause) (shard h.rows (cap_of (length to.lists))) (shard h.acts.rows (cap_of (length from.lists))) → (new ≡ to) × (left ≡ from)
        go None p = absurd p
        go (Some r) p = (
          h.left ∙ ap (with_list to (home to k)) (ap (λ (s : Shard T). s.rows) p.0.left) ∙ with_same to (home to k),
          h.acts.left ∙ ap (with_list from (home from k)) (ap (λ (s : Shard T). s.rows) p.1) ∙ with_same from (home from k),
        )

    pub none_there : CorePulls to from k (Ok None) new left → (row_in from k ≡ None) × ((new ≡ to) × (left ≡ from))
    none_there h = go (row_in from k) h.acts.acts
      where
        go : (o : Option (Row T)) → PullsRow (shard_at to (home to k)) (shard_at from (home from k)) k o (Ok None) (shard h.rows (cap_of (length to.lists))) (shard h.acts.rows (cap_of (length from.lists))) → (o ≡ None) × ((new ≡ to) × (left ≡ from))
        go (Some r) p = let bad : None ≡ Some r.weight = p.0 in cc
        go None p = (
          refl,
          (
            h.left ∙ ap (with_list to (home to k)) (ap (λ (s : Shard T). s.rows) p.1.0) ∙ with_same to (home to k),
            h.acts.left ∙ ap (with_list from (home from k)) (ap (λ (s : Shard T). s.rows) p.1.1) ∙ with_same from (home from k),
          ),
        )

    -- each key has as many rows in both as before
    module _ (n : ℕ) (is_to : IsTier n to) (is_from : IsTier n from) (m : Moved) where
      there : 0 < times k (list_at from (home from k))
      there = times_found (list_at from (home from k)) k m.row m.found

      key : m.row.key ≡ k
      key = row_key (list_at from (home from k)) k m.row m.found

      pub times_moved : (q : ℕ) → times_in q to + times_in q from ≤ 1 → times_in q new + times_in q left ≡ times_in q to + times_in q from
      times_moved q apart =
          let to_in = home_in n to k is_to in
          let from_in = home_in n from k is_from in
          let come = times_with to (home to k) to_in (with_first (list_at to (home to k)) m.row) q in
          let gone = times_with from (home from k) from_in (without (list_at from (home from k)) k) q in
          let at_to = times_at to (home to k) to_in q in
          let at_from = times_at from (home from k) from_in q in
          let new_is = ap (times_in q) m.new_is in
          let left_is = ap (times_in q) m.left_is in
          elim (cases_eq q k) [
            | inl e ↦
                let one : times q (with_first (list_at to (home to k)) m.row) ≡ 1 = ap (λ j. times j (with_first (list_at to (home to k)) m.row)) (e ∙ sym key) ∙ times_first (list_at to (home to k)) m.row in
                let none : times q (without (list_at from (home from k)) k) ≡ 0 = ap (λ j. times j (without (list_at from (home from k)) k)) e ∙ times-without_same k (list_at from (home from k)) in
                let here : 0 < times q (list_at from (home from k)) = subst (λ j. 0 < times j (list_at from (home from k))) (sym e) there in
                omega (arith, come, gone, at_to, at_from, new_is, left_is, one, none, here, apart)
            | inr ne ↦
                let same_to = times_first_other (list_at to (home to k)) m.row q (λ e. ne (e ∙ key)) in
                let same_from = times-without_other q k (list_at from (home from k)) ne in
                omega (arith, come, gone, at_to, at_from, new_is, left_is, same_to, same_from)
          ]
