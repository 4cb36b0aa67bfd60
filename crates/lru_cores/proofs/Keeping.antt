-- The calls keep the tiers apart.
use Rattle.std.proofs.Common.{◌≡◌, ◌≢◌, ℕ, ◌+◌, ◌-◌, ◌<◌, ◌≤◌, List, [], ◌∷◌, length, Some, None, Ok, Err, refl, sym, ap, ◌∙◌, arith, subst, inl, inr, cond, eqb, false}
use Rattle.std.specs.Prelude.{Option, Result, max, option_map, is_some}
use Rattle.std.specs.Option.{option_map_or}
use Rattle.std.proofs.lemmas.Bool.{cases_eq, true≢false}
use Rattle.std.proofs.lemmas.List.Sums.{sum_by-take-le}
use Rattle.lru_shard.specs.declared.unit.Cause.{Cause}
use Rattle.lru_shard.specs.declared.unit.Refused.{Refused}
use Rattle.lru_shard.specs.Row.{Row, row, is_held, pair_of, times, with_first, without, without_last}
use Rattle.lru_shard.specs.Shard.{Shard}
use Rattle.lru_shard.specs.Unit.{accessed}
use Rattle.lru_shard.proofs.Rows.{times-without_same, times-without_other}
use Rattle.lru_shard.proofs.Edits.{accessed_at}
use Rattle.lru_shard.proofs.Pulls.{row_key}
use Rattle.rand_core.specs.Stream.{Stream}
use Rattle.lru_cores.specs.Core.{Core, list_at, with_list, home}
use Rattle.lru_cores.specs.CoreCalls.{CoreAdmits, CorePulls}
use Rattle.lru_cores.specs.Eviction.{Evicts, EvictionRun}
use Rattle.lru_cores.specs.Tiers.{Tiers, tiers, row_in, core_without, times_in, times_of, IsTier, AreTiers}
use Rattle.lru_cores.proofs.Times.{times_found, times_first, times_first_other, times_with, times_at, with_same, home_in, tier_with, tier_without, tier_first, times_home, times_core_without_same, times_row, absent_same}
use Rattle.lru_cores.proofs.Moving.{moved, not_moved, none_there, times_moved}

module _ {T : Type 0} where
  -- the row that was taken out
  pub of_pair : (o : Option (Row T)) (p : T × ℕ) → Some p ≡ option_map pair_of o → (r : Row T) × (o ≡ Some r)
  of_pair None p h = cc
  of_pair (Some r) p h = (r, refl)

  -- a key that is not held is not put first
  pub unpromoted : (c : Core T) (k : ℕ) (new : Core T) → new ≡ with_list c (home c k) (accessed (list_at c (home c k)) k) → is_held (list_at c (home c k)) k ≡ false → new ≡ c
  unpromoted c k new h none = go (row_in c k) refl none
    where
      go : (o : Option (Row T)) → row_in c k ≡ o → is_some o ≡ false → new ≡ c
      go (Some r) is e = absurd (true≢false e)
      go None is e = h ∙ ap (λ o. with_list c (home c k) (option_map_or (λ (r : Row T). with_first (list_at c (home c k)) r) o (list_at c (home c k)))) is ∙ with_same c (home c k)

  -- a row that leaves a core
  module _ (n : ℕ) (c : Core T) (k : ℕ) (t : IsTier n c) where
    pub times_core_without : (q : ℕ) → times_in q (core_without c k) ≤ times_in q c
    times_core_without q =
        let gone = times_with c (home c k) (home_in n c k t) (without (list_at c (home c k)) k) q in
        elim (cases_eq q k) [
          | inl e ↦ omega (arith, gone, ap (λ j. times j (without (list_at c (home c k)) k)) e, times-without_same k (list_at c (home c k)))
          | inr ne ↦ omega (arith, gone, times-without_other q k (list_at c (home c k)) ne)
        ]

    pub times_core_without_other : (q : ℕ) → q ≢ k → times_in q (core_without c k) ≡ times_in q c
    times_core_without_other q ne = omega (arith, times_with c (home c k) (home_in n c k t) (without (list_at c (home c k)) k) q, times-without_other q k (list_at c (home c k)) ne)

  module _ (n : ℕ) (t : Tiers T) (is : AreTiers n t) where
    pub keeps_removed : (k : ℕ) → AreTiers n (tiers (core_without t.hot k) (core_without t.cold k))
    keeps_removed k = record {
      hot = tier_without n t.hot k is.hot;
      cold = tier_without n t.cold k is.cold;
      apart = λ q. omega (arith, is.apart q, times_core_without n t.hot k is.hot q, times_core_without n t.cold k is.cold q);
    }

    -- a hot key has no cold row
    pub only_hot : (k : ℕ) (r : Row T) → row_in t.hot k ≡ Some r → core_without t.cold k ≡ t.cold
    only_hot k r h = absent_same n t.cold k is.cold (omega (arith, is.apart k, times_row n t.hot k r is.hot h))

    -- one is pulled into the other
    pub keeps_touched : (k w : ℕ) (new left : Core T) → CorePulls t.hot t.cold k (Ok (Some w)) new left → AreTiers n (tiers new left)
    keeps_touched k w new left h =
        let m = moved t.hot t.cold k new left w h in
        record {
          hot = subst (IsTier n) (sym m.new_is) (tier_first n t.hot k is.hot m.row (row_key (list_at t.cold (home t.cold k)) k m.row m.found));
          cold = subst (IsTier n) (sym m.left_is) (tier_without n t.cold k is.cold);
          apart = λ q. omega (arith, is.apart q, times_moved t.hot t.cold k new left n is.hot is.cold m q (is.apart q));
        }

    pub keeps_spilled : (k w : ℕ) (new left : Core T) → CorePulls t.cold t.hot k (Ok (Some w)) new left → AreTiers n (tiers left new)
    keeps_spilled k w new left h =
        let m = moved t.cold t.hot k new left w h in
        record {
          hot = subst (IsTier n) (sym m.left_is) (tier_without n t.hot k is.hot);
          cold = subst (IsTier n) (sym m.new_is) (tier_first n t.cold k is.cold m.row (row_key (list_at t.hot (home t.hot k)) k m.row m.found));
          apart = λ q. omega (arith, is.apart q, times_moved t.cold t.hot k new left n is.cold is.hot m q (omega (arith, is.apart q)));
        }

    pub keeps_pulled : (k : ℕ) (answer : Result (Option ℕ) Cause) (new left : Core T) → CorePulls t.hot t.cold k answer new left → AreTiers n (tiers new left)
    keeps_pulled k (Ok (Some w)) new left h = keeps_touched k w new left h
    keeps_pulled k (Ok None) new left h = let e = none_there t.hot t.cold k new left h in subst (λ z. AreTiers n (tiers new z)) (sym e.1.1) (subst (λ z. AreTiers n (tiers z t.cold)) (sym e.1.0) is)
    keeps_pulled k (Err cause) new left h = let e = not_moved t.hot t.cold k new left cause h in subst (λ z. AreTiers n (tiers new z)) (sym e.1) (subst (λ z. AreTiers n (tiers z t.cold)) (sym e.0) is)

    pub keeps_pushed : (k : ℕ) (answer : Result (Option ℕ) Cause) (new left : Core T) → CorePulls t.cold t.hot k answer new left → AreTiers n (tiers left new)
    keeps_pushed k (Ok (Some w)) new left h = keeps_spilled k w new left h
    keeps_pushed k (Ok None) new left h = let e = none_there t.cold t.hot k new left h in subst (λ z. AreTiers n (tiers left z)) (sym e.1.0) (subst (λ z. AreTiers n (tiers z t.cold)) (sym e.1.1) is)
    keeps_pushed k (Err cause) new left h = let e = not_moved t.cold t.hot k new left cause h in subst (λ z. AreTiers n (tiers left z)) (sym e.0) (subst (λ z. AreTiers n (tiers z t.cold)) (sym e.1) is)

    -- a hot row is put first
    module _ (k : ℕ) (new : Core T) (new_is : new ≡ with_list t.hot (home t.hot k) (accessed (list_at t.hot (home t.hot k)) k)) where
      times_promoted_at : (o : Option (Row T)) → row_in t.hot k ≡ o → (q : ℕ) → times_in q new ≡ times_in q t.hot
      times_promoted_at None none q = ap (times_in q) (new_is ∙ ap (λ o. with_list t.hot (home t.hot k) (option_map_or (λ (r : Row T). with_first (list_at t.hot (home t.hot k)) r) o (list_at t.hot (home t.hot k)))) none ∙ with_same t.hot (home t.hot k))
      times_promoted_at (Some r) found q =
          let rows = list_at t.hot (home t.hot k) in
          let at = home_in n t.hot k is.hot in
          let put = new_is ∙ ap (with_list t.hot (home t.hot k)) (accessed_at rows k r found) in
          let key = row_key rows k r found in
          let sum = times_with t.hot (home t.hot k) at (with_first rows r) q in
          elim (cases_eq q k) [
            | inl e ↦
                let one : times q (with_first rows r) ≡ 1 = ap (λ j. times j (with_first rows r)) (e ∙ sym key) ∙ times_first rows r in
                let here : 0 < times q rows = subst (λ j. 0 < times j rows) (sym e) (times_found rows k r found) in
                omega (arith, sum, one, here, ap (times_in q) put, times_at t.hot (home t.hot k) at q, is.apart q)
            | inr ne ↦ omega (arith, sum, ap (times_in q) put, times_first_other rows r q (λ e. ne (e ∙ key)))
          ]

      pub times_promoted : (q : ℕ) → times_in q new ≡ times_in q t.hot
      times_promoted = times_promoted_at (row_in t.hot k) refl

      tier_promoted : (o : Option (Row T)) → row_in t.hot k ≡ o → IsTier n new
      tier_promoted None none = subst (IsTier n) (sym (new_is ∙ ap (λ o. with_list t.hot (home t.hot k) (option_map_or (λ (r : Row T). with_first (list_at t.hot (home t.hot k)) r) o (list_at t.hot (home t.hot k)))) none ∙ with_same t.hot (home t.hot k))) is.hot
      tier_promoted (Some r) found =
          let rows = list_at t.hot (home t.hot k) in
          subst (IsTier n) (sym (new_is ∙ ap (with_list t.hot (home t.hot k)) (accessed_at rows k r found))) (tier_first n t.hot k is.hot r (row_key rows k r found))

      pub keeps_promoted : AreTiers n (tiers new t.cold)
      keeps_promoted = record {
        hot = tier_promoted (row_in t.hot k) refl;
        cold = is.cold;
        apart = λ q. omega (arith, is.apart q, times_promoted q);
      }

    -- a row is admitted
    module _ (k : ℕ) (d : T) (w s : ℕ) (new : Core T) (h : CoreAdmits t.hot k d w (Ok s) new) where
      put : new ≡ with_list t.hot (home t.hot k) (with_first (list_at t.hot (home t.hot k)) (row k d (max w 1)))
      put = h.1.1.left ∙ ap (with_list t.hot (home t.hot k)) (ap (λ (x : Shard T). x.rows) h.1.1.acts.1.left)

      pub times_admitted : (times_in k new + times_in k (core_without t.cold k) ≡ 1) × ((q : ℕ) → q ≢ k → times_in q new + times_in q (core_without t.cold k) ≡ times_of q t)
      times_admitted =
          let rows = list_at t.hot (home t.hot k) in
          let r = row k d (max w 1) in
          let at = home_in n t.hot k is.hot in (
            omega (arith, ap (times_in k) put, times_with t.hot (home t.hot k) at (with_first rows r) k, times_first rows r, times_home n t.hot is.hot k, times_core_without_same n t.cold k is.cold),
            λ q ne. omega (arith, ap (times_in q) put, times_with t.hot (home t.hot k) at (with_first rows r) q, times_first_other rows r q ne, times_core_without_other n t.cold k is.cold q ne),
          )

      pub keeps_admitted : AreTiers n (tiers new (core_without t.cold k))
      keeps_admitted = record {
        hot = subst (IsTier n) (sym put) (tier_first n t.hot k is.hot (row k d (max w 1)) refl);
        cold = tier_without n t.cold k is.cold;
        apart = λ q. elim (cases_eq q k) [
          | inl e ↦ omega (arith, times_admitted.0, ap (λ j. times_in j new) e, ap (λ j. times_in j (core_without t.cold k)) e)
          | inr ne ↦ omega (arith, is.apart q, times_admitted.1 q ne)
        ];
      }

    pub refused_admit : (k : ℕ) (d : T) (w : ℕ) (r : Refused T) (new : Core T) → CoreAdmits t.hot k d w (Err r) new → new ≡ t.hot
    refused_admit k d w r new h = h.left ∙ ap (with_list t.hot (home t.hot k)) (ap (λ (x : Shard T). x.rows) h.acts.declines.left) ∙ with_same t.hot (home t.hot k)

  -- evictions
  module _ (n : ℕ) where
    pub evicted_in : (old : Core T) (a b : ℕ) (pair : T × ℕ) (new : Core T) (e : Evicts old a b pair new) → e.victim < length old.lists
    evicted_in old a b pair new e = omega (arith, e.is_victim.place, e.is_victim.near)

    step_tier : (old : Core T) (a b : ℕ) (pair : T × ℕ) (new : Core T) → Evicts old a b pair new → IsTier n old → IsTier n new
    step_tier old a b pair new e t =
        let rows = list_at old e.victim in
        let less = tier_with n old e.victim (without_last rows) (evicted_in old a b pair new e) t (λ q h. t.homes e.victim q (omega (arith, h, sum_by-take-le (λ (r : Row T). cond (eqb r.key q) 1 0) rows (length rows - 1)))) in
        subst (IsTier n) (sym e.left) (record { some = less.some; count = less.count; homes = less.homes; unmarked = less.unmarked })

    step_times : (old : Core T) (a b : ℕ) (pair : T × ℕ) (new : Core T) → Evicts old a b pair new → (q : ℕ) → times_in q new ≤ times_in q old
    step_times old a b pair new e q =
        let rows = list_at old e.victim in
        omega (arith, ap (times_in q) e.left, times_with old e.victim (evicted_in old a b pair new e) (without_last rows) q, sum_by-take-le (λ (r : Row T). cond (eqb r.key q) 1 0) rows (length rows - 1))

    pub run_keeps : (old : Core T) (words : Stream) (pairs : List (T × ℕ)) (new : Core T) (rest : Stream) → EvictionRun old words pairs new rest → IsTier n old → IsTier n new × ((q : ℕ) → times_in q new ≤ times_in q old)
    run_keeps old words [] new rest h t = (subst (IsTier n) (sym h.0) t, λ q. omega (arith, ap (times_in q) h.0))
    run_keeps old words (p ∷ ps) new rest h t =
        let more = run_keeps h.0 _ ps new rest h.1.1 (step_tier old _ _ p h.0 h.1.0 t) in
        (more.0, λ q. omega (arith, more.1 q, step_times old _ _ p h.0 h.1.0 q))

  pub keeps_evicted : (n : ℕ) (t : Tiers T) → AreTiers n t → (words : Stream) (pairs : List (T × ℕ)) (new : Core T) (rest : Stream) → EvictionRun t.cold words pairs new rest → AreTiers n (tiers t.hot new)
  keeps_evicted n t is words pairs new rest h =
      let kept = run_keeps n t.cold words pairs new rest h is.cold in
      record { hot = is.hot; cold = kept.0; apart = λ q. omega (arith, is.apart q, kept.1 q) }
