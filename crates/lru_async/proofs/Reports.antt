-- A shard more of a save.
use Rattle.std.proofs.Common.{◌≡◌, ℕ, ◌+◌, ◌<◌, List, [], ◌∷◌, Some, None, sym, refl, ap, ◌∙◌, subst, arith}
use Rattle.std.specs.Prelude.{Option, Result, Ok, Err, option_map}
use Rattle.std.specs.Option.{ForSome}
use Rattle.lru_short_locks.proofs.Hands.{some_same, none_some}
use Rattle.lru_async.specs.declared.async_lru.ShardData.{ShardData}
use Rattle.lru_async.specs.declared.saving.SaveReport.{SaveReport}
use Rattle.lru_async.specs.Saving.{added, report_of, HandsOn, AreSaved, IsReport}

-- how many shards a report tells of
abbrev pub told_of : SaveReport → ℕ
told_of r = r.written + (r.refused + r.missing)

module _ {K E : Type 0} where
  one_added : (end : Option (ShardData K × Result (Unit {0}) E)) (r : SaveReport) → told_of (added end r) ≡ told_of r + 1
  one_added None r = omega arith
  one_added (Some (rows, Ok _)) r = omega arith
  one_added (Some (rows, Err _)) r = omega arith

  module _ (Gives : ShardData K → Result (Unit {0}) E → Type 0) (Has : ShardData K → Type 0) where
    saved_count : (count : ℕ) (ends : List (Option (ShardData K × Result (Unit {0}) E))) → AreSaved Gives Has count ends → told_of (report_of ends) ≡ count
    saved_count count [] s = sym s
    saved_count count (end ∷ ends) s =
        let ih = saved_count s.0 ends s.3 in
        let one = one_added end (report_of ends) in
        omega (arith, ih, one, s.1)

    -- each shard is counted once
    pub all_told : (count : ℕ) (report : SaveReport) → IsReport Gives Has count report → told_of report ≡ count
    all_told count report s = ap told_of s.2 ∙ saved_count count s.0 s.1

    pub none_saved : (report : SaveReport) → (report.written ≡ 0) × (report.refused ≡ 0) × (report.missing ≡ 0) → IsReport Gives Has 0 report
    none_saved report z = ([], refl, λ i. record { written = z.0 i; refused = z.1 i; missing = z.2 i })

    -- what was handed on has the number of the shard
    handed : (rows : Option (ShardData K)) (end : Option (ShardData K × Result (Unit {0}) E)) (shard : ℕ) → option_map (λ e. e.0) end ≡ rows → ForSome end (λ e. Gives e.0 e.1) → ForSome rows (λ r. (r.shard_index ≡ shard) × Has r)
        → ForSome end (λ e. (e.0.shard_index ≡ shard) × Has e.0 × Gives e.0 e.1)
    handed rows None shard is gives has = λ e at. absurd (none_some e at)
    handed rows (Some f) shard is gives has = λ e at.
        let h = has f.0 (sym is) in
        subst (λ x. (x.0.shard_index ≡ shard) × Has x.0 × Gives x.0 x.1) (some_same f e at) (h.0, h.1, gives f refl)

    pub saved_more : (shard : ℕ) (rows : Option (ShardData K)) (old new : SaveReport) → IsReport Gives Has shard old → HandsOn Gives rows old new → ForSome rows (λ r. (r.shard_index ≡ shard) × Has r) → IsReport Gives Has (shard + 1) new
    saved_more shard rows old new s h has =
        (h.0 ∷ s.0, (shard, refl, handed rows h.0 shard h.1 h.2 has, s.1), h.3 ∙ ap (added h.0) s.2)

  -- rows that were handed on
  pub handed_one : (Gives : ShardData K → Result (Unit {0}) E → Type 0) (rows : ShardData K) (answer : Result (Unit {0}) E) (o : Option (ShardData K)) (old new : SaveReport)
      → o ≡ Some rows → Gives rows answer → new ≡ added (Some (rows, answer)) old → HandsOn Gives o old new
  handed_one Gives rows answer o old new is gives e =
      (Some (rows, answer), sym is, (λ x at. subst (λ f. Gives f.0 f.1) (some_same (rows, answer) x at) gives), e)

  module _ (Gives : ShardData K → Result (Unit {0}) E → Type 0) (Has Can : ShardData K → Type 0) (can : (rows : ShardData K) → Has rows → Can rows) where
    saved_ends : (count : ℕ) (ends : List (Option (ShardData K × Result (Unit {0}) E))) → AreSaved Gives Has count ends → AreSaved Gives Can count ends
    saved_ends count [] s = s
    saved_ends count (end ∷ ends) s = (s.0, s.1, (λ e at. let h = s.2 e at in (h.0, can e.0 h.1, h.2)), saved_ends s.0 ends s.3)

    pub saved_as : (count : ℕ) (report : SaveReport) → IsReport Gives Has count report → IsReport Gives Can count report
    saved_as count report s = (s.0, saved_ends count s.0 s.1, s.2)
