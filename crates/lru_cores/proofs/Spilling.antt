-- What a spill is, and runs of spills.
use Rattle.std.proofs.Common.{◌≡◌, ℕ, ◌+◌, ◌<◌, List, [], ◌∷◌, ◌++◌, length, Some, None, Ok, Err, refl, sym, ap, ◌∙◌, arith, subst, true}
use Rattle.std.specs.Prelude.{Option, Result}
use Rattle.std.proofs.lemmas.Bool.{false≢true}
use Rattle.std.proofs.lemmas.List.Sums.{sum_by-set}
use Rattle.lru_shard.specs.declared.unit.Cause.{Cause}
use Rattle.lru_shard.specs.Row.{Row, times, without}
use Rattle.lru_shard.proofs.Edits.{at_row, length-without}
use Rattle.lru_shard.proofs.UnitCalls.{times_none}
use Rattle.rand_core.specs.Stream.{Stream}
use Rattle.lru_shard.specs.Draws.{drawn_shards}
use Rattle.lru_cores.specs.Core.{Core, core_len, list_at, home}
use Rattle.lru_cores.specs.CoreCalls.{CorePulls}
use Rattle.lru_cores.specs.Eviction.{is_over, NamesVictim}
use Rattle.lru_cores.specs.Tiers.{Tiers, tiers, row_in, times_in, AreTiers}
use Rattle.lru_cores.specs.TierCalls.{Spills, SpillRun, StopsSpilling}
use Rattle.lru_cores.proofs.Times.{times_last, times_at, home_in, none_in, times_home}
use Rattle.lru_cores.proofs.Moving.{moved, not_moved, none_there}

module _ {T : Type 0} where
  -- a victim's key has a row
  pub victim_there : (c : Core T) (a b k : ℕ) → NamesVictim c a b (Some k) → 0 < times_in k c
  victim_there c a b k v =
      let e = v.1.1.0 in
      let is = v.1.1.1 in
      let at : e.victim < length c.lists = omega (arith, e.is_victim.place, e.is_victim.near) in
      let here : 0 < times k (list_at c e.victim) = subst (λ j. 0 < times j (list_at c e.victim)) (sym is) (times_last (list_at c e.victim) e.row e.last) in
      omega (arith, here, times_at c e.victim at k)

  module _ (n : ℕ) (t : Tiers T) (is : AreTiers n t) (a b k : ℕ) (v : NamesVictim t.hot a b (Some k)) where
    -- it has no cold row
    pub victim_not_cold : row_in t.cold k ≡ None
    victim_not_cold = none_in n t.cold k is.cold (omega (arith, is.apart k, victim_there t.hot a b k v))

    -- and is found in its own shard
    pub victim_pulled : (answer : Result (Option ℕ) Cause) (new left : Core T) → CorePulls t.cold t.hot k answer new left → answer ≡ Ok None → ⊥
    victim_pulled answer new left h e =
        let none = (none_there t.cold t.hot k new left (subst (λ z. CorePulls t.cold t.hot k z new left) e h)).0 in
        omega (arith, times_none (list_at t.hot (home t.hot k)) k none, times_home n t.hot is.hot k, victim_there t.hot a b k v)

    pub spilled : (w : ℕ) (new left : Core T) → CorePulls t.cold t.hot k (Ok (Some w)) new left → Spills t a b (Ok (Some k)) (tiers left new)
    spilled w new left h = (v, (w, h))

    pub not_spilled : (cause : Cause) (new left : Core T) → CorePulls t.cold t.hot k (Err cause) new left → Spills t a b (Err cause) (tiers left new)
    not_spilled cause new left h = let e = not_moved t.cold t.hot k new left cause h in (k, (v, (h, ap (λ z. tiers z new) e.1 ∙ ap (tiers t.hot) e.0)))

  -- a spill makes the hot core shorter by one row
  pub shorter : (n : ℕ) (t : Tiers T) → AreTiers n t → (a b k : ℕ) (new : Tiers T) → Spills t a b (Ok (Some k)) new → core_len new.hot + 1 ≡ core_len t.hot
  shorter n t is a b k new h =
      let m = moved t.cold t.hot k new.cold new.hot h.1.0 h.1.1 in
      let rows = list_at t.hot (home t.hot k) in
      let at = home_in n t.hot k is.hot in
      let split = at_row rows k m.row (λ q. omega (arith, times_at t.hot (home t.hot k) at q, is.apart q)) m.found in
      omega (arith, ap core_len m.left_is, sum_by-set (λ (rs : List (Row T)). length rs) t.hot.lists (home t.hot k) (without rows k) [] at, length-without rows k m.row split)

  -- of an over hot core a row is spilled, or it is refused
  pub spills_one : (t : Tiers T) (a b : ℕ) (answer : Result (Option ℕ) Cause) (new : Tiers T) → is_over t.hot ≡ true → ((cause : Cause) → answer ≡ Err cause → ⊥) → Spills t a b answer new → (k : ℕ) × Spills t a b (Ok (Some k)) new
  spills_one t a b (Ok (Some k)) new over ok h = (k, h)
  spills_one t a b (Ok None) new over ok h = absurd (false≢true (sym h.0 ∙ over))
  spills_one t a b (Err cause) new over ok h = absurd (ok cause refl)

  -- a run goes on by one spill
  pub run_push : (n : ℕ) (old : Tiers T) (words : Stream) (keys : List ℕ) (mid : Tiers T) (left : Stream) (drawn : ℕ × ℕ) (rest : Stream) (k : ℕ) (new : Tiers T) → n ≡ length mid.hot.lists → (drawn, rest) ≡ drawn_shards n left
      → SpillRun old words keys mid left → Spills mid drawn.0 drawn.1 (Ok (Some k)) new → SpillRun old words (keys ++ k ∷ []) new rest
  run_push n old words [] mid left drawn rest k new long draws run h =
      let at : (drawn, rest) ≡ drawn_shards (length old.hot.lists) words = draws ∙ ap (λ m. drawn_shards m left) (long ∙ ap (λ (t : Tiers T). length t.hot.lists) run.0) ∙ ap (drawn_shards (length old.hot.lists)) run.1 in
      let here : Spills old drawn.0 drawn.1 (Ok (Some k)) new = subst (λ (z : Tiers T). Spills z drawn.0 drawn.1 (Ok (Some k)) new) run.0 h in
      (new, (subst (λ (d : (ℕ × ℕ) × Stream). Spills old d.0.0 d.0.1 (Ok (Some k)) new) at here, (refl, ap (λ (d : (ℕ × ℕ) × Stream). d.1) at)))
  run_push n old words (j ∷ js) mid left drawn rest k new long draws run h =
      (run.0, (run.1.0, run_push n run.0 _ js mid left drawn rest k new long draws run.1.1 h))

  -- a run ends where a spill is refused
  pub stops : (n : ℕ) (old : Tiers T) (words : Stream) (mid : Tiers T) (left : Stream) (drawn : ℕ × ℕ) (rest : Stream) (cause : Cause) (new : Tiers T) → n ≡ length mid.hot.lists → (drawn, rest) ≡ drawn_shards n left
      → (keys : List ℕ) × SpillRun old words keys mid left → Spills mid drawn.0 drawn.1 (Err cause) new → StopsSpilling old words cause new rest
  stops n old words mid left drawn rest cause new long draws run h =
      let same : new ≡ mid = h.1.1.1 in
      record {
        keys = run.0;
        left = left;
        run = subst (λ (z : Tiers T). SpillRun old words run.0 z left) (sym same) run.1;
        drawn = drawn;
        draws = draws ∙ ap (λ m. drawn_shards m left) (long ∙ ap (λ (t : Tiers T). length t.hot.lists) (sym same));
        refused = subst (λ (z : Tiers T). Spills z drawn.0 drawn.1 (Err cause) new) (sym same) h;
      }
