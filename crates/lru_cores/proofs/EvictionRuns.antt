-- Laws of runs of evictions.
use Rattle.std.proofs.Common.{◌≡◌, ℕ, ◌+◌, ◌-◌, ◌<◌, ◌≤◌, zero, suc, true, List, [], ◌∷◌, ◌++◌, length, take, set, get_or, Some, None, refl, sym, ap, ◌∙◌, arith, subst, inl, inr}
use Rattle.std.specs.Prelude.{Option}
use Rattle.std.proofs.lemmas.Bool.{cases_lt, false≢true}
use Rattle.std.proofs.lemmas.List.{length-set, take_all, get_or-set_same, set-get_or}
use Rattle.std.proofs.lemmas.List.Sums.{sum_by-set}
use Rattle.lru_shard.specs.Row.{Row, without_last}
use Rattle.rand_core.specs.Stream.{Stream}
use Rattle.lru_shard.specs.Draws.{drawn_shards}
use Rattle.lru_cores.specs.Core.{Core, list_at, with_list, core_len}
use Rattle.lru_cores.specs.Eviction.{is_over, evicted, Evicts, EvictsWhereOver, EvictionRun, KeepsLongestFront}
use Rattle.lru_shard.proofs.LastRows.{length-without_last}

-- the front of a front
pub take_take : {A : Type 0} (m n : ℕ) (xs : List A) → m ≤ n → take m (take n xs) ≡ take m xs
take_take zero n xs h = refl
take_take (suc m) zero xs h = absurd (omega arith)
take_take (suc m) (suc n) [] h = refl
take_take (suc m) (suc n) (x ∷ xs) h = ap (λ ys. x ∷ ys) (take_take m n xs (omega arith))

-- the last write to a place stands
set_set : {A : Type 0} (xs : List A) (i : ℕ) (x y : A) → set (set xs i x) i y ≡ set xs i y
set_set [] i x y = refl
set_set (z ∷ zs) zero x y = refl
set_set (z ∷ zs) (suc i) x y = ap (λ ys. z ∷ ys) (set_set zs i x y)

module _ {T : Type 0} where
  pub lists_long : (old : Core T) (a b : ℕ) (pair : T × ℕ) (new : Core T) → Evicts old a b pair new → length new.lists ≡ length old.lists
  lists_long old a b pair new e = ap (λ (c : Core T). length c.lists) e.left ∙ length-set old.lists e.victim (without_last (list_at old e.victim))

  victim_in : (old : Core T) (a b : ℕ) (pair : T × ℕ) (new : Core T) (e : Evicts old a b pair new) → e.victim < length old.lists
  victim_in old a b pair new e = omega (arith, e.is_victim.place, e.is_victim.near)

  -- each eviction makes the core shorter by one row
  pub shorter : (old : Core T) (a b : ℕ) (pair : T × ℕ) (new : Core T) → Evicts old a b pair new → core_len new + 1 ≡ core_len old
  shorter old a b pair new e =
      let at = victim_in old a b pair new e in
      let less = length-without_last (list_at old e.victim) e.row e.last in
      omega (arith, ap core_len e.left, sum_by-set (λ (rows : List (Row T)). length rows) old.lists e.victim (without_last (list_at old e.victim)) [] at, less)

  -- a run goes on by one eviction
  pub run_push : (old : Core T) (words : Stream) (pairs : List (T × ℕ)) (mid : Core T) (left : Stream) (n : ℕ) (drawn : ℕ × ℕ) (rest : Stream) (pair : T × ℕ) (new : Core T) → n ≡ length mid.lists → (drawn, rest) ≡ drawn_shards n left
      → EvictionRun old words pairs mid left → Evicts mid drawn.0 drawn.1 pair new → EvictionRun old words (pairs ++ pair ∷ []) new rest
  run_push old words [] mid left n drawn rest pair new long draws run e =
      let at : (drawn, rest) ≡ drawn_shards (length old.lists) words = draws ∙ ap (λ m. drawn_shards m left) (long ∙ ap (λ (c : Core T). length c.lists) run.0) ∙ ap (drawn_shards (length old.lists)) run.1 in
      let here : Evicts old drawn.0 drawn.1 pair new = subst (λ (z : Core T). Evicts z drawn.0 drawn.1 pair new) run.0 e in
      (new, (subst (λ (d : (ℕ × ℕ) × Stream). Evicts old d.0.0 d.0.1 pair new) at here, (refl, ap (λ (d : (ℕ × ℕ) × Stream). d.1) at)))
  run_push old words (p ∷ ps) mid left n drawn rest pair new long draws run e =
      (run.0, (run.1.0, run_push run.0 _ ps mid left n drawn rest pair new long draws run.1.1 e))

  pub run_long : (old : Core T) (words : Stream) (pairs : List (T × ℕ)) (new : Core T) (rest : Stream) → EvictionRun old words pairs new rest → length new.lists ≡ length old.lists
  run_long old words [] new rest run = ap (λ (c : Core T). length c.lists) run.0
  run_long old words (p ∷ ps) new rest run = run_long run.0 _ ps new rest run.1.1 ∙ lists_long old _ _ p run.0 run.1.0

  -- what a step of an over core is
  pub step_of : (old : Core T) (a b : ℕ) (answer : Option (T × ℕ)) (pair : T × ℕ) (new : Core T) → EvictsWhereOver old a b answer new → answer ≡ Some pair → Evicts old a b pair new
  step_of old a b answer pair new h e = subst (λ o. EvictsWhereOver old a b o new) e h

  pub no_step : (old : Core T) (a b : ℕ) (answer : Option (T × ℕ)) (new : Core T) → EvictsWhereOver old a b answer new → answer ≡ None → is_over old ≡ true → ⊥
  no_step old a b answer new h e over = let none = subst (λ o. EvictsWhereOver old a b o new) e h in false≢true (sym none.0 ∙ over)

  -- with one shard a run keeps the longest front within the limits
  one_victim : (old : Core T) (a b : ℕ) (pair : T × ℕ) (new : Core T) (e : Evicts old a b pair new) → length old.lists ≡ 1 → e.victim ≡ 0
  one_victim old a b pair new e one = omega (arith, one, victim_in old a b pair new e)

  step_rows : (old : Core T) (a b : ℕ) (pair : T × ℕ) (new : Core T) → Evicts old a b pair new → length old.lists ≡ 1 → list_at new 0 ≡ without_last (list_at old 0)
  step_rows old a b pair new e one =
      ap (λ (c : Core T). get_or c.lists 0 []) e.left
      ∙ ap (λ v. get_or (set old.lists v (without_last (list_at old v))) 0 []) (one_victim old a b pair new e one)
      ∙ get_or-set_same old.lists 0 (without_last (list_at old 0)) [] (omega (arith, one))

  -- whether it is over depends on the rows and the limits
  same_over : (old : Core T) (a b : ℕ) (pair : T × ℕ) (new : Core T) → Evicts old a b pair new → length old.lists ≡ 1 → (rows : List (Row T)) → is_over (with_list new 0 rows) ≡ is_over (with_list old 0 rows)
  same_over old a b pair new e one rows =
      ap (λ (c : Core T). is_over (with_list c 0 rows)) e.left
      ∙ ap (λ v. is_over (with_list (evicted old v e.row) 0 rows)) (one_victim old a b pair new e one)
      ∙ ap (λ ls. is_over (record old { lists = ls })) (set_set old.lists 0 (without_last (list_at old 0)) rows)

  pub longest_front : (old : Core T) (words : Stream) (pairs : List (T × ℕ)) (new : Core T) (rest : Stream) → length old.lists ≡ 1 → EvictionRun old words pairs new rest → KeepsLongestFront old new
  longest_front old words [] new rest one run = record {
    kept = length (list_at old 0);
    within = omega arith;
    rows = ap (λ (c : Core T). list_at c 0) run.0 ∙ sym (take_all (length (list_at old 0)) (list_at old 0) (omega arith));
    longest = λ n lt le. absurd (omega arith);
  }
  longest_front old words (p ∷ ps) new left one run =
      let e = run.1.0 in
      let mid = run.0 in
      let less = length-without_last (list_at old e.victim) e.row e.last in
      let at = one_victim old _ _ p mid e one in
      let shorter_by : length (without_last (list_at old 0)) + 1 ≡ length (list_at old 0) = ap (λ v. length (without_last (list_at old v)) + 1) (sym at) ∙ less ∙ ap (λ v. length (list_at old v)) at in
      let rows = step_rows old _ _ p mid e one in
      let rest = longest_front mid _ ps new left (lists_long old _ _ p mid e ∙ one) run.1.1 in
      let fewer : rest.kept ≤ length (list_at old 0) - 1 = omega (arith, rest.within, ap length rows, shorter_by) in
      record {
        kept = rest.kept;
        within = omega (arith, fewer);
        rows = rest.rows ∙ ap (take rest.kept) rows ∙ take_take rest.kept (length (list_at old 0) - 1) (list_at old 0) fewer;
        longest = λ n lt le. elim (cases_lt n (length (list_at old 0))) [
          | inl inside ↦
              sym (same_over old _ _ p mid e one (take n (list_at old 0)))
              ∙ ap (λ rs. is_over (with_list mid 0 rs)) (sym (ap (take n) rows ∙ take_take n (length (list_at old 0) - 1) (list_at old 0) (omega arith)))
              ∙ rest.longest n lt (omega (arith, ap length rows, shorter_by))
          | inr all ↦
              ap (λ rs. is_over (with_list old 0 rs)) (take_all n (list_at old 0) all) ∙ ap (λ ls. is_over (record old { lists = ls })) (set-get_or old.lists 0 []) ∙ e.over
        ];
      }
