-- What one unit's `evict` does to a core, and which rows an empty or a promoted shard has.
use Rattle.std.proofs.Common.{◌≡◌, ℕ, ◌+◌, ◌-◌, ◌%◌, ◌^◌, ◌<◌, true, false, cond, eqb, List, [], ◌∷◌, inl, inr, length, take, set, get_or, Some, None, refl, sym, ap, ◌∙◌, arith, subst, zero, suc}
use Rattle.std.specs.Prelude.{Option, option_map, is_some, replicate, MatchOption}
use Rattle.std.specs.Option.{option_copied}
use Rattle.std.specs.Borrow.{Bor}
use Rattle.std.proofs.lemmas.Bool.{cases_Bool, cond-true, cond-false, not-false, false≢true}
use Rattle.std.proofs.Math.Nat.{mod-eq_of_lt}
use Rattle.std.proofs.lemmas.List.{map-set, set-get_or, length-take-le, length-replicate}
use Rattle.std.proofs.lemmas.List.Sums.{sum_by-take-le}
use Rattle.std.proofs.lemmas.List.Folds.{sum_by-replicate}
use Rattle.std.proofs.lemmas.List.Elements.{All-replicate}
use Rattle.lru_shard.specs.Row.{Row, row_of, is_held, pair_of, times, weight_of, last_row, without_last}
use Rattle.lru_shard.specs.Shard.{Shard, shard, IsShard}
use Rattle.lru_shard.specs.Unit.{accessed, needs_promote}
use Rattle.lru_shard.specs.ShardCalls.{promoted_past}
use Rattle.lru_cores.specs.Core.{Core, list_at}
use Rattle.lru_shard.specs.Limits.{cap_of}
use Rattle.lru_cores.specs.Eviction.{IsVictim, start, is_over, evicted, EvictsFrom, EvictsWhereOver, NamesVictim}
use Rattle.lru_cores.specs.Representation.Units.{lists_of, AreUnits}
use Rattle.lru_shard.proofs.EditsOf.{edits_evict}
use Rattle.lru_shard.proofs.LastRows.{last_of, held_last, weight-without_last, length-without_last}
use Rattle.lru_cores.proofs.Units.{core, kept, list_is, unit_le, x_valid, lists_of_empty}

module _ {T : Type 0} where
  -- a shard without its last row is a shard
  pub evicted_shard : (x y : Shard T) → y ≡ shard (without_last x.rows) x.cap → IsShard x → IsShard y
  evicted_shard x y e valid = subst IsShard (sym e) (record {
    keys = λ k. omega (arith, valid.keys k, sum_by-take-le (λ (r : Row T). cond (eqb r.key k) 1 0) x.rows (length x.rows - 1));
    light = omega (arith, valid.light, sum_by-take-le (λ (r : Row T). r.weight) x.rows (length x.rows - 1));
    short = omega (arith, valid.short, length-take-le (length x.rows - 1) x.rows (omega arith));
  })

  nothing_last : (rows : List (Row T)) → None ≡ option_map pair_of (last_row rows) → rows ≡ []
  nothing_last [] h = refl
  nothing_last (r ∷ rows) h = absurd (held_last (r ∷ rows) (omega arith) h)

  -- an empty shard evicts nothing
  pub nothing_evicted : (x y : Shard T) → y ≡ shard (without_last x.rows) x.cap → None ≡ option_map pair_of (last_row x.rows) → y ≡ x
  nothing_evicted x y e h = let none = nothing_last x.rows h in e ∙ ap (λ rows. shard (without_last rows) x.cap) none ∙ ap (λ rows. shard rows x.cap) (sym none)

  module _ (n : ℕ) (units : List (Shard T)) (weight len : ℕ) (u : AreUnits n units weight len) (s : ℕ) (s_in : s < n) (x : Shard T) (x_is : x ≡ get_or units s x) where
    module _ (limit : ℕ) (mark : Option ℕ) (ew el : ℕ) where
      -- a unit that is as it was leaves the core
      pub unchanged : (y : Shard T) → y ≡ x → core (lists_of (set units s y)) limit mark ew el ≡ core (lists_of units) limit mark ew el
      unchanged y e = ap (λ us. core (lists_of us) limit mark ew el) (ap (set units s) (e ∙ x_is) ∙ set-get_or units s x)

      module _ (y : Shard T) (y_is : y ≡ shard (without_last x.rows) x.cap) where
        pub stays_empty : None ≡ option_map pair_of (last_row x.rows) → EvictsFrom (core (lists_of units) limit mark ew el) s None (core (lists_of (set units s y)) limit mark ew el)
        stays_empty h =
            let nothing : Option (T × ℕ) = None in
            let none : last_row (get_or (lists_of units) s []) ≡ None = ap last_row (list_is n units weight len u s s_in x x_is ∙ nothing_last x.rows h) in
            subst (λ (o : Option (Row T)). MatchOption o ((nothing ≡ nothing) × (core (lists_of (set units s y)) limit mark ew el ≡ core (lists_of units) limit mark ew el))
            (λ r. (nothing ≡ Some (pair_of r)) × (core (lists_of (set units s y)) limit mark ew el ≡ evicted (core (lists_of units) limit mark ew el) s r))) (sym none)
            (refl, unchanged y (nothing_evicted x y y_is h))

        module _ (p : T × ℕ) (h : Some p ≡ option_map pair_of (last_row x.rows)) where
          pub loses : (weight_of y.rows + p.1 ≡ weight_of x.rows) × (length y.rows + 1 ≡ length x.rows)
          loses =
              let l = last_of x.rows p h in
              let rows = ap (λ (z : Shard T). z.rows) y_is in
              (omega (arith, weight-without_last x.rows l.0 l.1.0, ap weight_of rows, ap (λ (q : T × ℕ). q.1) l.1.1), omega (arith, length-without_last x.rows l.0 l.1.0, ap length rows))

          pub evicts_last : EvictsFrom (core (lists_of units) limit mark ew el) s (Some p) (core (lists_of (set units s y)) limit mark ((ew + p.1) % 2 ^ 64) ((el + 1) % 2 ^ 64))
          evicts_last =
              let l = last_of x.rows p h in
              let is = list_is n units weight len u s s_in x x_is in
              let some : last_row (get_or (lists_of units) s []) ≡ Some l.0 = ap last_row is ∙ l.1.0 in
              let lists : lists_of (set units s y) ≡ set (lists_of units) s (without_last (get_or (lists_of units) s [])) =
              map-set (λ (z : Shard T). z.rows) units s y ∙ ap (set (lists_of units) s) (ap (λ (z : Shard T). z.rows) y_is ∙ ap without_last (sym is)) in
              subst (λ o. MatchOption o ((Some p ≡ None) × (core (lists_of (set units s y)) limit mark ((ew + p.1) % 2 ^ 64) ((el + 1) % 2 ^ 64) ≡ core (lists_of units) limit mark ew el))
              (λ r. (Some p ≡ Some (pair_of r)) × (core (lists_of (set units s y)) limit mark ((ew + p.1) % 2 ^ 64) ((el + 1) % 2 ^ 64) ≡ evicted (core (lists_of units) limit mark ew el) s r))) (sym some) (
                ap (λ q. Some q) l.1.1,
                ap (λ ls. core ls limit mark ((ew + p.1) % 2 ^ 64) ((el + 1) % 2 ^ 64)) lists
                    ∙ ap (λ w. core (set (lists_of units) s (without_last (get_or (lists_of units) s []))) limit mark ((ew + w) % 2 ^ 64) ((el + 1) % 2 ^ 64)) (ap (λ (q : T × ℕ). q.1) l.1.1),
              )

          pub kept_less : AreUnits n (set units s y) (weight - p.1) (len - 1)
          kept_less =
              let le = unit_le n units weight len u s s_in x x_is in
              let s_key = s in
              let s_home : s_key % n ≡ s = mod-eq_of_lt {n = s} {m = n} s_in in
              let k = kept n units weight len u s s_in x x_is s_key s_home y (evicted_shard x y y_is (x_valid n units weight len u s s_in x x_is)) (edits_evict x y s_key y_is) in
              let a : weight - weight_of x.rows + weight_of y.rows ≡ weight - p.1 = omega (arith, loses.0, le.0) in
              let b : len - length x.rows + length y.rows ≡ len - 1 = omega (arith, loses.1, le.1) in
              subst (λ m. AreUnits n (set units s y) m (len - 1)) a (subst (λ m. AreUnits n (set units s y) (weight - weight_of x.rows + weight_of y.rows) m) b k)

        pub kept_empty : None ≡ option_map pair_of (last_row x.rows) → AreUnits n (set units s y) weight len
        kept_empty h = subst (λ us. AreUnits n us weight len) (sym (ap (set units s) (nothing_evicted x y y_is h ∙ x_is) ∙ set-get_or units s x)) u

  -- one step of an over core, once its victim is known
  pub steps : (old : Core T) (a b victim : ℕ) (answer : Option (T × ℕ)) (new : Core T) → is_over old ≡ true → IsVictim old.lists (start old a b) victim → EvictsFrom old victim answer new → EvictsWhereOver old a b answer new
  steps old a b victim answer new over is h = from (last_row (list_at old victim)) refl h
    where
      from : (o : Option (Row T)) → last_row (list_at old victim) ≡ o → MatchOption o ((answer ≡ None) × (new ≡ old)) (λ r. (answer ≡ Some (pair_of r)) × (new ≡ evicted old victim r)) → EvictsWhereOver old a b answer new
      from None e m = absurd (held_last (list_at old victim) is.held (sym (ap (option_map pair_of) e)))
      from (Some r) e m = subst (λ o. EvictsWhereOver old a b o new) (sym m.0) (record {
        over = over;
        victim = victim;
        is_victim = is;
        row = r;
        last = e;
        answer = refl;
        left = m.1;
      })

  of_key : (o : Option (Row T)) (k : ℕ) → Some k ≡ option_map (λ (r : Row T). r.key) o → (r : Row T) × ((o ≡ Some r) × (k ≡ r.key))
  of_key None k h = cc
  of_key (Some r) k h = (r, (refl, cc))

  -- the key of the row that an over core would evict
  pub names : (old : Core T) (a b victim k : ℕ) → is_over old ≡ true → IsVictim old.lists (start old a b) victim → Some k ≡ option_map (λ (r : Row T). r.key) (last_row (list_at old victim)) → NamesVictim old a b (Some k)
  names old a b victim k over is h =
      let r = of_key (last_row (list_at old victim)) k h in (
        pair_of r.0,
        (
          evicted old victim r.0,
          (record { over = over; victim = victim; is_victim = is; row = r.0; last = r.1.0; answer = refl; left = refl }, r.1.1),
        ),
      )

  abbrev pub empty_lists : ℕ → List (List (Row T))
  empty_lists n = replicate n []

  empty_at : (n s : ℕ) → get_or (empty_lists n) s [] ≡ []
  empty_at zero s = refl
  empty_at (suc n) zero = refl
  empty_at (suc n) (suc s) = empty_at n s

  -- the units of a new core
  pub empty_kept : (n : ℕ) → 0 < n → AreUnits {T = T} n (replicate n (shard [] (cap_of n))) 0 0
  empty_kept n some = record {
    some = some;
    count = length-replicate n (shard [] (cap_of n));
    valid = All-replicate (λ u. IsShard u) n (shard [] (cap_of n)) (record { keys = λ k. omega arith; light = omega arith; short = omega arith });
    caps = All-replicate (λ (u : Shard T). u.cap ≡ cap_of n) n (shard [] (cap_of n)) refl;
    weight_is = omega (arith, sum_by-replicate (λ (u : Shard T). weight_of u.rows) n (shard [] (cap_of n)));
    len_is = omega (arith, sum_by-replicate (λ (u : Shard T). length u.rows) n (shard [] (cap_of n)));
    homes = λ s k h. absurd (omega (arith, ap (times k) (ap (λ ls. get_or ls s []) (lists_of_empty n (cap_of n)) ∙ empty_at n s), h));
  }

  held_front : (n : ℕ) (rows : List (Row T)) (k : ℕ) → is_held (take n rows) k ≡ true → is_held rows k ≡ true
  held_front zero rows k h = absurd (false≢true h)
  held_front (suc n) [] k h = absurd (false≢true h)
  held_front (suc n) (r ∷ rows) k h =
      elim (cases_Bool (eqb r.key k)) [
        | inl e ↦ ap is_some (cond-true (eqb r.key k) (Some r) (row_of rows k) e)
        | inr e ↦ ap is_some (cond-false (eqb r.key k) (Some r) (row_of rows k) e) ∙ held_front n rows k (sym (ap is_some (cond-false (eqb r.key k) (Some r) (row_of (take n rows) k) e)) ∙ h)
      ]

  -- a key that needs no promotion
  pub near_head : (rows : List (Row T)) (k top : ℕ) → needs_promote rows k top ≡ false → (is_held rows k ≡ true) × (promoted_past rows k top ≡ rows)
  near_head rows k top h = (held_front top rows k (not-false (is_held (take top rows) k) h), ap (λ b. cond b (accessed rows k) rows) h)

  pub far_from_head : (rows : List (Row T)) (k top : ℕ) → needs_promote rows k top ≡ true → promoted_past rows k top ≡ accessed rows k
  far_from_head rows k top h = ap (λ b. cond b (accessed rows k) rows) h

is_some-copied : {A : Type 0} (o : Option (Bor A)) → is_some (option_copied o) ≡ is_some o
is_some-copied None = refl
is_some-copied (Some x) = refl

is_some-map : {A B : Type 0} (f : A → B) (o : Option A) → is_some (option_map f o) ≡ is_some o
is_some-map f None = refl
is_some-map f (Some x) = refl

-- whether a look found something
pub found_by : {A B : Type 0} (f : B → A) (o : Option (Bor A)) (r : Option B) → option_copied o ≡ option_map f r → is_some o ≡ is_some r
found_by f o r h = sym (is_some-copied o) ∙ ap is_some h ∙ is_some-map f r
