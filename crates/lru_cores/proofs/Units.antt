-- Laws of the units of a core, where one of them changes.
use Rattle.std.proofs.Common.{◌≡◌, ℕ, ◌+◌, ◌-◌, inl, inr, ◌*◌, ◌%◌, ◌<◌, ◌≤◌, List, [], ◌∷◌, zero, suc, refl, length, get_or, set, sym, ap, ◌∙◌, arith, subst}
use Rattle.std.specs.Prelude.{Option, replicate}
use Rattle.std.proofs.lemmas.List.{map-set, get_or-map, length-map, length-set, get_or-set_same, get_or-set_other, set-get_or}
use Rattle.std.proofs.lemmas.Bool.{cases_eq}
use Rattle.std.proofs.lemmas.List.Sums.{sum_by-set, sum_by-le, get_or-le-sum_by}
use Rattle.std.proofs.lemmas.List.Elements.{All-set}
use Rattle.lru_shard.specs.Row.{Row, weight_of, times}
use Rattle.lru_shard.proofs.EditsOf.{Edit}
use Rattle.lru_shard.specs.Shard.{Shard, shard, IsShard}
use Rattle.lru_cores.specs.Core.{Core, home, with_list, ActsOn, IsCore}
use Rattle.lru_shard.specs.Limits.{cap_of}
use Rattle.lru_cores.specs.Representation.Units.{lists_of, AreUnits}

pub whole_cap : (n : ℕ) → 0 < n → n * cap_of n ≤ 18446744073709551615
whole_cap n h = omega arith

module _ {T : Type 0} where
  -- the lists of empty units
  pub lists_of_empty : (n : ℕ) (cap : ℕ) → lists_of {T = T} (replicate n (shard [] cap)) ≡ replicate n []
  lists_of_empty zero cap = refl
  lists_of_empty (suc n) cap = ap (λ lists. [] ∷ lists) (lists_of_empty n cap)

  abbrev pub core : List (List (Row T)) → ℕ → Option ℕ → ℕ → ℕ → Core T
  core lists limit mark weight len = record { lists = lists; weight_limit = limit; watermark = mark; evicted_weight = weight; evicted_len = len }

  pub weight_small : (n : ℕ) (units : List (Shard T)) (weight len : ℕ) → AreUnits n units weight len → weight ≤ 18446744073709551615
  weight_small n units weight len u = omega (
    arith,
    u.weight_is,
    u.count,
    whole_cap n u.some,
    sum_by-le (λ (x : Shard T). weight_of x.rows) (cap_of n) units (λ k d lt. omega (arith, (u.valid k d lt).light, u.caps k d lt)),
    ap (λ m. m * cap_of n) u.count,
  )

  pub len_small : (n : ℕ) (units : List (Shard T)) (weight len : ℕ) → AreUnits n units weight len → len ≤ 18446744073709551615
  len_small n units weight len u = omega (
    arith,
    u.len_is,
    whole_cap n u.some,
    sum_by-le (λ (x : Shard T). length x.rows) (cap_of n) units (λ k d lt. omega (arith, (u.valid k d lt).short, u.caps k d lt)),
    ap (λ m. m * cap_of n) u.count,
  )

  module _ (n : ℕ) (units : List (Shard T)) (weight len : ℕ) (u : AreUnits n units weight len) where
    module _ (s : ℕ) (s_in : s < n) (x : Shard T) (x_is : x ≡ get_or units s x) where
      in_units : s < length units
      in_units = omega (arith, u.count)

      pub x_cap : x.cap ≡ cap_of n
      x_cap = ap (λ (z : Shard T). z.cap) x_is ∙ u.caps s x in_units

      pub list_is : get_or (lists_of units) s [] ≡ x.rows
      list_is = get_or-map (λ (z : Shard T). z.rows) units s x [] in_units ∙ ap (λ (z : Shard T). z.rows) (sym x_is)

      pub unit_le : (weight_of x.rows ≤ weight) × (length x.rows ≤ len)
      unit_le = (
        omega (arith, u.weight_is, ap (λ (z : Shard T). weight_of z.rows) x_is, get_or-le-sum_by (λ (z : Shard T). weight_of z.rows) units s x in_units),
        omega (arith, u.len_is, ap (λ (z : Shard T). length z.rows) x_is, get_or-le-sum_by (λ (z : Shard T). length z.rows) units s x in_units),
      )

      pub lists_long : length (lists_of units) ≡ n
      lists_long = length-map units (λ (z : Shard T). z.rows) ∙ u.count

      pub x_valid : IsShard x
      x_valid = subst IsShard (sym x_is) (u.valid s x in_units)

      -- one unit changes by a call on this key, whose shard it is
      module _ (key : ℕ) (home_is : key % n ≡ s) (y : Shard T) (valid : IsShard y) (e : Edit key x y) where
        homes_kept : (q k : ℕ) → 0 < times k (get_or (lists_of (set units s y)) q []) → k % n ≡ q
        homes_kept q k h =
            let lists = map-set (λ (z : Shard T). z.rows) units s y in
            let h' : 0 < times k (get_or (set (lists_of units) s y.rows) q []) = subst (λ ls. 0 < times k (get_or ls q [])) lists h in
            elim (cases_eq q s) [
              | inl q_is ↦
                  let own : 0 < times k y.rows = subst (λ rs. 0 < times k rs) (ap (λ j. get_or (set (lists_of units) s y.rows) j []) q_is ∙ get_or-set_same (lists_of units) s y.rows [] (omega (arith, lists_long))) h' in
                  elim (e.fresh k own) [
                    | inl old ↦ u.homes s k (subst (λ rs. 0 < times k rs) (sym list_is) old) ∙ sym q_is
                    | inr new ↦ ap (λ m. m % n) new ∙ home_is ∙ sym q_is
                  ]
              | inr ne ↦ u.homes q k (subst (λ rs. 0 < times k rs) (get_or-set_other (lists_of units) s q y.rows [] ne) h')
            ]

        -- what is kept of all units
        pub kept : AreUnits n (set units s y) (weight - weight_of x.rows + weight_of y.rows) (len - length x.rows + length y.rows)
        kept = record {
          some = u.some;
          count = length-set units s y ∙ u.count;
          valid = All-set (λ z. IsShard z) units s y valid u.valid;
          caps = All-set (λ z. z.cap ≡ cap_of n) units s y (e.caps ∙ x_cap) u.caps;
          weight_is = omega (arith, u.weight_is, sum_by-set (λ (z : Shard T). weight_of z.rows) units s y x in_units, ap (λ (z : Shard T). weight_of z.rows) x_is, get_or-le-sum_by (λ (z : Shard T). weight_of z.rows) units s x in_units);
          len_is = omega (arith, u.len_is, sum_by-set (λ (z : Shard T). length z.rows) units s y x in_units, ap (λ (z : Shard T). length z.rows) x_is, get_or-le-sum_by (λ (z : Shard T). length z.rows) units s x in_units);
          homes = homes_kept;
        }

        -- a call that leaves the shard's weight and length
        pub same_units : weight_of y.rows ≡ weight_of x.rows → length y.rows ≡ length x.rows → AreUnits n (set units s y) weight len
        same_units sw sl = subst (λ m. AreUnits n (set units s y) weight m) (let e : len - length x.rows + length y.rows ≡ len = omega (arith, sl, unit_le.1) in e)
            (subst (λ m. AreUnits n (set units s y) m (len - length x.rows + length y.rows)) (let e : weight - weight_of x.rows + weight_of y.rows ≡ weight = omega (arith, sw, unit_le.0) in e) kept)

        pub fits : (weight - weight_of x.rows + weight_of y.rows ≤ 18446744073709551615) × (len - length x.rows + length y.rows ≤ 18446744073709551615)
        fits = (weight_small n (set units s y) _ _ kept, len_small n (set units s y) _ _ kept)

        -- the same, by the totals as the code reads them before and after, and brings them
        pub kept_by : (wx lx wy ly w l : ℕ) → wx ≡ weight_of x.rows → lx ≡ length x.rows → wy ≡ weight_of y.rows → ly ≡ length y.rows
            → w ≡ weight - wx + wy → l ≡ len - lx + ly → AreUnits n (set units s y) w l
        kept_by wx lx wy ly w l a b c d e f = rw (e, f, a, b, c, d) kept

        -- a call on one unit, seen as a call on the core
        pub acts : (P : Shard T → Shard T → Type 0) → P x y → (limit : ℕ) (mark : Option ℕ) (ew el : ℕ) →
            ActsOn (core (lists_of units) limit mark ew el) (home (core (lists_of units) limit mark ew el) key) (core (lists_of (set units s y)) limit mark ew el) P
        acts P p limit mark ew el =
            let cap : cap_of (length (lists_of units)) ≡ x.cap = ap cap_of lists_long ∙ sym x_cap in
            let old : x ≡ shard (get_or (lists_of units) s []) (cap_of (length (lists_of units))) = ap (λ rows. shard rows x.cap) (sym list_is) ∙ ap (shard (get_or (lists_of units) s [])) (sym cap) in
            let new : y ≡ shard y.rows (cap_of (length (lists_of units))) = ap (shard y.rows) (e.caps ∙ sym cap) in
            subst (λ z. ActsOn (core (lists_of units) limit mark ew el) z (core (lists_of (set units s y)) limit mark ew el) P)
            (sym (ap (λ m. key % m) lists_long ∙ home_is))
            (record {
              rows = y.rows;
              acts = subst (λ z. P (shard (get_or (lists_of units) s []) (cap_of (length (lists_of units)))) z) new (subst (λ z. P z y) old p);
              left = ap (λ lists. core lists limit mark ew el) (map-set (λ (z : Shard T). z.rows) units s y);
            })

        -- where the rows after the call are known
        pub leaves : (rows : List (Row T)) → y.rows ≡ rows → (limit : ℕ) (mark : Option ℕ) (ew el : ℕ) →
            core (lists_of (set units s y)) limit mark ew el ≡ with_list (core (lists_of units) limit mark ew el) (home (core (lists_of units) limit mark ew el) key) rows
        leaves rows is limit mark ew el = ap (λ lists. core lists limit mark ew el)
            (map-set (λ (z : Shard T). z.rows) units s y ∙ ap (set (lists_of units) s) is ∙ ap (λ q. set (lists_of units) q rows) (sym (ap (λ m. key % m) lists_long ∙ home_is)))

      -- a unit that is as it was
      pub kept_as : (y : Shard T) → y ≡ x → AreUnits n (set units s y) weight len
      kept_as y e = subst (λ us. AreUnits n us weight len) (sym (ap (set units s) (e ∙ x_is) ∙ set-get_or units s x)) u

      pub leaves_as : (key : ℕ) → key % n ≡ s → (y : Shard T) → y ≡ x → (rows : List (Row T)) → x.rows ≡ rows → (limit : ℕ) (mark : Option ℕ) (ew el : ℕ) →
          core (lists_of (set units s y)) limit mark ew el ≡ with_list (core (lists_of units) limit mark ew el) (home (core (lists_of units) limit mark ew el) key) rows
      leaves_as key home_is y e rows is limit mark ew el = ap (λ lists. core lists limit mark ew el)
          (map-set (λ (z : Shard T). z.rows) units s y ∙ ap (set (lists_of units) s) (ap (λ (z : Shard T). z.rows) e ∙ is) ∙ ap (λ q. set (lists_of units) q rows) (sym (ap (λ m. key % m) lists_long ∙ home_is)))

      -- the list of the key's shard
      pub home_list : (key : ℕ) → key % n ≡ s → get_or (lists_of units) (key % length (lists_of units)) [] ≡ x.rows
      home_list key home_is = ap (λ q. get_or (lists_of units) q []) (ap (λ m. key % m) lists_long ∙ home_is) ∙ list_is

  -- what a core keeps, seen by its callers
  pub is_core : (n : ℕ) (units : List (Shard T)) (weight len : ℕ) → AreUnits n units weight len → (limit : ℕ) (mark : Option ℕ) (ew el : ℕ) → IsCore n (core (lists_of units) limit mark ew el)
  is_core n units weight len u limit mark ew el =
      let long : length (lists_of units) ≡ length units = length-map units (λ (z : Shard T). z.rows) in
      record {
        some = u.some;
        count = long ∙ u.count;
        valid = λ k d lt.
            let empty : Shard T = shard d (cap_of n) in
            let in_units : k < length units = omega (arith, long) in
            let is : get_or (lists_of units) k d ≡ (get_or units k empty).rows = get_or-map (λ (z : Shard T). z.rows) units k empty d in_units in
            let capped : get_or units k empty ≡ shard (get_or units k empty).rows (cap_of n) = ap (shard (get_or units k empty).rows) (u.caps k empty in_units) in
            subst (λ rows. IsShard (shard rows (cap_of n))) (sym is) (subst IsShard capped (u.valid k empty in_units));
        homes = u.homes;
      }
