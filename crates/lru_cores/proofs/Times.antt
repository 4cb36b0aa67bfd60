-- How many rows have a key, in a list and in a core.
use Rattle.std.proofs.Common.{◌≡◌, ◌≢◌, ℕ, ◌+◌, ◌%◌, ◌<◌, ◌≤◌, List, [], ◌∷◌, length, set, get_or, Some, None, refl, sym, ap, subst, ◌⊎◌, ◌∙◌, arith, inl, inr}
use Rattle.std.proofs.lemmas.Bool.{cases_eq, cases_lt, eq-eqb, ne_eqb}
use Rattle.std.proofs.lemmas.List.{length-set, get_or-set_same, get_or-set_other, set-get_or}
use Rattle.std.proofs.lemmas.List.Sums.{sum_by-set, sum_by-le, get_or-le-sum_by}
use Rattle.std.proofs.lemmas.List.Elements.{All-from_get_or}
use Rattle.lru_shard.specs.Row.{Row, row_of, times, with_first, without, last_row, without_last}
use Rattle.lru_shard.proofs.Rows.{times-append, times_yes, times_no, times-without_same, times-without_other, without_absent, row_of_absent}
use Rattle.lru_shard.proofs.Edits.{split_row, times-without-le}
use Rattle.lru_shard.proofs.LastRows.{last_split}
use Rattle.lru_cores.specs.Core.{Core, list_at, with_list, home}
use Rattle.lru_cores.specs.Tiers.{row_in, core_without, times_in, IsTier}

module _ {T : Type 0} where
  -- in a list
  pub times_found : (rows : List (Row T)) (k : ℕ) (r : Row T) → row_of rows k ≡ Some r → 0 < times k rows
  times_found rows k r h =
      let s = split_row rows k r h in
      omega (arith, ap (times k) s.1.1.0, times-append k s.0 (r ∷ s.1.0), times_yes k r s.1.0 (eq-eqb r.key k s.1.1.1))

  pub times_last : (rows : List (Row T)) (r : Row T) → last_row rows ≡ Some r → 0 < times r.key rows
  times_last rows r h = omega (arith, ap (times r.key) (last_split rows r h), times-append r.key (without_last rows) (r ∷ []), times_yes r.key r [] (eq-eqb r.key r.key refl))

  pub times_first : (rows : List (Row T)) (r : Row T) → times r.key (with_first rows r) ≡ 1
  times_first rows r = omega (arith, times_yes r.key r (without rows r.key) (eq-eqb r.key r.key refl), times-without_same r.key rows)

  pub times_first_other : (rows : List (Row T)) (r : Row T) (q : ℕ) → q ≢ r.key → times q (with_first rows r) ≡ times q rows
  times_first_other rows r q ne = times_no q r (without rows r.key) (ne_eqb r.key q (λ e. ne (sym e))) ∙ times-without_other q r.key rows ne

  -- in a core
  module _ (c : Core T) (s : ℕ) (s_in : s < length c.lists) where
    pub times_with : (rows : List (Row T)) (q : ℕ) → times_in q (with_list c s rows) + times q (list_at c s) ≡ times_in q c + times q rows
    times_with rows q = sum_by-set (λ rs. times q rs) c.lists s rows [] s_in

    pub times_at : (q : ℕ) → times q (list_at c s) ≤ times_in q c
    times_at q = get_or-le-sum_by (λ rs. times q rs) c.lists s [] s_in

  -- a list that is put where it is
  pub with_same : (c : Core T) (s : ℕ) → with_list c s (list_at c s) ≡ c
  with_same c s = ap (λ ls. record c { lists = ls }) (set-get_or c.lists s [])

  pub home_in : (n : ℕ) (c : Core T) (k : ℕ) → IsTier n c → home c k < length c.lists
  home_in n c k t = omega (arith, t.some, t.count)

  -- other rows, of keys that belong there
  pub tier_with : (n : ℕ) (c : Core T) (s : ℕ) (rows : List (Row T)) → s < length c.lists → IsTier n c → ((q : ℕ) → 0 < times q rows → q % n ≡ s) → IsTier n (with_list c s rows)
  tier_with n c s rows s_in t fresh = record {
    some = t.some;
    count = length-set c.lists s rows ∙ t.count;
    homes = λ i q h. elim (cases_eq i s) [
      | inl e ↦ fresh q (subst (λ rs. 0 < times q rs) (ap (λ j. get_or (set c.lists s rows) j []) e ∙ get_or-set_same c.lists s rows [] s_in) h) ∙ sym e
      | inr ne ↦ t.homes i q (subst (λ rs. 0 < times q rs) (get_or-set_other c.lists s i rows [] ne) h)
    ];
    unmarked = t.unmarked;
  }

  module _ (n : ℕ) (c : Core T) (k : ℕ) (t : IsTier n c) where
    tier_at : (rows : List (Row T)) → ((q : ℕ) → 0 < times q rows → (0 < times q (list_at c (home c k))) ⊎ (q ≡ k)) → IsTier n (with_list c (home c k) rows)
    tier_at rows fresh = tier_with n c (home c k) rows (home_in n c k t) t (λ q h. elim (fresh q h) [
      | inl old ↦ t.homes (home c k) q old
      | inr e ↦ ap (λ m. m % n) e ∙ sym (ap (λ m. k % m) t.count)
    ])

    pub tier_without : IsTier n (core_without c k)
    tier_without = tier_at (without (list_at c (home c k)) k) (λ q h. inl (omega (arith, h, times-without-le q k (list_at c (home c k)))))

    pub tier_first : (r : Row T) → r.key ≡ k → IsTier n (with_list c (home c k) (with_first (list_at c (home c k)) r))
    tier_first r key = tier_at (with_first (list_at c (home c k)) r) (λ q h. elim (cases_eq q k) [
      | inl e ↦ inr e
      | inr ne ↦ inl (omega (arith, h, times_first_other (list_at c (home c k)) r q (λ e. ne (e ∙ key))))
    ])

  -- each key has its rows in its own list
  module _ (n : ℕ) (c : Core T) (valid : IsTier n c) (k : ℕ) where
    nowhere_else : (i : ℕ) → i < length c.lists → times k (get_or (set c.lists (home c k) []) i []) ≤ 0
    nowhere_else i lt =
        elim (cases_eq i (home c k)) [
          | inl e ↦ omega (arith, ap (times k) (ap (λ j. get_or (set c.lists (home c k) []) j []) e ∙ get_or-set_same c.lists (home c k) [] [] (omega (arith, e))))
          | inr ne ↦
              let other : get_or (set c.lists (home c k) []) i [] ≡ list_at c i = get_or-set_other c.lists (home c k) i [] [] ne in
              elim (cases_lt 0 (times k (list_at c i))) [
                | inl some ↦ absurd (ne (sym (ap (λ m. k % m) valid.count ∙ valid.homes i k some)))
                | inr none ↦ omega (arith, ap (times k) other)
              ]
        ]

    pub times_home : times_in k c ≡ times k (list_at c (home c k))
    times_home =
        let long = length-set c.lists (home c k) [] in
        let rest = sum_by-le (λ rs. times k rs) 0 (set c.lists (home c k) []) (All-from_get_or (λ rs. times k rs ≤ 0) (set c.lists (home c k) []) [] (λ i lt. nowhere_else i (omega (arith, long)))) in
        omega (arith, rest, sum_by-set (λ rs. times k rs) c.lists (home c k) [] [] (omega (arith, valid.some, valid.count)))

  -- a row of a key that is nowhere
  pub none_in : (n : ℕ) (c : Core T) (k : ℕ) → IsTier n c → times_in k c ≡ 0 → row_in c k ≡ None
  none_in n c k t h = row_of_absent k (list_at c (home c k)) (omega (arith, times_at c (home c k) (home_in n c k t) k))

  -- a key that is nowhere can leave, and nothing changes
  pub absent_same : (n : ℕ) (c : Core T) (k : ℕ) → IsTier n c → times_in k c ≡ 0 → core_without c k ≡ c
  absent_same n c k t h = ap (with_list c (home c k)) (without_absent k (list_at c (home c k)) (omega (arith, times_at c (home c k) (home_in n c k t) k))) ∙ with_same c (home c k)

  -- a row in its own list
  pub times_row : (n : ℕ) (c : Core T) (k : ℕ) (r : Row T) → IsTier n c → row_in c k ≡ Some r → 0 < times_in k c
  times_row n c k r t h = omega (arith, times_found (list_at c (home c k)) k r h, times_at c (home c k) (home_in n c k t) k)

  pub times_core_without_same : (n : ℕ) (c : Core T) (k : ℕ) → IsTier n c → times_in k (core_without c k) ≡ 0
  times_core_without_same n c k t = omega (arith, times_home n c t k, times_with c (home c k) (home_in n c k t) (without (list_at c (home c k)) k) k, times-without_same k (list_at c (home c k)))
