-- What a message that is not refused does to the rows: no hash stands twice, the map follows, and each row is accounted for.
use Rattle.std.proofs.Common.{◌≡◌, ◌≢◌, ℕ, ◌+◌, ◌&&◌, max, not, cond, eqb, Bool, true, false, List, [], ◌∷◌, ◌++◌, Some, None, refl, sym, ap, ◌∙◌, arith, subst, inl, inr}
use Rattle.std.specs.Prelude.{Option, option_map, is_some}
use Rattle.std.specs.Option.{option_map_or}
use Rattle.std.proofs.lemmas.Bool.{eqb-true, eq-eqb, ne_eqb, cases_eq, cond-true, cond-false}
use Rattle.lru_shard.specs.Row.{Row, row, row_of, is_held, times, HasDistinctKeys, with_first, with_last, without, without_last, last_row}
use Rattle.lru_shard.specs.Unit.{grown}
use Rattle.lru_shard.proofs.Rows.{times-append, times_yes, times_no, by_key, times-without_same, times-without_other, row_of_absent, row_of_there, distinct-first, distinct-front}
use Rattle.lru_shard.proofs.Edits.{at_row, distinct-without}
use Rattle.lru_shard.proofs.LastRows.{last_split}
use Rattle.lru_shard.proofs.UnitCalls.{times_none}
use Rattle.lru_actors.specs.declared.message.LruMsg.{LruMsg}
use Rattle.lru_actors.specs.declared.message.LruMsg.TheVariants.{Admit, IncrementWeight, Promote, Remove, InsertTail, Evict, PeekLru, Snapshot, QueryWeight}
use Rattle.lru_actors.specs.Messages.{consumed, kept, put_of, cleared_of}
use Rattle.lru_actors.specs.Processing.{mapped, MayWantRoom}
use Rattle.lru_actors.proofs.Rows.{no_last}
use Rattle.lru_actors.specs.Turns.{weight_in, brings, removes, evicts}

both_no : (b : Bool) → (b && false) ≡ false
both_no true = refl
both_no false = refl

abbrev pub one_if : Bool → ℕ
one_if b = cond b 1 0

one_of : (b : Bool) → one_if (not b) + one_if b ≡ 1
one_of true = refl
one_of false = refl

module _ {K : Type 0} where
  row_of_other : (j k : ℕ) (rows : List (Row K)) → j ≢ k → row_of (without rows k) j ≡ row_of rows j
  row_of_other j k [] ne = refl
  row_of_other j k (r ∷ rows) ne =
      by_key k r rows (λ rs. row_of rs j ≡ row_of (r ∷ rows) j)
      (λ e. row_of_other j k rows ne ∙ sym (cond-false (eqb r.key j) (Some r) (row_of rows j) (ne_eqb _ _ (λ q. ne (sym q ∙ eqb-true _ _ e)))))
      (λ e. ap (λ o. cond (eqb r.key j) (Some r) o) (row_of_other j k rows ne))

  -- no hash stands twice
  none_once : (rows : List (Row K)) (k : ℕ) → is_held rows k ≡ false → times k rows ≡ 0
  none_once rows k e = times_none rows k (not_some (row_of rows k) e)
    where
      not_some : (o : Option (Row K)) → is_some o ≡ false → o ≡ None
      not_some None e = refl
      not_some (Some r) e = cc

  -- what holds of the rows before and after a message that is not refused
  pub record Follows (rows after : List (Row K)) (put : Option (ℕ × ℕ)) (cleared : Option ℕ) (brought removed evicted : ℕ → Bool) : Type 0 where
    pub distinct : HasDistinctKeys after
    pub weighs : (h : ℕ) → weight_in after h ≡ mapped put cleared (weight_in rows) h
    pub counts : (h : ℕ) → one_if (brought h) + times h rows ≡ times h after + one_if (removed h) + one_if (evicted h)

  -- a hash has one row exactly where it is held
  one_held : (rows : List (Row K)) (h : ℕ) → HasDistinctKeys rows → times h rows ≡ one_if (is_held rows h)
  one_held rows h d = by_row (row_of rows h) refl
    where
      by_row : (o : Option (Row K)) → row_of rows h ≡ o → times h rows ≡ one_if (is_some o)
      by_row None e = times_none rows h e
      by_row (Some r) e =
          let at = at_row rows h r d e in
          omega (arith, d h, ap (times h) at.whole, times-append h at.before (r ∷ at.after), times_yes h r at.after (eq-eqb _ _ at.same_key))

  module _ (rows : List (Row K)) (d : HasDistinctKeys rows) where
    same : Follows rows rows None None (λ _. false) (λ _. false) (λ _. false)
    same = record { distinct = d; weighs = λ h. refl; counts = λ h. omega arith }

    -- a row goes first, in place of its hash's
    firsts : (r : Row K) → Follows rows (with_first rows r) (Some (r.key, r.weight)) None (λ h. eqb r.key h && not (is_held rows r.key)) (λ _. false) (λ _. false)
    firsts r = record { distinct = distinct-first rows r d; weighs = weighs; counts = counts }
      where
        weighs : (h : ℕ) → weight_in (with_first rows r) h ≡ mapped (Some (r.key, r.weight)) None (weight_in rows) h
        weighs h = elim (cases_eq h r.key) [
          | inl e ↦ ap (λ b. option_map (λ (x : Row K). x.weight) (cond b (Some r) (row_of (without rows r.key) h))) (eq-eqb r.key h (sym e)) ∙ sym (cond-true (eqb r.key h) (Some r.weight) (weight_in rows h) (eq-eqb r.key h (sym e)))
          | inr ne ↦ let off = ne_eqb r.key h (λ q. ne (sym q)) in
              ap (λ b. option_map (λ (x : Row K). x.weight) (cond b (Some r) (row_of (without rows r.key) h))) off ∙ ap (option_map (λ (x : Row K). x.weight)) (row_of_other h r.key rows ne) ∙ sym (cond-false (eqb r.key h) (Some r.weight) (weight_in rows h) off)
        ]

        counts : (h : ℕ) → one_if (eqb r.key h && not (is_held rows r.key)) + times h rows ≡ times h (with_first rows r) + 0 + 0
        counts h = elim (cases_eq h r.key) [
          | inl e ↦
              let on = eq-eqb r.key h (sym e) in
              let new : one_if (eqb r.key h && not (is_held rows r.key)) ≡ one_if (not (is_held rows r.key)) = ap (λ b. one_if (b && not (is_held rows r.key))) on in
              let held : times h rows ≡ one_if (is_held rows r.key) = ap (λ k. times k rows) e ∙ one_held rows r.key d in
              let all : times h (with_first rows r) ≡ 1 + times h (without rows r.key) = times_yes h r (without rows r.key) on in
              let none : times h (without rows r.key) ≡ 0 = ap (λ k. times k (without rows r.key)) e ∙ times-without_same r.key rows in
              omega (arith, new, held, all, none, one_of (is_held rows r.key))
          | inr ne ↦
              let off = ne_eqb r.key h (λ q. ne (sym q)) in
              let new : one_if (eqb r.key h && not (is_held rows r.key)) ≡ 0 = ap (λ b. one_if (b && not (is_held rows r.key))) off in
              omega (arith, new, times_no h r (without rows r.key) off, times-without_other h r.key rows ne)
        ]

    -- a row that is there goes first
    moves : (h : ℕ) (o : Option (Row K)) → row_of rows h ≡ o → Follows rows (option_map_or (λ r. with_first rows r) o rows) None None (λ _. false) (λ _. false) (λ _. false)
    moves h None e = same
    moves h (Some r) e =
        let at = at_row rows h r d e in
        let key = at.same_key in
        let held : row_of rows r.key ≡ Some r = ap (row_of rows) key ∙ e in
        let f = firsts r in
        record {
          distinct = f.distinct;
          weighs = λ k. f.weighs k ∙ elim (cases_eq k r.key) [
            | inl q ↦ cond-true (eqb r.key k) (Some r.weight) (weight_in rows k) (eq-eqb r.key k (sym q)) ∙ sym (ap (weight_in rows) q ∙ ap (option_map (λ (x : Row K). x.weight)) held)
            | inr ne ↦ cond-false (eqb r.key k) (Some r.weight) (weight_in rows k) (ne_eqb r.key k (λ q. ne (sym q)))
          ];
          counts = λ k.
              let new : one_if (eqb r.key k && not (is_held rows r.key)) ≡ 0 = ap (λ o. one_if (eqb r.key k && not (is_some o))) held ∙ ap (λ b. one_if b) (both_no (eqb r.key k)) in
              omega (arith, new, f.counts k);
        }

    -- the row of a hash goes, if there is one
    leaves : (h : ℕ) (o : Option (Row K)) → row_of rows h ≡ o → Follows rows (without rows h) None (option_map (λ _. h) o) (λ _. false) (λ k. eqb h k && is_some o) (λ _. false)
    leaves h None e = record {
      distinct = distinct-without rows h d;
      weighs = λ k. elim (cases_eq k h) [
        | inl q ↦ ap (weight_in (without rows h)) q ∙ ap (option_map (λ (x : Row K). x.weight)) (row_of_absent h (without rows h) (times-without_same h rows) ∙ sym e) ∙ sym (ap (weight_in rows) q)
        | inr ne ↦ ap (option_map (λ (x : Row K). x.weight)) (row_of_other k h rows ne)
      ];
      counts = λ k. elim (cases_eq k h) [
        | inl q ↦
            let new : times k (without rows h) ≡ 0 = ap (λ j. times j (without rows h)) q ∙ times-without_same h rows in
            let old : times k rows ≡ 0 = ap (λ j. times j rows) q ∙ times_none rows h e in
            omega (arith, new, old, ap (λ b. one_if b) (both_no (eqb h k)))
        | inr ne ↦ omega (arith, times-without_other k h rows ne, ap (λ b. one_if b) (both_no (eqb h k)))
      ];
    }
    leaves h (Some r) e = record {
      distinct = distinct-without rows h d;
      weighs = λ k. elim (cases_eq k h) [
        | inl q ↦ ap (weight_in (without rows h)) q ∙ ap (option_map (λ (x : Row K). x.weight)) (row_of_absent h (without rows h) (times-without_same h rows)) ∙ sym (cond-true (eqb h k) None (weight_in rows k) (eq-eqb h k (sym q)))
        | inr ne ↦ ap (option_map (λ (x : Row K). x.weight)) (row_of_other k h rows ne) ∙ sym (cond-false (eqb h k) None (weight_in rows k) (ne_eqb h k (λ q. ne (sym q))))
      ];
      counts = λ k. elim (cases_eq k h) [
        | inl q ↦
            let new : times k (without rows h) ≡ 0 = ap (λ j. times j (without rows h)) q ∙ times-without_same h rows in
            let old : times k rows ≡ 1 = ap (λ j. times j rows) q ∙ one_held rows h d ∙ ap (λ o. one_if (is_some o)) e in
            let out : one_if (eqb h k && true) ≡ 1 = ap (λ b. one_if (b && true)) (eq-eqb h k (sym q)) in
            omega (arith, new, old, out)
        | inr ne ↦
            let out : one_if (eqb h k && true) ≡ 0 = ap (λ b. one_if (b && true)) (ne_eqb h k (λ q. ne (sym q))) in
            omega (arith, times-without_other k h rows ne, out)
      ];
    }

  -- a row behind others
  row_of_before : (rows : List (Row K)) (r : Row K) (h : ℕ) → h ≢ r.key → row_of (rows ++ r ∷ []) h ≡ row_of rows h
  row_of_before [] r h ne = cond-false (eqb r.key h) (Some r) None (ne_eqb r.key h (λ q. ne (sym q)))
  row_of_before (x ∷ rows) r h ne = ap (λ o. cond (eqb x.key h) (Some x) o) (row_of_before rows r h ne)

  module _ (rows : List (Row K)) (d : HasDistinctKeys rows) (r : Row K) (none : times r.key rows ≡ 0) where
    pushed : HasDistinctKeys (rows ++ r ∷ [])
    pushed h = elim (cases_eq h r.key) [
      | inl e ↦ omega (arith, none, times-append h rows (r ∷ []), ap (λ k. times k rows) e, times_yes h r [] (eq-eqb r.key h (sym e)))
      | inr ne ↦ omega (arith, d h, times-append h rows (r ∷ []), times_no h r [] (ne_eqb r.key h (λ q. ne (sym q))))
    ]

    -- a new row goes last
    lasts : Follows rows (rows ++ r ∷ []) (Some (r.key, r.weight)) None (λ h. eqb r.key h && not (is_held rows r.key)) (λ _. false) (λ _. false)
    lasts = record {
      distinct = pushed;
      weighs = λ h. elim (cases_eq h r.key) [
        | inl e ↦ ap (weight_in (rows ++ r ∷ [])) e ∙ ap (option_map (λ (x : Row K). x.weight)) (row_of_there rows [] r pushed) ∙ sym (cond-true (eqb r.key h) (Some r.weight) (weight_in rows h) (eq-eqb r.key h (sym e)))
        | inr ne ↦ ap (option_map (λ (x : Row K). x.weight)) (row_of_before rows r h ne) ∙ sym (cond-false (eqb r.key h) (Some r.weight) (weight_in rows h) (ne_eqb r.key h (λ q. ne (sym q))))
      ];
      counts = λ h. elim (cases_eq h r.key) [
        | inl e ↦
            let on = eq-eqb r.key h (sym e) in
            let new : one_if (eqb r.key h && not (is_held rows r.key)) ≡ one_if (not (is_held rows r.key)) = ap (λ b. one_if (b && not (is_held rows r.key))) on in
            omega (arith, new, one_held rows r.key d, one_of (is_held rows r.key), none, ap (λ k. times k rows) e, times-append h rows (r ∷ []), times_yes h r [] on)
        | inr ne ↦
            let off = ne_eqb r.key h (λ q. ne (sym q)) in
            let new : one_if (eqb r.key h && not (is_held rows r.key)) ≡ 0 = ap (λ b. one_if (b && not (is_held rows r.key))) off in
            omega (arith, new, times-append h rows (r ∷ []), times_no h r [] off)
      ];
    }

    -- the last row goes
    drops : Follows (rows ++ r ∷ []) rows None (Some r.key) (λ _. false) (λ _. false) (λ h. eqb r.key h)
    drops = record {
      distinct = d;
      weighs = λ h. elim (cases_eq h r.key) [
        | inl e ↦ ap (weight_in rows) e ∙ ap (option_map (λ (x : Row K). x.weight)) (row_of_absent r.key rows none) ∙ sym (cond-true (eqb r.key h) None (weight_in (rows ++ r ∷ []) h) (eq-eqb r.key h (sym e)))
        | inr ne ↦ sym (ap (option_map (λ (x : Row K). x.weight)) (row_of_before rows r h ne)) ∙ sym (cond-false (eqb r.key h) None (weight_in (rows ++ r ∷ []) h) (ne_eqb r.key h (λ q. ne (sym q))))
      ];
      counts = λ h. elim (cases_eq h r.key) [
        | inl e ↦ let on = eq-eqb r.key h (sym e) in omega (arith, times-append h rows (r ∷ []), times_yes h r [] on, ap one_if on)
        | inr ne ↦ let off = ne_eqb r.key h (λ q. ne (sym q)) in omega (arith, times-append h rows (r ∷ []), times_no h r [] off, ap one_if off)
      ];
    }

  module _ (rows : List (Row K)) (d : HasDistinctKeys rows) where
    -- a row goes last where its hash has none
    tails : (h : ℕ) (key : K) (w : ℕ) (b : Bool) → is_held rows h ≡ b
        → Follows rows (cond b rows (with_last rows (row h key w))) (cond b None (Some (h, w))) None (λ k. eqb h k && not b) (λ _. false) (λ _. false)
    tails h key w true e = record { distinct = d; weighs = λ k. refl; counts = λ k. omega (arith, ap one_if (both_no (eqb h k))) }
    tails h key w false e =
        let f = lasts rows d (row h key w) (one_held rows h d ∙ ap one_if e) in
        record { distinct = f.distinct; weighs = f.weighs; counts = λ k. ap (λ b. one_if (eqb h k && not b) + times k rows) (sym e) ∙ f.counts k }

    evicting : (o : Option (Row K)) → last_row rows ≡ o
        → Follows rows (without_last rows) None (option_map (λ (r : Row K). r.key) o) (λ _. false) (λ _. false) (λ h. option_map_or (λ (r : Row K). eqb r.key h) o false)
    evicting None e =
        let same_rows = (no_last rows (ap (option_map (λ (r : Row K). r.key)) (sym e))).0 in
        subst (λ rs. Follows rows rs None None (λ _. false) (λ _. false) (λ _. false)) (sym same_rows) (same rows d)
    evicting (Some r) e =
        let split = last_split rows r e in
        let whole : HasDistinctKeys (without_last rows ++ r ∷ []) = subst HasDistinctKeys split d in
        let none : times r.key (without_last rows) ≡ 0 = omega (arith, whole r.key, times-append r.key (without_last rows) (r ∷ []), times_yes r.key r [] (eq-eqb r.key r.key refl)) in
        subst (λ rs. Follows rs (without_last rows) None (Some r.key) (λ _. false) (λ _. false) (λ h. eqb r.key h)) (sym split) (drops (without_last rows) (distinct-front (without_last rows) (r ∷ []) whole) r none)

    -- each message
    pub follows : (msg : LruMsg K) → Follows rows (consumed rows msg) (put_of rows msg) (cleared_of rows msg) (λ h. brings h rows msg) (λ h. removes h rows msg) (λ h. evicts h rows msg)
    follows (Admit h key w) = firsts rows d (row h (kept rows h key) (max w 1))
    follows (IncrementWeight h key delta most) = firsts rows d (row h (kept rows h key) (grown delta most (row_of rows h)))
    follows (Promote h) = moves rows d h (row_of rows h) refl
    follows (Remove h) = leaves rows d h (row_of rows h) refl
    follows (InsertTail h key w) = tails h key w (is_held rows h) refl
    follows Evict = evicting (last_row rows) refl
    follows PeekLru = same rows d
    follows Snapshot = same rows d
    follows QueryWeight = same rows d

  -- what may want room depends on the map at the message's hash alone
  pub wants_same : (rows : List (Row K)) (f g : ℕ → Option ℕ) → ((h : ℕ) → f h ≡ g h) → (msg : LruMsg K) → MayWantRoom (Unit {0}) f rows msg → MayWantRoom (Unit {0}) g rows msg
  wants_same rows f g same (Admit h _ _) w = sym (same h) ∙ w
  wants_same rows f g same (IncrementWeight h _ _ _) w = sym (same h) ∙ w
  wants_same rows f g same (Promote _) w = w
  wants_same rows f g same (Remove _) w = w
  wants_same rows f g same (InsertTail h _ _) w = sym (same h) ∙ w
  wants_same rows f g same Evict w = w
  wants_same rows f g same PeekLru w = w
  wants_same rows f g same Snapshot w = w
  wants_same rows f g same QueryWeight w = w
