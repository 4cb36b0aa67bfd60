-- What calls answer of a shard, by what they answer of its rows; and what leaves a row taken out.
use Rattle.std.proofs.Common.{◌≡◌, ℕ, ◌+◌, ◌-◌, ◌≤◌, eqb, not, List, [], ◌∷◌, ◌++◌, length, map, Some, None, refl, sym, ap, ◌∙◌, arith, subst, false}
use Rattle.std.specs.Prelude.{Option, is_some, nat_eq, slice_get, take, ◌||◌}
use Rattle.std.specs.Option.{option_map}
use Rattle.std.specs.List.{list_any}
use Rattle.std.proofs.lemmas.Bool.{cond_both, false≢true}
use Rattle.std.proofs.lemmas.List.{map-append, take-map}
use Rattle.std.proofs.lemmas.Option.{slice_get-map}
use Rattle.lru_rows.specs.declared.rows.Taken.{Taken}
use Rattle.lru_rows.specs.Rows.{Placed, Recency, row_at, row_of as placed_of, IsAt as IsAtPlace, Finds, IsRecency, last_row as last_placed, pair_of as placed_pair, Removes, PopsLast}
use Rattle.lru_shard.specs.Representation.{row_in, rows_in, IsKept}
use Rattle.lru_shard.specs.Row.{Row, row_of, pair_of, times, is_held, weight_of, without, last_row, without_last}
use Rattle.lru_shard.specs.Shard.{Shard, shard, IsShard}
use Rattle.lru_shard.specs.Unit.{accessed}
use Rattle.lru_shard.proofs.Edits.{IsAt, none_around, last_row_push, without_last_push, without-at, weight-without, length-without, distinct-without, without-absent, accessed-absent}
use Rattle.lru_shard.proofs.Places.{Stands, row-of, rows-split, length-rows, stands_of, without-split, last_at}
use Rattle.lru_shard.proofs.Pulls.{row_key}
use Rattle.lru_shard.proofs.Refusals.{IsShard-front}
use Rattle.lru_shard.proofs.Rows.{weight-append}
use Rattle.lru_shard.proofs.UnitCalls.{times_none}

some_of : {A : Type 0} (a b : A) → Some a ≡ Some b → a ≡ b
some_of a b e = cc

module _ {T : Type 0} where
  of_place : (p : ℕ) (o : Option (Placed ℕ T)) → Some p ≡ option_map (λ (x : Placed ℕ T). x.place) o → (x : Placed ℕ T) × ((o ≡ Some x) × (x.place ≡ p))
  of_place p None e = cc
  of_place p (Some x) e = (x, (refl, cc))

  no_place : (o : Option (Placed ℕ T)) → None ≡ option_map (λ (x : Placed ℕ T). x.place) o → o ≡ None
  no_place None e = refl
  no_place (Some x) e = cc

  pub keys-rows : (ps : List (Placed ℕ T)) → map (λ (p : Placed ℕ T). p.key) ps ≡ map (λ (x : Row T). x.key) (rows_in ps)
  keys-rows [] = refl
  keys-rows (p ∷ ps) = ap (λ ks. p.key ∷ ks) (keys-rows ps)

  pub pairs-rows : (ps : List (Placed ℕ T)) → map placed_pair ps ≡ map pair_of (rows_in ps)
  pairs-rows [] = refl
  pairs-rows (p ∷ ps) = ap (λ ks. (p.value, p.weight) ∷ ks) (pairs-rows ps)

  get-rows : (ps : List (Placed ℕ T)) (i : ℕ) → slice_get (rows_in ps) i ≡ option_map row_in (slice_get ps i)
  get-rows ps i = slice_get-map row_in ps i

  pub last-row : (ps : List (Placed ℕ T)) → last_row (rows_in ps) ≡ option_map row_in (last_placed ps)
  last-row ps = ap (λ n. slice_get (rows_in ps) (n - 1)) (length-rows ps) ∙ get-rows ps (length ps - 1)

  -- a key among the first rows
  find-any : (k : ℕ) (rows : List (Row T)) → list_any (λ x. eqb x k) (map (λ (r : Row T). r.key) rows) ≡ is_held rows k
  find-any k [] = refl
  find-any k (r ∷ rows) =
      cond_both (eqb r.key k) (Some r) (row_of rows k) (λ o. (eqb r.key k || list_any (λ x. eqb x k) (map (λ (x : Row T). x.key) rows)) ≡ is_some o)
      (λ e. ap (λ b. b || list_any (λ x. eqb x k) (map (λ (x : Row T). x.key) rows)) e)
      (λ e. ap (λ b. b || list_any (λ x. eqb x k) (map (λ (x : Row T). x.key) rows)) e ∙ find-any k rows)

  any-held : (k : ℕ) (rows : List (Row T)) (n : ℕ) → list_any (λ x. eqb x k) (take n (map (λ (r : Row T). r.key) rows)) ≡ is_held (take n rows) k
  any-held k rows n = ap (list_any (λ x. eqb x k)) (take-map (λ (r : Row T). r.key) n rows) ∙ find-any k (take n rows)

  module _ (r : Recency ℕ T) (used cap : ℕ) (kept : IsKept r used cap) (old : Shard T) (view : shard (rows_in r.rows) cap ≡ old) where
    pub rows_are : rows_in r.rows ≡ old.rows
    rows_are = ap (λ (s : Shard T). s.rows) view

    pub len_is : length r.rows ≡ length old.rows
    len_is = sym (length-rows r.rows) ∙ ap length rows_are

    pub used_are : used ≡ weight_of old.rows
    used_are = kept.used_is ∙ ap weight_of rows_are

    pub valid_shard : IsShard old
    valid_shard = subst IsShard view kept.valid

    pub keys_are : map (λ (p : Placed ℕ T). p.key) r.rows ≡ map (λ (x : Row T). x.key) old.rows
    keys_are = keys-rows r.rows ∙ ap (map (λ (x : Row T). x.key)) rows_are

    pub pairs_are : map placed_pair r.rows ≡ map pair_of old.rows
    pairs_are = pairs-rows r.rows ∙ ap (map pair_of) rows_are

    pub promote_needed : (k limit : ℕ) → not (list_any (λ x. eqb x k) (take limit (map (λ (p : Placed ℕ T). p.key) r.rows))) ≡ not (is_held (take limit old.rows) k)
    promote_needed k limit = ap not (ap (λ ks. list_any (λ x. eqb x k) (take limit ks)) keys_are ∙ any-held k old.rows limit)

    module _ (k : ℕ) where
      row_is : row_of old.rows k ≡ option_map row_in (placed_of nat_eq r.rows k)
      row_is = ap (λ rs. row_of rs k) (sym rows_are) ∙ row-of r.rows k

      pub found_some : (o : Option ℕ) → Finds nat_eq r.rows k o → is_some o ≡ is_held old.rows k
      found_some None none = sym (ap is_some (row_is ∙ ap (option_map row_in) none))
      found_some (Some p) finds = sym (ap is_some (row_is ∙ ap (option_map row_in) finds.1))

      pub no_row_in : placed_of nat_eq r.rows k ≡ None → row_of old.rows k ≡ None
      no_row_in none = row_is ∙ ap (option_map row_in) none

      pub unaccessed : placed_of nat_eq r.rows k ≡ None → old ≡ shard (accessed old.rows k) old.cap
      unaccessed none = ap (λ rows. shard rows old.cap) (sym (accessed-absent old.rows k (times_none old.rows k (no_row_in none))))

      -- nothing is taken out
      pub unremoved : placed_of nat_eq r.rows k ≡ None → (r' : Recency ℕ T) → r' ≡ r → shard (rows_in r'.rows) cap ≡ shard (without old.rows k) old.cap
      unremoved none r' same =
          ap (λ (x : Recency ℕ T). shard (rows_in x.rows) cap) same ∙ view
          ∙ ap (λ rows. shard rows old.cap) (sym (without-absent old.rows k (times_none old.rows k (no_row_in none))))

      -- the key's row is taken out
      module _ (valid : IsRecency nat_eq r.rows) (t : Taken ℕ T) (r' : Recency ℕ T) (removes : Removes nat_eq r k (Some t) r') where
        stand : Stands r.rows removes.0.place removes.0
        stand = stands_of r.rows k removes.0 removes.1 (valid.places removes.0.place)

        row_here : row_of (rows_in r.rows) k ≡ Some (row_in removes.0)
        row_here = row-of r.rows k ∙ ap (option_map row_in) removes.1

        whole_in : rows_in r.rows ≡ rows_in stand.before ++ row_in removes.0 ∷ rows_in stand.after
        whole_in = ap rows_in stand.splits.whole ∙ rows-split stand.before removes.0 stand.after

        key_is : removes.0.key ≡ k
        key_is = row_key (rows_in r.rows) k (row_in removes.0) row_here

        around : (times k (rows_in stand.before) ≡ 0) × (times k (rows_in stand.after) ≡ 0)
        around = none_around (rows_in r.rows) (rows_in stand.before) (rows_in stand.after) k (row_in removes.0) kept.valid.keys whole_in key_is

        abbrev at : IsAt (rows_in r.rows) k (row_in removes.0)
        at = record { before = rows_in stand.before; after = rows_in stand.after; whole = whole_in; same_key = key_is; none_before = around.0; none_after = around.1 }

        weight_is : t.weight ≡ removes.0.weight
        weight_is = ap (λ (x : Taken ℕ T). x.weight) removes.2

        pub out_light : t.weight ≤ used
        out_light = omega (arith, weight_is, weight-without (rows_in r.rows) k (row_in removes.0) at, kept.used_is)

        gone_is : rows_in r'.rows ≡ without (rows_in r.rows) k
        gone_is =
            ap (λ (x : Recency ℕ T). rows_in x.rows) removes.3
            ∙ ap rows_in (without-split r.rows removes.0.place stand.before removes.0 stand.after stand.splits)
            ∙ map-append row_in stand.before stand.after ∙ sym (without-at (rows_in r.rows) k (row_in removes.0) at)

        pub kept_gone : IsKept r' (used - t.weight) cap
        kept_gone =
            let w = weight-without (rows_in r.rows) k (row_in removes.0) at in
            record {
              valid = subst (λ rs. IsShard (shard rs cap)) (sym gone_is) (record {
                keys = distinct-without (rows_in r.rows) k kept.valid.keys;
                light = omega (arith, kept.valid.light, w);
                short = omega (arith, kept.valid.short, length-without (rows_in r.rows) k (row_in removes.0) at);
              });
              used_is = omega (arith, weight_is, kept.used_is, w, ap weight_of gone_is);
            }

        pub answer_gone : Some (t.value, t.weight) ≡ option_map pair_of (row_of old.rows k)
        answer_gone = ap (λ (x : Taken ℕ T). Some (x.value, x.weight)) removes.2 ∙ sym (ap (option_map pair_of) (row_is ∙ ap (option_map row_in) removes.1))

        pub view_gone : shard (rows_in r'.rows) cap ≡ shard (without old.rows k) old.cap
        view_gone = subst (λ (s : Shard T). shard (rows_in r'.rows) cap ≡ shard (without s.rows k) s.cap) view (ap (λ rows. shard rows cap) gone_is)

    last_is : option_map row_in (last_placed r.rows) ≡ last_row old.rows
    last_is = sym (last-row r.rows) ∙ ap last_row rows_are

    pub nothing_found : {B : Type 0} (f : Row T → B) (k : ℕ) → placed_of nat_eq r.rows k ≡ None → None ≡ option_map f (row_of old.rows k)
    nothing_found f k none = sym (ap (option_map f) (no_row_in k none))

    -- the last row, by its place
    module _ (valid : IsRecency nat_eq r.rows) (p : ℕ) (last : Some p ≡ option_map (λ (x : Placed ℕ T). x.place) (last_placed r.rows)) where
      last_in : (x : Placed ℕ T) × ((last_placed r.rows ≡ Some x) × (x.place ≡ p))
      last_in = of_place p (last_placed r.rows) last

      last_old : last_row old.rows ≡ Some (row_in last_in.0)
      last_old = sym last_is ∙ ap (option_map row_in) last_in.1.0

      at_last : row_at r.rows p ≡ Some last_in.0
      at_last = last_at r.rows p last_in.0 last_in.1.0 last_in.1.1 (valid.places p)

      pub is_last : IsAtPlace r.rows p
      is_last = ap is_some at_last

      -- what is read there
      pub last_key : (k : ℕ) → option_map (λ (x : Placed ℕ T). x.key) (row_at r.rows p) ≡ Some k → Some k ≡ option_map (λ (x : Row T). x.key) (last_row old.rows)
      last_key k read = sym read ∙ ap (option_map (λ (x : Placed ℕ T). x.key)) at_last ∙ sym (ap (option_map (λ (x : Row T). x.key)) last_old)

      pub last_pair : (d : T) (w : ℕ) → option_map (λ (x : Placed ℕ T). x.value) (row_at r.rows p) ≡ Some d → option_map (λ (x : Placed ℕ T). x.weight) (row_at r.rows p) ≡ Some w →
          Some (d, w) ≡ option_map pair_of (last_row old.rows)
      last_pair d w value weight =
          let d_is : d ≡ last_in.0.value = some_of d last_in.0.value (sym value ∙ ap (option_map (λ (x : Placed ℕ T). x.value)) at_last) in
          let w_is : w ≡ last_in.0.weight = some_of w last_in.0.weight (sym weight ∙ ap (option_map (λ (x : Placed ℕ T). x.weight)) at_last) in
          ap (λ x. Some (x, w)) d_is ∙ ap (λ v. Some (last_in.0.value, v)) w_is ∙ sym (ap (option_map pair_of) last_old)

    -- there is none
    pub no_last : {B : Type 0} (f : Row T → B) → None ≡ option_map (λ (x : Placed ℕ T). x.place) (last_placed r.rows) → None ≡ option_map f (last_row old.rows)
    no_last f none = sym (ap (option_map f) (sym last_is ∙ ap (option_map row_in) (no_place (last_placed r.rows) none)))

    -- no row is left to take out
    pub unpopped : r.rows ≡ [] → (r' : Recency ℕ T) → r' ≡ r → shard (rows_in r'.rows) cap ≡ shard (without_last old.rows) old.cap
    unpopped none r' same =
        ap (λ (x : Recency ℕ T). shard (rows_in x.rows) cap) same
        ∙ subst (λ (s : Shard T). shard (rows_in r.rows) cap ≡ shard (without_last s.rows) s.cap) view
        (ap (λ ps. shard (rows_in ps) cap) none ∙ sym (ap (λ ps. shard (without_last (rows_in ps)) cap) none))

    pub answer_unpopped : r.rows ≡ [] → None ≡ option_map pair_of (last_row old.rows)
    answer_unpopped none = sym (ap (λ rs. option_map pair_of (last_row rs)) (sym rows_are ∙ ap rows_in none))

    module _ (t : Taken ℕ T) (r' : Recency ℕ T) (pops : PopsLast r (Some t) r') where
      end_is : rows_in r.rows ≡ rows_in pops.1 ++ row_in pops.0 ∷ []
      end_is = ap rows_in pops.2 ∙ rows-split pops.1 pops.0 []

      popped_weight : t.weight ≡ pops.0.weight
      popped_weight = ap (λ (x : Taken ℕ T). x.weight) pops.3

      whole_weight : weight_of (rows_in r.rows) ≡ weight_of (rows_in pops.1) + pops.0.weight
      whole_weight =
          let one : weight_of (row_in pops.0 ∷ []) ≡ pops.0.weight = omega arith in
          omega (arith, one, ap weight_of end_is, weight-append (rows_in pops.1) (row_in pops.0 ∷ []))

      pub pop_light : t.weight ≤ used
      pop_light = omega (arith, popped_weight, whole_weight, kept.used_is)

      front_is : rows_in r'.rows ≡ rows_in pops.1
      front_is = ap (λ (x : Recency ℕ T). rows_in x.rows) pops.4

      pub kept_popped : IsKept r' (used - t.weight) cap
      kept_popped = record {
        valid = subst (λ rs. IsShard (shard rs cap)) (sym front_is)
            (IsShard-front cap (rows_in pops.1) (row_in pops.0 ∷ []) (subst (λ rs. IsShard (shard rs cap)) end_is kept.valid));
        used_is = omega (arith, popped_weight, whole_weight, kept.used_is, ap weight_of front_is);
      }

      pub answer_popped : Some (t.value, t.weight) ≡ option_map pair_of (last_row old.rows)
      answer_popped =
          ap (λ (x : Taken ℕ T). Some (x.value, x.weight)) pops.3
          ∙ sym (ap (λ rs. option_map pair_of (last_row rs)) (sym rows_are ∙ end_is) ∙ ap (option_map pair_of) (last_row_push (rows_in pops.1) (row_in pops.0)))

      pub view_popped : shard (rows_in r'.rows) cap ≡ shard (without_last old.rows) old.cap
      view_popped = subst (λ (s : Shard T). shard (rows_in r'.rows) cap ≡ shard (without_last s.rows) s.cap) view
          (ap (λ rows. shard rows cap) (front_is ∙ sym (ap without_last end_is ∙ without_last_push (rows_in pops.1) (row_in pops.0))))

  -- a look-up that finds nothing
  pub none_found : (rows : List (Placed ℕ T)) (k : ℕ) (o : Option ℕ) → false ≡ is_some o → Finds nat_eq rows k o → placed_of nat_eq rows k ≡ None
  none_found rows k None e finds = finds
  none_found rows k (Some p) e finds = absurd (false≢true e)

  -- no rows at all
  pub kept_empty : (cap : ℕ) (r : Recency ℕ T) → r.rows ≡ [] → IsKept r 0 cap
  kept_empty cap r none = record {
    valid = subst (λ ps. IsShard (shard (rows_in ps) cap)) (sym none) (record { keys = λ k. omega arith; light = omega arith; short = omega arith });
    used_is = sym (ap (λ ps. weight_of (rows_in ps)) none);
  }
