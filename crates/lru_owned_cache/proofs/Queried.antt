-- What is found, used or taken out by what stands for a key.
use Rattle.std.proofs.Common.{◌≡◌, ℕ, ◌+◌, ◌-◌, ◌≤◌, List, [], ◌∷◌, length, Some, None, refl, sym, ap, ◌∙◌, subst, arith, true, false}
use Rattle.std.specs.Prelude.{Option, Bool, is_some, IsTrue}
use Rattle.std.specs.Option.{option_map, option_map_or}
use Rattle.lru_rows.specs.declared.rows.Taken.{Taken}
use Rattle.std.specs.Borrow.{MutBor}
use Rattle.lru_rows.specs.Rows.{placed, with_value, Updates, UpdatesAt, Placed, Recency, recency, row_at, row_of, IsAt, Finds, IsRecency, promoted, Removes as RowsRemoves, without as rows_without}
use Rattle.lru_owned_cache.specs.declared.entry.Entry.{Entry}
use Rattle.lru_owned_cache.specs.Cache.{UpdatesEntry, Cached, entry_of, without, used, used_with, with_entries}
use Rattle.lru_owned_cache.specs.Entries.{entry, entry_in, entries_in, weight_in}
use Rattle.lru_owned_cache.specs.Representation.{cached_in, IsKept}
use Rattle.lru_owned_cache.proofs.Rows.{some_of, with_value-without, with_value-first, row_first, by_bool, row_place, weight-cons, weight-without, length-without, length-entries}
use Rattle.lru_owned_cache.proofs.Entries.{row_there, entry-row, entries-without, absent_without, keyed, keyed-cons, counts}
use Rattle.lru_owned_cache.proofs.Views.{entries_are, with_rows}

-- a query stands for one row's key at most
module _ {K Q V : Type 0} (stands : K → Q → Bool) (query : Q) (same_key : K → K → Bool) (itself : (k : K) → IsTrue (same_key k k)) (agree : (x y : K) → IsTrue (stands x query) → IsTrue (stands y query) → IsTrue (same_key x y)) where
  fewer_stand : (k : K) → IsTrue (stands k query) → (rows : List (Placed K V)) → keyed stands query rows ≤ keyed same_key k rows
  fewer_stand k it [] = omega arith
  fewer_stand k it (x ∷ xs) =
      by_bool (stands x.key query)
      (λ e. omega (arith, fewer_stand k it xs, keyed-cons stands query x xs, counts stands x query true e, keyed-cons same_key k x xs, counts same_key x k true (agree x.key k e it)))
      (λ e. omega (arith, fewer_stand k it xs, keyed-cons stands query x xs, counts stands x query false e, keyed-cons same_key k x xs))

  pub one_stands : (rows : List (Placed K V)) → ((k : K) → keyed same_key k rows ≤ 1) → keyed stands query rows ≤ 1
  one_stands [] once = omega arith
  one_stands (x ∷ xs) once =
      by_bool (stands x.key query)
      (λ e. omega (arith, fewer_stand x.key e xs, once x.key, keyed-cons stands query x xs, counts stands x query true e, keyed-cons same_key x.key x xs, counts same_key x x.key true (itself x.key)))
      (λ e. omega (arith, one_stands xs (λ k. omega (arith, once k, keyed-cons same_key k x xs)), keyed-cons stands query x xs, counts stands x query false e))

module _ {K Q V S : Type 0} (same_key : K → K → Bool) (r : Recency K V) (hashes : S) (used_is most_weight most_entries : ℕ) (kept : IsKept r used_is most_weight most_entries) (c : Cached K V S)
    (view : cached_in r hashes most_weight most_entries ≡ c) (stands : K → Q → Bool) (query : Q) where
  same_entries : entries_in r.rows ≡ c.entries
  same_entries = entries_are same_key r hashes used_is most_weight most_entries kept c view

  found_entry : entry_of stands c.entries query ≡ option_map entry_in (row_of stands r.rows query)
  found_entry = ap (λ es. entry_of stands es query) (sym same_entries) ∙ entry-row stands r.rows query

  pub query_some : (o : Option ℕ) → Finds stands r.rows query o → is_some o ≡ is_some (entry_of stands c.entries query)
  query_some None none = sym (ap is_some (found_entry ∙ ap (option_map entry_in) none))
  query_some (Some p) (x, found, at) = sym (ap is_some (found_entry ∙ ap (option_map entry_in) found))

  pub query_at : (p : ℕ) → Finds stands r.rows query (Some p) → IsAt r.rows p
  query_at p (x, found, at) = ap is_some at

  pub query_value : (p : ℕ) (v : V) → Finds stands r.rows query (Some p) → option_map (λ (x : Placed K V). x.value) (row_at r.rows p) ≡ Some v → Some v ≡ option_map (λ (e : Entry K V). e.value) (entry_of stands c.entries query)
  query_value p v (x, found, at) is =
      sym is ∙ ap (option_map (λ (y : Placed K V). y.value)) at ∙ sym (ap (option_map (λ (e : Entry K V). e.value)) (found_entry ∙ ap (option_map entry_in) found))

  pub query_weight : (p : ℕ) (w : ℕ) → Finds stands r.rows query (Some p) → option_map (λ (x : Placed K V). x.weight) (row_at r.rows p) ≡ Some w → Some w ≡ option_map (λ (e : Entry K V). e.weight) (entry_of stands c.entries query)
  query_weight p w (x, found, at) is =
      sym is ∙ ap (option_map (λ (y : Placed K V). y.weight)) at ∙ sym (ap (option_map (λ (e : Entry K V). e.weight)) (found_entry ∙ ap (option_map entry_in) found))

  pub query_nothing : {B : Type 0} (f : Entry K V → B) → Finds stands r.rows query None → None ≡ option_map f (entry_of stands c.entries query)
  query_nothing f none = sym (ap (option_map f) (found_entry ∙ ap (option_map entry_in) none))

  unchanged : with_entries c c.entries ≡ c
  unchanged =
      subst (λ x. with_entries x x.entries ≡ x) view
      (ap (λ n. record { entries = entries_in r.rows; places = n; most_weight = most_weight; most_entries = most_entries; hashes = hashes }) (omega (arith, length-entries r.rows)))

  pub query_unused : Finds stands r.rows query None → c ≡ with_entries c (used stands c.entries query)
  query_unused none =
      sym unchanged
      ∙ ap (with_entries c) (sym (ap (λ o. option_map_or (λ e. e ∷ without stands c.entries query) o c.entries) (found_entry ∙ ap (option_map entry_in) none)))

  pub query_unupdated : {R : Type 0} (post : MutBor V → ℕ → R → MutBor V → Type 0) (o : Option R) → o ≡ None → Finds stands r.rows query None → UpdatesEntry stands post c query o c
  query_unupdated post o is none = subst (λ x. UpdatesEntry stands post c query x c) (sym is) (found_entry ∙ ap (option_map entry_in) none, refl)

  pub query_untaken : (o : Option (Entry K V)) → o ≡ None → row_of stands r.rows query ≡ None → o ≡ entry_of stands c.entries query
  query_untaken o is none = is ∙ sym (found_entry ∙ ap (option_map entry_in) none)

  pub query_kept_all : (r' : Recency K V) → r' ≡ r → row_of stands r.rows query ≡ None → cached_in r' hashes most_weight most_entries ≡ with_entries c (without stands c.entries query)
  query_kept_all r' is none =
      ap (λ x. cached_in x hashes most_weight most_entries) is ∙ view ∙ sym unchanged
      ∙ ap (with_entries c) (sym (ap (λ es. without stands es query) (sym same_entries) ∙ absent_without stands query r.rows none ∙ same_entries))

  module _ (itself : (k : K) → IsTrue (same_key k k)) (agree : (x y : K) → IsTrue (stands x query) → IsTrue (stands y query) → IsTrue (same_key x y)) (valid : IsRecency same_key r.rows) where
    one : keyed stands query r.rows ≤ 1
    one = one_stands stands query same_key itself agree r.rows valid.keys

    -- the entry goes first
    module _ (p : ℕ) (finds : Finds stands r.rows query (Some p)) where
      first : promoted r.rows p ≡ finds.0 ∷ rows_without r.rows p
      first = ap (λ o. option_map_or (λ x. x ∷ rows_without r.rows p) o r.rows) finds.2

      others : entries_in (rows_without r.rows p) ≡ without stands c.entries query
      others =
          ap (λ q. entries_in (rows_without r.rows q)) (sym (row_place r.rows p finds.0 finds.2))
          ∙ entries-without stands query r.rows finds.0 finds.1 valid.places one ∙ ap (λ es. without stands es query) same_entries

      as_long : length r.rows ≡ 1 + length (rows_without r.rows p)
      as_long = length-without p r.rows (ap is_some finds.2) (valid.places p)

      pub query_kept_used : (r' : Recency K V) → r' ≡ recency (promoted r.rows p) r.free → IsKept r' used_is most_weight most_entries
      query_kept_used r' is = subst (λ x. IsKept x used_is most_weight most_entries) (sym (is ∙ ap (λ rs. recency rs r.free) first)) (record {
        used_is = kept.used_is ∙ weight-without p r.rows finds.0 finds.2 (valid.places p) ∙ sym (weight-cons finds.0 (rows_without r.rows p));
        light = kept.light;
        few = omega (arith, kept.few, as_long);
      })

      pub query_view_used : (r' : Recency K V) → r' ≡ recency (promoted r.rows p) r.free → cached_in r' hashes most_weight most_entries ≡ with_entries c (used stands c.entries query)
      query_view_used r' is =
          ap (λ x. cached_in x hashes most_weight most_entries) (is ∙ ap (λ rs. recency rs r.free) first)
          ∙ with_rows same_key r hashes used_is most_weight most_entries kept c view (finds.0 ∷ rows_without r.rows p) r.free (omega (arith, as_long))
          ∙ ap (with_entries c)
          (ap (λ es. entry_in finds.0 ∷ es) others
          ∙ sym (ap (λ o. option_map_or (λ e. e ∷ without stands c.entries query) o c.entries) (found_entry ∙ ap (option_map entry_in) finds.1)))

      place_is : finds.0.place ≡ p
      place_is = row_place r.rows p finds.0 finds.2

      pub query_at_first : (r' : Recency K V) → r' ≡ recency (promoted r.rows p) r.free → IsAt r'.rows p
      query_at_first r' is = ap is_some (ap (λ rs. row_at rs p) (ap (λ (x : Recency K V). x.rows) is ∙ first) ∙ row_first finds.0 (rows_without r.rows p) p place_is)

      -- its value is lent, and may be another then
      module _ (r' : Recency K V) (is : r' ≡ recency (promoted r.rows p) r.free) where
        first_is : r'.rows ≡ finds.0 ∷ rows_without r.rows p
        first_is = ap (λ (x : Recency K V). x.rows) is ∙ first

        row_first_is : row_at r'.rows p ≡ Some finds.0
        row_first_is = ap (λ rs. row_at rs p) first_is ∙ row_first finds.0 (rows_without r.rows p) p place_is

        pub query_value_lent : (v : V) → option_map (λ (x : Placed K V). x.value) (row_at r'.rows p) ≡ Some v → Some v ≡ option_map (λ (e : Entry K V). e.value) (entry_of stands c.entries query)
        query_value_lent v at =
            sym at ∙ ap (option_map (λ (y : Placed K V). y.value)) row_first_is ∙ sym (ap (option_map (λ (e : Entry K V). e.value)) (found_entry ∙ ap (option_map entry_in) finds.1))

        module _ (v : V) where
          rows_lent : recency (with_value r'.rows p v) r'.free ≡ recency (placed finds.0.place finds.0.key v finds.0.weight ∷ rows_without r.rows p) r.free
          rows_lent =
              ap (λ n. recency (with_value r'.rows p v) n) (ap (λ (x : Recency K V). x.free) is)
              ∙ ap (λ rs. recency rs r.free)
              (ap (λ rs. with_value rs p v) first_is ∙ with_value-first p v finds.0 (rows_without r.rows p) place_is
              ∙ ap (λ rs. placed finds.0.place finds.0.key v finds.0.weight ∷ rs) (with_value-without p v r.rows))

          pub query_kept_lent : IsKept (recency (with_value r'.rows p v) r'.free) used_is most_weight most_entries
          query_kept_lent = subst (λ x. IsKept x used_is most_weight most_entries) (sym rows_lent) (record {
            used_is = kept.used_is ∙ weight-without p r.rows finds.0 finds.2 (valid.places p) ∙ sym (weight-cons (placed finds.0.place finds.0.key v finds.0.weight) (rows_without r.rows p));
            light = kept.light;
            few = omega (arith, kept.few, as_long);
          })

          view_lent : cached_in (recency (with_value r'.rows p v) r'.free) hashes most_weight most_entries ≡ with_entries c (entry finds.0.key v finds.0.weight ∷ without stands c.entries query)
          view_lent =
              ap (λ x. cached_in x hashes most_weight most_entries) rows_lent
              ∙ with_rows same_key r hashes used_is most_weight most_entries kept c view (placed finds.0.place finds.0.key v finds.0.weight ∷ rows_without r.rows p) r.free (omega (arith, as_long))
              ∙ ap (λ es. with_entries c (entry finds.0.key v finds.0.weight ∷ es)) others

          pub query_view_lent : cached_in (recency (with_value r'.rows p v) r'.free) hashes most_weight most_entries ≡ with_entries c (used_with stands c.entries query v)
          query_view_lent =
              view_lent
              ∙ ap (with_entries c) (sym (ap (λ o. option_map_or (λ e. entry e.key v e.weight ∷ without stands c.entries query) o c.entries) (found_entry ∙ ap (option_map entry_in) finds.1)))

        -- by a closure
        module _ {R : Type 0} (post : MutBor V → ℕ → R → MutBor V → Type 0) (answer : R) (r'' : Recency K V) (updates : UpdatesAt post r' p answer r'') where
          row_is : updates.0 ≡ finds.0
          row_is = some_of updates.0 finds.0 (sym updates.1 ∙ row_first_is)

          pub query_kept_updated : IsKept r'' used_is most_weight most_entries
          query_kept_updated = subst (λ x. IsKept x used_is most_weight most_entries) (sym updates.4) (query_kept_lent updates.2)

          pub query_view_updated : UpdatesEntry stands post c query (Some answer) (cached_in r'' hashes most_weight most_entries)
          query_view_updated = (
            entry_in finds.0,
            (
              found_entry ∙ ap (option_map entry_in) finds.1,
              (
                updates.2,
                (
                  subst (λ x. Updates post x.value x.weight answer updates.2) row_is updates.3,
                  ap (λ x. cached_in x hashes most_weight most_entries) updates.4 ∙ view_lent updates.2,
                ),
              ),
            ),
          )

    -- or is taken out
    module _ (t : Taken K V) (r' : Recency K V) (removes : RowsRemoves stands r query (Some t) r') where
      there : row_at r.rows removes.0.place ≡ Some removes.0
      there = row_there stands query r.rows removes.0 removes.1 valid.places

      gone_heavy : weight_in r.rows ≡ removes.0.weight + weight_in (rows_without r.rows removes.0.place)
      gone_heavy = weight-without removes.0.place r.rows removes.0 there (valid.places removes.0.place)

      gone_long : length r.rows ≡ 1 + length (rows_without r.rows removes.0.place)
      gone_long = length-without removes.0.place r.rows (ap is_some there) (valid.places removes.0.place)

      weight_is : t.weight ≡ removes.0.weight
      weight_is = ap (λ (x : Taken K V). x.weight) removes.2

      pub query_light : t.weight ≤ used_is
      query_light = omega (arith, weight_is, gone_heavy, kept.used_is)

      pub query_kept_gone : IsKept r' (used_is - t.weight) most_weight most_entries
      query_kept_gone = subst (λ x. IsKept x (used_is - t.weight) most_weight most_entries) (sym removes.3) (record {
        used_is = omega (arith, weight_is, gone_heavy, kept.used_is);
        light = omega (arith, kept.light);
        few = omega (arith, kept.few, gone_long);
      })

      pub query_answer : Some (entry t.key t.value t.weight) ≡ entry_of stands c.entries query
      query_answer = ap (λ (x : Taken K V). Some (entry x.key x.value x.weight)) removes.2 ∙ sym (found_entry ∙ ap (option_map entry_in) removes.1)

      pub query_view_gone : cached_in r' hashes most_weight most_entries ≡ with_entries c (without stands c.entries query)
      query_view_gone =
          ap (λ x. cached_in x hashes most_weight most_entries) removes.3
          ∙ with_rows same_key r hashes used_is most_weight most_entries kept c view (rows_without r.rows removes.0.place) (r.free + 1) (omega (arith, gone_long))
          ∙ ap (with_entries c) (entries-without stands query r.rows removes.0 removes.1 valid.places one ∙ ap (λ es. without stands es query) same_entries)
