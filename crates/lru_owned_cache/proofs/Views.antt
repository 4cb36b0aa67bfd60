-- What calls make of a cache, by what they make of its rows.
use Rattle.std.proofs.Common.{◌≡◌, ℕ, ◌+◌, ◌-◌, ◌≤◌, List, [], ◌∷◌, ◌++◌, length, map, Some, None, refl, sym, ap, ◌∙◌, subst, arith}
use Rattle.std.specs.Prelude.{Option, Bool, is_some, max, count_by, ◌==◌}
use Rattle.std.specs.Option.{option_map, option_map_or}
use Rattle.std.proofs.lemmas.List.{map-append, length-append}
use Rattle.lru_rows.specs.declared.rows.Taken.{Taken}
use Rattle.lru_rows.specs.Rows.{last_row, placed, with_value, Updates, UpdatesAt, Placed, Recency, recency, row_at, row_of, IsAt, Finds, IsRecency, promoted, taken, Removes as RowsRemoves, PopsLast as RowsPopsLast, PopsFirst as RowsPopsFirst, demoted as rows_demoted, entry_of as rows_entry_of, without as rows_without}
use Rattle.lru_owned_cache.specs.declared.entry.Entry.{Entry}
use Rattle.std.specs.Borrow.{MutBor}
use Rattle.lru_owned_cache.specs.Cache.{IsLast, UpdatesEntry, Cached, entry_of, without, used, demoted, parts_of, with_entries, IsCache, PopsLast, PopsFirst}
use Rattle.lru_owned_cache.specs.Entries.{entry, weight_of, entry_in, entries_in, weight_in}
use Rattle.lru_owned_cache.specs.Representation.{cached_in, IsKept}
use Rattle.lru_owned_cache.proofs.Rows.{last_told, none_told, row_last, some_of, with_value-without, with_value-first, row_first, row_place, weight-entries, length-entries, weight-cons, weight-append, weight-without, length-without}
use Rattle.lru_pairs.specs.Pairs.{with_entry, SameKey}
use Rattle.lru_pairs.proofs.Exchanged.{with_entry-first, with_entry-without, found_same}
use Rattle.lru_owned_cache.proofs.Entries.{row_there, entry-row, keyed-entries, entries-without, absent_without}

-- the greater of two, where that is known
max_left : (a b : ℕ) → b ≤ a → max a b ≡ a
max_left a b le = omega (arith, le)

keys_in : {K V : Type 0} (rows : List (Placed K V)) → map (λ (x : Placed K V). x.key) rows ≡ map (λ (e : Entry K V). e.key) (entries_in rows)
keys_in [] = refl
keys_in (r ∷ rs) = ap (λ ks. r.key ∷ ks) (keys_in rs)

parts_in : {K V : Type 0} (rows : List (Placed K V)) → map rows_entry_of rows ≡ map parts_of (entries_in rows)
parts_in [] = refl
parts_in (r ∷ rs) = ap (λ ps. (r.key, r.value, r.weight) ∷ ps) (parts_in rs)

module _ {K V S : Type 0} (eq : K → K → Bool) (r : Recency K V) (hashes : S) (used_is most_weight most_entries : ℕ) (kept : IsKept r used_is most_weight most_entries) (c : Cached K V S)
    (view : cached_in r hashes most_weight most_entries ≡ c) where
  pub entries_are : entries_in r.rows ≡ c.entries
  entries_are = ap (λ (x : Cached K V S). x.entries) view

  -- a cache whose entries stand for these rows
  pub with_rows : (rows : List (Placed K V)) (free : ℕ) → length rows + free ≡ max (length r.rows + r.free) (length rows) → cached_in (recency rows free) hashes most_weight most_entries ≡ with_entries c (entries_in rows)
  with_rows rows free is =
      ap (λ n. record { entries = entries_in rows; places = n; most_weight = most_weight; most_entries = most_entries; hashes = hashes })
      (is ∙ ap (max (length r.rows + r.free)) (sym (length-entries rows)))
      ∙ ap (λ (x : Cached K V S). with_entries x (entries_in rows)) view

  pub weighs : used_is ≡ weight_of c.entries
  weighs = kept.used_is ∙ sym (weight-entries r.rows) ∙ ap weight_of entries_are

  pub keys_are : map (λ (x : Placed K V). x.key) r.rows ≡ map (λ (e : Entry K V). e.key) c.entries
  keys_are = keys_in r.rows ∙ ap (map (λ (e : Entry K V). e.key)) entries_are

  pub parts_are : map rows_entry_of r.rows ≡ map parts_of c.entries
  parts_are = parts_in r.rows ∙ ap (map parts_of) entries_are

  pub valid_cache : IsRecency eq r.rows → IsCache eq c
  valid_cache valid = subst (IsCache eq) view (record {
    keys = λ k. omega (arith, keyed-entries eq k r.rows, valid.keys k);
    fits = (omega (arith, weight-entries r.rows, kept.used_is, kept.light), omega (arith, length-entries r.rows, kept.few));
    placed = omega (arith, length-entries r.rows);
    short = omega (arith, length-entries r.rows, valid.short);
  })

  -- the last entry is shown
  module _ (valid : IsRecency eq r.rows) (p : ℕ) (told : Some p ≡ option_map (λ (x : Placed K V). x.place) (last_row r.rows)) where
    last_at : (x : Placed K V) × ((row_at r.rows p ≡ Some x) × ((front : List (Placed K V)) × (r.rows ≡ front ++ x ∷ [])))
    last_at =
        let last = last_told r.rows p told in
        let rows_are = last.1.1.1 in
        let at = row_last last.1.1.0 last.0 (λ q. subst (λ rs. count_by (λ (y : Placed K V). y.place == q) rs ≤ 1) rows_are (valid.places q)) in
        (last.0, (ap (λ rs. row_at rs p) rows_are ∙ ap (row_at (last.1.1.0 ++ last.0 ∷ [])) (sym last.1.0) ∙ at, last.1.1))

    pub last_stands : IsAt r.rows p
    last_stands = ap is_some last_at.1.0

    pub last_shown : (k : K) (v : V) (w : ℕ) → option_map (λ (x : Placed K V). x.key) (row_at r.rows p) ≡ Some k → option_map (λ (x : Placed K V). x.value) (row_at r.rows p) ≡ Some v →
        option_map (λ (x : Placed K V). x.weight) (row_at r.rows p) ≡ Some w → IsLast c.entries (Some (entry k v w))
    last_shown k v w key_is value_is weight_is =
        let x = last_at.0 in
        let key : x.key ≡ k = some_of x.key k (sym (ap (option_map (λ (y : Placed K V). y.key)) last_at.1.0) ∙ key_is) in
        let value : x.value ≡ v = some_of x.value v (sym (ap (option_map (λ (y : Placed K V). y.value)) last_at.1.0) ∙ value_is) in
        let weight : x.weight ≡ w = some_of x.weight w (sym (ap (option_map (λ (y : Placed K V). y.weight)) last_at.1.0) ∙ weight_is) in (
          entries_in last_at.1.1.0,
          sym entries_are ∙ ap entries_in last_at.1.1.1 ∙ map-append entry_in last_at.1.1.0 (x ∷ [])
              ∙ ap (λ e. entries_in last_at.1.1.0 ++ e ∷ []) (ap (λ y. entry y x.value x.weight) key ∙ ap (λ y. entry k y x.weight) value ∙ ap (λ y. entry k v y) weight),
        )

  module _ (key : K) where
    pub found_entry : entry_of eq c.entries key ≡ option_map entry_in (row_of eq r.rows key)
    found_entry = ap (λ es. entry_of eq es key) (sym entries_are) ∙ entry-row eq r.rows key

    -- what is found
    pub found_some : (o : Option ℕ) → Finds eq r.rows key o → is_some o ≡ is_some (entry_of eq c.entries key)
    found_some None none = sym (ap is_some (found_entry ∙ ap (option_map entry_in) none))
    found_some (Some p) (x, found, at) = sym (ap is_some (found_entry ∙ ap (option_map entry_in) found))

    pub is_at : (p : ℕ) → Finds eq r.rows key (Some p) → IsAt r.rows p
    is_at p (x, found, at) = ap is_some at

    pub value_found : (p : ℕ) (v : V) → Finds eq r.rows key (Some p) → option_map (λ (x : Placed K V). x.value) (row_at r.rows p) ≡ Some v → Some v ≡ option_map (λ (e : Entry K V). e.value) (entry_of eq c.entries key)
    value_found p v (x, found, at) is =
        sym is ∙ ap (option_map (λ (y : Placed K V). y.value)) at ∙ sym (ap (option_map (λ (e : Entry K V). e.value)) (found_entry ∙ ap (option_map entry_in) found))

    pub weight_found : (p : ℕ) (w : ℕ) → Finds eq r.rows key (Some p) → option_map (λ (x : Placed K V). x.weight) (row_at r.rows p) ≡ Some w → Some w ≡ option_map (λ (e : Entry K V). e.weight) (entry_of eq c.entries key)
    weight_found p w (x, found, at) is =
        sym is ∙ ap (option_map (λ (y : Placed K V). y.weight)) at ∙ sym (ap (option_map (λ (e : Entry K V). e.weight)) (found_entry ∙ ap (option_map entry_in) found))

    pub nothing_found : {B : Type 0} (f : Entry K V → B) → Finds eq r.rows key None → None ≡ option_map f (entry_of eq c.entries key)
    nothing_found f none = sym (ap (option_map f) (found_entry ∙ ap (option_map entry_in) none))

    -- what is not there is not taken out
    pub unfound : (o : Option (Entry K V)) → o ≡ None → row_of eq r.rows key ≡ None → o ≡ entry_of eq c.entries key
    unfound o is none = is ∙ sym (found_entry ∙ ap (option_map entry_in) none)

    -- nothing changes for a key without an entry
    same_entries : with_entries c c.entries ≡ c
    same_entries =
        subst (λ x. with_entries x x.entries ≡ x) view
        (ap (λ n. record { entries = entries_in r.rows; places = n; most_weight = most_weight; most_entries = most_entries; hashes = hashes })
        (max_left (length r.rows + r.free) (length (entries_in r.rows)) (omega (arith, length-entries r.rows))))

    pub view_unupdated : {R : Type 0} (post : MutBor V → ℕ → R → MutBor V → Type 0) (o : Option R) → o ≡ None → Finds eq r.rows key None → UpdatesEntry eq post c key o c
    view_unupdated post o is none = subst (λ x. UpdatesEntry eq post c key x c) (sym is) (found_entry ∙ ap (option_map entry_in) none, refl)

    pub unused : Finds eq r.rows key None → c ≡ with_entries c (used eq c.entries key)
    unused none =
        sym same_entries
        ∙ ap (with_entries c) (sym (ap (λ o. option_map_or (λ e. e ∷ without eq c.entries key) o c.entries) (found_entry ∙ ap (option_map entry_in) none)))

    pub undemoted : Finds eq r.rows key None → c ≡ with_entries c (demoted eq c.entries key)
    undemoted none =
        sym same_entries
        ∙ ap (with_entries c) (sym (ap (λ o. option_map_or (λ e. without eq c.entries key ++ e ∷ []) o c.entries) (found_entry ∙ ap (option_map entry_in) none)))

    pub nothing_gone : row_of eq r.rows key ≡ None → c ≡ with_entries c (without eq c.entries key)
    nothing_gone none =
        sym same_entries ∙ ap (with_entries c) (sym (ap (λ es. without eq es key) (sym entries_are) ∙ absent_without eq key r.rows none ∙ entries_are))

    pub view_unremoved : (r' : Recency K V) → r' ≡ r → row_of eq r.rows key ≡ None → cached_in r' hashes most_weight most_entries ≡ with_entries c (without eq c.entries key)
    view_unremoved r' is none = ap (λ x. cached_in x hashes most_weight most_entries) is ∙ view ∙ nothing_gone none

    module _ (valid : IsRecency eq r.rows) where
      -- the key's entry goes first
      module _ (p : ℕ) (finds : Finds eq r.rows key (Some p)) where
        first : promoted r.rows p ≡ finds.0 ∷ rows_without r.rows p
        first = ap (λ o. option_map_or (λ x. x ∷ rows_without r.rows p) o r.rows) finds.2

        place_is : finds.0.place ≡ p
        place_is = row_place r.rows p finds.0 finds.2

        others : entries_in (rows_without r.rows p) ≡ without eq c.entries key
        others =
            ap (λ q. entries_in (rows_without r.rows q)) (sym place_is)
            ∙ entries-without eq key r.rows finds.0 finds.1 valid.places (valid.keys key) ∙ ap (λ es. without eq es key) entries_are

        as_long : length r.rows ≡ 1 + length (rows_without r.rows p)
        as_long = length-without p r.rows (ap is_some finds.2) (valid.places p)

        as_heavy : weight_in r.rows ≡ finds.0.weight + weight_in (rows_without r.rows p)
        as_heavy = weight-without p r.rows finds.0 finds.2 (valid.places p)

        pub kept_used : (r' : Recency K V) → r' ≡ recency (promoted r.rows p) r.free → IsKept r' used_is most_weight most_entries
        kept_used r' is = subst (λ x. IsKept x used_is most_weight most_entries) (sym (is ∙ ap (λ rs. recency rs r.free) first)) (record {
          used_is = kept.used_is ∙ as_heavy ∙ sym (weight-cons finds.0 (rows_without r.rows p));
          light = kept.light;
          few = omega (arith, kept.few, as_long);
        })

        pub view_used : (r' : Recency K V) → r' ≡ recency (promoted r.rows p) r.free → cached_in r' hashes most_weight most_entries ≡ with_entries c (used eq c.entries key)
        view_used r' is =
            ap (λ x. cached_in x hashes most_weight most_entries) (is ∙ ap (λ rs. recency rs r.free) first)
            ∙ with_rows (finds.0 ∷ rows_without r.rows p) r.free (omega (arith, as_long))
            ∙ ap (with_entries c)
            (ap (λ es. entry_in finds.0 ∷ es) others
            ∙ sym (ap (λ o. option_map_or (λ e. e ∷ without eq c.entries key) o c.entries) (found_entry ∙ ap (option_map entry_in) finds.1)))

        -- or last
        last : rows_demoted r.rows p ≡ rows_without r.rows p ++ finds.0 ∷ []
        last = ap (λ o. option_map_or (λ x. rows_without r.rows p ++ x ∷ []) o r.rows) finds.2

        pub kept_demoted : (r' : Recency K V) → r' ≡ recency (rows_demoted r.rows p) r.free → IsKept r' used_is most_weight most_entries
        kept_demoted r' is = subst (λ x. IsKept x used_is most_weight most_entries) (sym (is ∙ ap (λ rs. recency rs r.free) last)) (record {
          used_is = omega (arith, kept.used_is, as_heavy, weight-append (rows_without r.rows p) (finds.0 ∷ []), weight-cons finds.0 []);
          light = kept.light;
          few = omega (arith, kept.few, as_long, length-append (rows_without r.rows p) (finds.0 ∷ []));
        })

        pub view_demoted : (r' : Recency K V) → r' ≡ recency (rows_demoted r.rows p) r.free → cached_in r' hashes most_weight most_entries ≡ with_entries c (demoted eq c.entries key)
        view_demoted r' is =
            ap (λ x. cached_in x hashes most_weight most_entries) (is ∙ ap (λ rs. recency rs r.free) last)
            ∙ with_rows (rows_without r.rows p ++ finds.0 ∷ []) r.free (omega (arith, as_long, length-append (rows_without r.rows p) (finds.0 ∷ [])))
            ∙ ap (with_entries c)
            (map-append entry_in (rows_without r.rows p) (finds.0 ∷ []) ∙ ap (λ es. es ++ entry_in finds.0 ∷ []) others
            ∙ sym (ap (λ o. option_map_or (λ e. without eq c.entries key ++ e ∷ []) o c.entries) (found_entry ∙ ap (option_map entry_in) finds.1)))

        pub at_first : (r' : Recency K V) → r' ≡ recency (promoted r.rows p) r.free → IsAt r'.rows p
        at_first r' is =
            ap is_some (ap (λ rs. row_at rs p) (ap (λ (x : Recency K V). x.rows) is ∙ first) ∙ row_first finds.0 (rows_without r.rows p) p place_is)

        -- its value is lent
        module _ {R : Type 0} (post : MutBor V → ℕ → R → MutBor V → Type 0) (answer : R) (r' r'' : Recency K V) (is : r' ≡ recency (promoted r.rows p) r.free) (updates : UpdatesAt post r' p answer r'') where
          first_is : r'.rows ≡ finds.0 ∷ rows_without r.rows p
          first_is = ap (λ (x : Recency K V). x.rows) is ∙ first

          row_is : updates.0 ≡ finds.0
          row_is = some_of updates.0 finds.0 (sym updates.1 ∙ ap (λ rs. row_at rs p) first_is ∙ row_first finds.0 (rows_without r.rows p) p place_is)

          rows_now : r'' ≡ recency (placed finds.0.place finds.0.key updates.2 finds.0.weight ∷ rows_without r.rows p) r.free
          rows_now =
              updates.4 ∙ ap (λ n. recency (with_value r'.rows p updates.2) n) (ap (λ (x : Recency K V). x.free) is)
              ∙ ap (λ rs. recency rs r.free)
              (ap (λ rs. with_value rs p updates.2) first_is ∙ with_value-first p updates.2 finds.0 (rows_without r.rows p) place_is
              ∙ ap (λ rs. placed finds.0.place finds.0.key updates.2 finds.0.weight ∷ rs) (with_value-without p updates.2 r.rows))

          pub kept_updated : IsKept r'' used_is most_weight most_entries
          kept_updated = subst (λ x. IsKept x used_is most_weight most_entries) (sym rows_now) (record {
            used_is = kept.used_is ∙ as_heavy ∙ sym (weight-cons (placed finds.0.place finds.0.key updates.2 finds.0.weight) (rows_without r.rows p));
            light = kept.light;
            few = omega (arith, kept.few, as_long);
          })

          pub view_updated : UpdatesEntry eq post c key (Some answer) (cached_in r'' hashes most_weight most_entries)
          view_updated = (
            entry_in finds.0,
            (
              found_entry ∙ ap (option_map entry_in) finds.1,
              (
                updates.2,
                (
                  subst (λ x. Updates post x.value x.weight answer updates.2) row_is updates.3,
                  ap (λ x. cached_in x hashes most_weight most_entries) rows_now
                      ∙ with_rows (placed finds.0.place finds.0.key updates.2 finds.0.weight ∷ rows_without r.rows p) r.free (omega (arith, as_long))
                      ∙ ap (λ es. with_entries c (entry finds.0.key updates.2 finds.0.weight ∷ es)) others,
                ),
              ),
            ),
          )

        -- another pair of an equal key stands in its place
        module _ (k : K) (v : V) (t : Taken K V) (r' r'' : Recency K V) (is : r' ≡ recency (promoted r.rows p) r.free) (was : option_map taken (row_at r'.rows p) ≡ Some t) (put : r'' ≡ recency (with_entry r'.rows p k v t.weight) r'.free) where
          moved : r'.rows ≡ finds.0 ∷ rows_without r.rows p
          moved = ap (λ (x : Recency K V). x.rows) is ∙ first

          pub at_moved : row_at r'.rows p ≡ Some finds.0
          at_moved = ap (λ rs. row_at rs p) moved ∙ row_first finds.0 (rows_without r.rows p) p place_is

          taken_is : t ≡ taken finds.0
          taken_is = some_of t (taken finds.0) (sym was ∙ ap (option_map taken) at_moved)

          rows_put : r'' ≡ recency (placed p k v t.weight ∷ rows_without r.rows p) r.free
          rows_put =
              put ∙ ap (λ n. recency (with_entry r'.rows p k v t.weight) n) (ap (λ (x : Recency K V). x.free) is)
              ∙ ap (λ rs. recency rs r.free)
              (ap (λ rs. with_entry rs p k v t.weight) moved ∙ with_entry-first p k v t.weight finds.0 (rows_without r.rows p) place_is
              ∙ ap (λ rs. placed p k v t.weight ∷ rs) (with_entry-without p k v t.weight r.rows))

          pub kept_put : IsKept r'' used_is most_weight most_entries
          kept_put = subst (λ x. IsKept x used_is most_weight most_entries) (sym rows_put) (record {
            used_is = omega (arith, kept.used_is, as_heavy, weight-cons (placed p k v t.weight) (rows_without r.rows p), ap (λ (x : Taken K V). x.weight) taken_is);
            light = kept.light;
            few = omega (arith, kept.few, as_long);
          })

          pub view_put : cached_in r'' hashes most_weight most_entries ≡ with_entries c (entry k v t.weight ∷ without eq c.entries key)
          view_put =
              ap (λ x. cached_in x hashes most_weight most_entries) rows_put
              ∙ with_rows (placed p k v t.weight ∷ rows_without r.rows p) r.free (omega (arith, as_long))
              ∙ ap (λ es. with_entries c (entry k v t.weight ∷ es)) others

          pub entry_put : entry_of eq c.entries key ≡ Some (entry t.key t.value t.weight)
          entry_put = found_entry ∙ ap (option_map entry_in) finds.1 ∙ ap (λ (x : Taken K V). Some (entry x.key x.value x.weight)) (sym taken_is)

        -- the key that stands there equals the one that was asked for
        pub same_there : (r' : Recency K V) → r' ≡ recency (promoted r.rows p) r.free → SameKey eq r'.rows p key
        same_there r' is =
            (finds.0, ap (λ rs. row_at rs p) (ap (λ (x : Recency K V). x.rows) is ∙ first) ∙ row_first finds.0 (rows_without r.rows p) p place_is, found_same eq r.rows key finds.0 finds.1)

      -- the key's entry is taken out
      module _ (t : Taken K V) (r' : Recency K V) (removes : RowsRemoves eq r key (Some t) r') where
        gone_heavy : weight_in r.rows ≡ removes.0.weight + weight_in (rows_without r.rows removes.0.place)
        gone_heavy = weight-without removes.0.place r.rows removes.0 (row_there eq key r.rows removes.0 removes.1 valid.places) (valid.places removes.0.place)

        gone_long : length r.rows ≡ 1 + length (rows_without r.rows removes.0.place)
        gone_long = length-without removes.0.place r.rows (ap is_some (row_there eq key r.rows removes.0 removes.1 valid.places)) (valid.places removes.0.place)

        weight_is : t.weight ≡ removes.0.weight
        weight_is = ap (λ (x : Taken K V). x.weight) removes.2

        pub out_light : t.weight ≤ used_is
        out_light = omega (arith, weight_is, gone_heavy, kept.used_is)

        pub kept_gone : IsKept r' (used_is - t.weight) most_weight most_entries
        kept_gone = subst (λ x. IsKept x (used_is - t.weight) most_weight most_entries) (sym removes.3) (record {
          used_is = omega (arith, weight_is, gone_heavy, kept.used_is);
          light = omega (arith, kept.light);
          few = omega (arith, kept.few, gone_long);
        })

        pub answer_gone : Some (entry t.key t.value t.weight) ≡ entry_of eq c.entries key
        answer_gone = ap (λ (x : Taken K V). Some (entry x.key x.value x.weight)) removes.2 ∙ sym (found_entry ∙ ap (option_map entry_in) removes.1)

        pub view_gone : cached_in r' hashes most_weight most_entries ≡ with_entries c (without eq c.entries key)
        view_gone =
            ap (λ x. cached_in x hashes most_weight most_entries) removes.3
            ∙ with_rows (rows_without r.rows removes.0.place) (r.free + 1) (omega (arith, gone_long))
            ∙ ap (with_entries c) (entries-without eq key r.rows removes.0 removes.1 valid.places (valid.keys key) ∙ ap (λ es. without eq es key) entries_are)

  -- the last entry is taken out
  module _ (t : Taken K V) (r' : Recency K V) (pops : RowsPopsLast r (Some t) r') where
    last_heavy : weight_in r.rows ≡ weight_in pops.1 + pops.0.weight
    last_heavy = omega (arith, ap weight_in pops.2, weight-append pops.1 (pops.0 ∷ []), weight-cons pops.0 [])

    last_long : length r.rows ≡ length pops.1 + 1
    last_long = ap length pops.2 ∙ length-append pops.1 (pops.0 ∷ [])

    last_weight : t.weight ≡ pops.0.weight
    last_weight = ap (λ (x : Taken K V). x.weight) pops.3

    pub last_light : t.weight ≤ used_is
    last_light = omega (arith, last_weight, last_heavy, kept.used_is)

    pub kept_popped : IsKept r' (used_is - t.weight) most_weight most_entries
    kept_popped = subst (λ x. IsKept x (used_is - t.weight) most_weight most_entries) (sym pops.4) (record {
      used_is = omega (arith, last_weight, last_heavy, kept.used_is);
      light = omega (arith, kept.light);
      few = omega (arith, kept.few, last_long);
    })

    pub view_popped : PopsLast c (Some (entry t.key t.value t.weight)) (cached_in r' hashes most_weight most_entries)
    view_popped = (
      entries_in pops.1,
      (
        sym entries_are ∙ ap entries_in pops.2 ∙ map-append entry_in pops.1 (pops.0 ∷ [])
            ∙ ap (λ e. entries_in pops.1 ++ e ∷ []) (sym (ap (λ (x : Taken K V). entry x.key x.value x.weight) pops.3)),
        ap (λ x. cached_in x hashes most_weight most_entries) pops.4 ∙ with_rows pops.1 (r.free + 1) (omega (arith, last_long)),
      ),
    )

  -- or the first
  pub view_popped_first : (t : Taken K V) (r' : Recency K V) → RowsPopsFirst r (Some t) r' → PopsFirst c (Some (entry t.key t.value t.weight)) (cached_in r' hashes most_weight most_entries)
  view_popped_first t r' pops = (
    entries_in pops.1,
    (
      sym entries_are ∙ ap entries_in pops.2 ∙ ap (λ e. e ∷ entries_in pops.1) (sym (ap (λ (x : Taken K V). entry x.key x.value x.weight) pops.3)),
      ap (λ x. cached_in x hashes most_weight most_entries) pops.4 ∙ with_rows pops.1 (r.free + 1) (omega (arith, ap length pops.2)),
    ),
  )

  -- where there is no last place there are no entries
  pub last_missing : None ≡ option_map (λ (x : Placed K V). x.place) (last_row r.rows) → IsLast c.entries None
  last_missing told = sym entries_are ∙ ap entries_in (none_told r.rows told)

  pub view_unpopped : RowsPopsLast r None r → PopsLast c None c
  view_unpopped pops = (sym entries_are ∙ ap entries_in pops.0, refl)
