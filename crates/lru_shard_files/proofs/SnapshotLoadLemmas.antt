-- Laws of rows that are put last in a shard of a core, and taken out again.
use Rattle.std.proofs.Common.{◌≡◌, ℕ, ◌+◌, ◌<◌, true, false, List, [], ◌∷◌, ◌++◌, length, take, drop, get_or, Ok, Err, suc, sym, ap, ◌∙◌, refl, arith}
use Rattle.std.specs.Prelude.{Option, Bool, map, is_some}
use Rattle.std.proofs.lemmas.List.{get_or-set_same, set-set, set-get_or, length-set, take-append-drop, drop_more, take_more, map-append}
use Rattle.std.proofs.lemmas.Bool.{not-false}
use Rattle.lru_shard.specs.declared.unit.Refused.{Refused}
use Rattle.pingora_lru.specs.Row.{Row, row, pair_of, times, HasDistinctKeys, is_held, without}
use Rattle.pingora_lru.specs.Shard.{Shard}
use Rattle.pingora_lru.specs.Core.{Core, list_at, with_list, home}
use Rattle.pingora_lru.specs.CoreCalls.{CoreInsertsTail}
use Rattle.lru_shard_files.specs.declared.snapshot.Keyed.{Keyed}
use Rattle.lru_shard_files.specs.SnapshotLoads.{row_of_pair, TellTheirKeys}
use Rattle.lru_shard_files.proofs.RowLaws.{without_there, row_of_absent}

module _ {T : Type 0} where
  pub list_at-with : (c : Core T) (s : ℕ) (rows : List (Row T)) → s < length c.lists → list_at (with_list c s rows) s ≡ rows
  list_at-with c s rows lt = get_or-set_same c.lists s rows [] lt

  pub with_list-twice : (c : Core T) (s : ℕ) (xs ys : List (Row T)) → with_list (with_list c s xs) s ys ≡ with_list c s ys
  with_list-twice c s xs ys = ap (λ lists. let d : Core T = record c { lists = lists } in d) (set-set c.lists s xs ys)

  pub with_list-own : (c : Core T) (s : ℕ) → with_list c s (list_at c s) ≡ c
  with_list-own c s = ap (λ lists. let d : Core T = record c { lists = lists } in d) (set-get_or c.lists s [])

  pub home-with : (c : Core T) (s : ℕ) (rows : List (Row T)) (k : ℕ) → home (with_list c s rows) k ≡ home c k
  home-with c s rows k = ap (λ n. Prim.Native.Nat.◌%◌ k n) (length-set c.lists s rows)

  -- a row that stands behind the held ones is taken out
  pub removed : (old : Core T) (s : ℕ) (held rest : List (Row T)) (r : Row T) (core new : Core T) → s < length old.lists → home old r.key ≡ s → HasDistinctKeys (held ++ r ∷ rest) → core ≡ with_list old s (held ++ r ∷ rest) → new ≡ with_list core (home core r.key) (without (list_at core (home core r.key)) r.key) → new ≡ with_list old s (held ++ rest)
  removed old s held rest r core new lt h d e f =
      let here : Core T = with_list old s (held ++ r ∷ rest) in
      f ∙ ap (λ c. with_list c (home c r.key) (without (list_at c (home c r.key)) r.key)) e
      ∙ ap (λ q. with_list here q (without (list_at here q) r.key)) (home-with old s (held ++ r ∷ rest) r.key ∙ h)
      ∙ ap (λ rows. with_list here s (without rows r.key)) (list_at-with old s (held ++ r ∷ rest) lt)
      ∙ ap (λ rows. with_list here s rows) (without_there held rest r d)
      ∙ with_list-twice old s (held ++ r ∷ rest) (held ++ rest)

  -- a refused insert leaves the core
  pub refused_leaves : (core new : Core T) (k : ℕ) (d : T) (w : ℕ) (r : Refused T) → CoreInsertsTail core k d w (Err r) new → new ≡ core
  refused_leaves core new k d w r h =
      h.left ∙ ap (λ rows. with_list core (home core k) rows) (ap (λ (x : Shard T). x.rows) h.acts.declines.left) ∙ with_list-own core (home core k)

  -- an insert of a key that is held leaves the core
  pub held_leaves : (core new : Core T) (k : ℕ) (d : T) (w : ℕ) (added : Bool) → added ≡ false → CoreInsertsTail core k d w (Ok added) new → new ≡ core
  held_leaves core new k d w added is_old h =
      let rows = list_at core (home core k) in
      let held : is_held rows k ≡ true = not-false _ (sym h.acts.0 ∙ is_old) in
      h.left ∙ ap (λ rs. with_list core (home core k) rs) (ap (λ (x : Shard T). x.rows) h.acts.1.left ∙ ap (λ b. Rattle.std.specs.Prelude.cond b rows (rows ++ row k d w ∷ [])) held) ∙ with_list-own core (home core k)

  -- a key without a row is put last
  pub put_absent : (core new : Core T) (k : ℕ) (d : T) (w : ℕ) (added : Bool) → times k (list_at core (home core k)) ≡ 0 → CoreInsertsTail core k d w (Ok added) new → new ≡ with_list core (home core k) (list_at core (home core k) ++ row k d w ∷ [])
  put_absent core new k d w added none h =
      let rows = list_at core (home core k) in
      let absent : is_held rows k ≡ false = ap (λ (o : Option (Row T)). is_some o) (row_of_absent k rows none) in
      h.left ∙ ap (λ rs. with_list core (home core k) rs) (ap (λ (x : Shard T). x.rows) h.acts.1.left ∙ ap (λ b. Rattle.std.specs.Prelude.cond b rows (rows ++ row k d w ∷ [])) absent)

  -- one row more of those that are put last
  pub put_more : (old : Core T) (s : ℕ) (rows : List (Row T)) (core new : Core T) (k : ℕ) (d : T) (w : ℕ) (added : Bool) → s < length old.lists → home old k ≡ s → times k rows ≡ 0 → core ≡ with_list old s rows → CoreInsertsTail core k d w (Ok added) new → new ≡ with_list old s (rows ++ row k d w ∷ [])
  put_more old s rows core new k d w added lt h none e i =
      let here : Core T = with_list old s rows in
      let at : home core k ≡ s = ap (λ c. home c k) e ∙ home-with old s rows k ∙ h in
      let own : list_at core (home core k) ≡ rows = ap (λ q. list_at core q) at ∙ ap (λ c. list_at c s) e ∙ list_at-with old s rows lt in
      put_absent core new k d w added (ap (λ rs. times k rs) own ∙ none) i
      ∙ ap (λ rs. with_list core (home core k) (rs ++ row k d w ∷ [])) own
      ∙ ap (λ q. with_list core q (rows ++ row k d w ∷ [])) at
      ∙ ap (λ c. with_list c s (rows ++ row k d w ∷ [])) e
      ∙ with_list-twice old s rows (rows ++ row k d w ∷ [])

-- a list round its item at a place, each seen by f
pub map_round : {X Y : Type 0} (f : X → Y) (xs : List X) (i : ℕ) (d : X) → i < length xs → map f xs ≡ map f (take i xs) ++ f (get_or xs i d) ∷ map f (drop (i + 1) xs)
map_round f xs i d lt = ap (λ ys. map f ys) (sym (take-append-drop i xs)) ∙ map-append f (take i xs) (drop i xs) ∙ ap (λ ys. map f (take i xs) ++ map f ys) (drop_more xs i d lt)

pub map_take_more : {X Y : Type 0} (f : X → Y) (xs : List X) (i : ℕ) (d : X) → i < length xs → map f (take (i + 1) xs) ≡ map f (take i xs) ++ f (get_or xs i d) ∷ []
map_take_more f xs i d lt = ap (λ ys. map f ys) (take_more xs i d lt) ∙ map-append f (take i xs) (get_or xs i d ∷ [])

pub map_drop_more : {X Y : Type 0} (f : X → Y) (xs : List X) (i : ℕ) (d : X) → i < length xs → map f (drop i xs) ≡ f (get_or xs i d) ∷ map f (drop (i + 1) xs)
map_drop_more f xs i d lt = ap (λ ys. map f ys) (drop_more xs i d lt)

-- rows whose data tell their keys are told by their pairs
pub rows_of_pairs : (rows : List (Row Keyed)) → TellTheirKeys rows → map row_of_pair (map (λ (r : Row Keyed). pair_of r) rows) ≡ rows
rows_of_pairs [] h = refl
rows_of_pairs (r ∷ rows) h =
    ap (λ k. row k r.value r.weight ∷ map row_of_pair (map (λ (q : Row Keyed). pair_of q) rows)) (h 0 r (omega arith))
    ∙ ap (λ rs. r ∷ rs) (rows_of_pairs rows (λ k d lt. h (suc k) d (omega arith)))
