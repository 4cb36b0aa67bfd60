-- One row more of those that a load puts.
use Rattle.std.proofs.Common.{◌≡◌, ℕ, ◌+◌, ◌<◌, true, false, List, [], ◌∷◌, ◌++◌, length, take, drop, get_or, Ok, sym, ap, ◌∙◌, subst, arith, append_assoc}
use Rattle.std.specs.Prelude.{Bool, map}
use Rattle.std.proofs.lemmas.Bool.{not-true, not-false}
use Rattle.pingora_lru.specs.Row.{Row, times, HasDistinctKeys, is_held}
use Rattle.pingora_lru.specs.Core.{Core, list_at, with_list, home}
use Rattle.pingora_lru.specs.CoreCalls.{CoreInsertsTail}
use Rattle.lru_shard_files.proofs.RowLaws.{times-append}
use Rattle.lru_shard_files.specs.declared.snapshot.Keyed.{Keyed}
use Rattle.lru_shard_files.specs.SnapshotLoads.{row_of_pair, AreHome, Joins}
use Rattle.lru_shard_files.proofs.SnapshotLoadLemmas.{list_at-with, with_list-twice, with_list-own, home-with, put_more, map_take_more}
use Rattle.lru_shard_files.proofs.SnapshotSteps.{times_round, times_own, times_take}
use Rattle.lru_shard_files.proofs.SnapshotJoins.{home_at, keys_more, times_not_held, times_held}

abbrev rows : List (Keyed × ℕ) → List (Row Keyed)
rows pairs = map row_of_pair pairs

-- the rows so far were put, and no key stands twice
pub record ArePut (old : Core Keyed) (s : ℕ) (pairs : List (Keyed × ℕ)) (i : ℕ) (core : Core Keyed) : Type 0 where
  pub put : core ≡ with_list old s (list_at old s ++ map row_of_pair (take i pairs))
  pub keys : HasDistinctKeys (list_at old s ++ map row_of_pair (take i pairs))

module _ (old : Core Keyed) (s : ℕ) (there : s < length old.lists) (pairs : List (Keyed × ℕ)) (homes : AreHome old s (map row_of_pair pairs)) (i : ℕ) (core new : Core Keyed) (so_far : ArePut old s pairs i core) where
  abbrev done : List (Row Keyed)
  done = list_at old s ++ rows (take i pairs)

  module _ (d : Keyed × ℕ) (lt : i < length pairs) where
    abbrev r : Row Keyed
    r = row_of_pair (get_or pairs i d)

    -- the rows of its shard are those so far
    own : list_at core (home core r.key) ≡ done
    own =
        let at : home core r.key ≡ s = ap (λ c. home c r.key) so_far.put ∙ home-with old s done r.key ∙ home_at old s pairs i d lt homes in
        ap (λ q. list_at core q) at ∙ ap (λ c. list_at c s) so_far.put ∙ list_at-with old s done there

    pub put_step : (added : Bool) → added ≡ true → CoreInsertsTail core (get_or pairs i d).0.key (get_or pairs i d).0 (get_or pairs i d).1 (Ok added) new → ArePut old s pairs (i + 1) new
    put_step added is_new h =
        let absent : false ≡ is_held (list_at core (home core r.key)) r.key = sym (not-true _ (sym h.acts.0 ∙ is_new)) in
        let none : times r.key done ≡ 0 = ap (λ rs. times r.key rs) (sym own) ∙ times_not_held _ r.key absent in record {
          put =
              put_more old s done core new r.key r.value r.weight added there (home_at old s pairs i d lt homes) none so_far.put h
              ∙ ap (λ rs. with_list old s rs) (append_assoc (list_at old s) (rows (take i pairs)) (r ∷ []) ∙ ap (λ rs. list_at old s ++ rs) (sym (map_take_more row_of_pair pairs i d lt)));
          keys = keys_more (list_at old s) pairs i d lt (omega (arith, none, times-append r.key (list_at old s) (rows (take i pairs)))) (omega (arith, none, times-append r.key (list_at old s) (rows (take i pairs)))) so_far.keys;
        }

    -- a key that is held already: the rows may not stand there
    pub twice_step : (added : Bool) → added ≡ false → CoreInsertsTail core (get_or pairs i d).0.key (get_or pairs i d).0 (get_or pairs i d).1 (Ok added) new → Joins old s (map row_of_pair pairs) → ⊥
    twice_step added is_old h j =
        let held : true ≡ is_held (list_at core (home core r.key)) r.key = sym (not-false _ (sym h.acts.0 ∙ is_old)) in
        let some : 0 < times r.key done = subst (λ rs. 0 < times r.key rs) own (times_held _ r.key held) in
        omega (arith, some, j.keys r.key, times-append r.key (list_at old s) (rows pairs), times-append r.key (list_at old s) (rows (take i pairs)), times_round r.key pairs i d lt, times_own r (rows (drop (i + 1) pairs)))

  -- the rows so far may stand there
  joins_so_far : Joins old s (rows (take i pairs))
  joins_so_far = record {
    homes = λ k h. homes k (omega (arith, h, times_take k pairs i));
    keys = so_far.keys;
  }

  -- the rows that were put are taken back
  pub back_step : (end : Core Keyed) → new ≡ core → ((held : List (Row Keyed)) → Joins (with_list new s held) s (map row_of_pair (take i pairs)) → list_at new s ≡ held ++ map row_of_pair (take i pairs) → end ≡ with_list new s held) → end ≡ old
  back_step end same h =
      let now : new ≡ with_list old s done = same ∙ so_far.put in
      let back : with_list new s (list_at old s) ≡ old =
      ap (λ c. with_list c s (list_at old s)) now ∙ with_list-twice old s done (list_at old s) ∙ with_list-own old s in
      h (list_at old s) (subst (λ c. Joins c s (rows (take i pairs))) (sym back) joins_so_far) (ap (λ c. list_at c s) now ∙ list_at-with old s done there) ∙ back
