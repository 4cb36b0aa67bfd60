-- Which rows may stand behind those of a shard.
use Rattle.std.proofs.Common.{◌≡◌, ℕ, ◌+◌, ◌%◌, ◌<◌, ◌≤◌, true, false, cond, eqb, ltb, inl, inr, ◌≢◌, List, [], ◌∷◌, ◌++◌, length, take, drop, get_or, Some, refl, sym, ap, ◌∙◌, subst, arith}
use Rattle.std.specs.Prelude.{Bool, Option, map, is_some}
use Rattle.std.proofs.lemmas.Bool.{cond_both, cases_eq, eq-eqb, ne_eqb, lt-ltb}
use Rattle.std.proofs.lemmas.List.{take_all}
use Rattle.pingora_lru.specs.Row.{Row, times, HasDistinctKeys, is_held, row_of}
use Rattle.pingora_lru.specs.Core.{Core, list_at, home}
use Rattle.lru_shard_files.proofs.RowLaws.{times-append, times_no, row_of_absent}
use Rattle.lru_shard_files.specs.declared.snapshot.Keyed.{Keyed}
use Rattle.lru_shard_files.specs.SnapshotLoads.{row_of_pair, AreHome, Joins}
use Rattle.lru_shard_files.proofs.SnapshotLoadLemmas.{map_take_more}
use Rattle.lru_shard_files.proofs.SnapshotSteps.{times_round, times_own}

abbrev rows : List (Keyed × ℕ) → List (Row Keyed)
rows pairs = map row_of_pair pairs

pub times_held : (held : List (Row Keyed)) (k : ℕ) → true ≡ is_held held k → 0 < times k held
times_held held k h =
    elim (cases_eq (times k held) 0) [
      | inl e ↦ absurd (let n : is_held held k ≡ false = ap (λ (o : Option (Row Keyed)). is_some o) (row_of_absent k held e) in let f : true ≡ false = h ∙ n in (cc))
      | inr ne ↦ omega arith
    ]

-- the shard of a row among those of this shard
pub home_at : (core : Core Keyed) (s : ℕ) (pairs : List (Keyed × ℕ)) (i : ℕ) (d : Keyed × ℕ) → i < length pairs → AreHome core s (map row_of_pair pairs) → home core (get_or pairs i d).0.key ≡ s
home_at core s pairs i d lt homes =
    let r = row_of_pair (get_or pairs i d) in
    homes r.key (omega (arith, times_round r.key pairs i d lt, times_own r (rows (drop (i + 1) pairs))))

-- the three ways in which a row may not stand there
pub not_home : (core : Core Keyed) (s : ℕ) (pairs : List (Keyed × ℕ)) (i : ℕ) (d : Keyed × ℕ) → i < length pairs → (n : ℕ) → length core.lists ≡ n → ((get_or pairs i d).0.key % n ≡ s → ⊥) → AreHome core s (map row_of_pair pairs) → ⊥
not_home core s pairs i d lt n count ne homes = ne (ap (λ m. (get_or pairs i d).0.key % m) (sym count) ∙ home_at core s pairs i d lt homes)

pub held_already : (core : Core Keyed) (s : ℕ) (pairs : List (Keyed × ℕ)) (i : ℕ) (d : Keyed × ℕ) → i < length pairs → home core (get_or pairs i d).0.key ≡ s → true ≡ is_held (list_at core (home core (get_or pairs i d).0.key)) (get_or pairs i d).0.key → Joins core s (map row_of_pair pairs) → ⊥
held_already core s pairs i d lt at h j =
    let r = row_of_pair (get_or pairs i d) in
    let held : true ≡ is_held (list_at core s) r.key = h ∙ ap (λ q. is_held (list_at core q) r.key) at in
    omega (arith, times_held (list_at core s) r.key held, j.keys r.key, times-append r.key (list_at core s) (rows pairs), times_round r.key pairs i d lt, times_own r (rows (drop (i + 1) pairs)))

pub stands_twice : (core : Core Keyed) (s : ℕ) (pairs : List (Keyed × ℕ)) (i : ℕ) (d : Keyed × ℕ) → i < length pairs → 0 < times (get_or pairs i d).0.key (map row_of_pair (take i pairs)) → Joins core s (map row_of_pair pairs) → ⊥
stands_twice core s pairs i d lt h j =
    let r = row_of_pair (get_or pairs i d) in
    omega (arith, j.keys r.key, times-append r.key (list_at core s) (rows pairs), times_round r.key pairs i d lt, times_own r (rows (drop (i + 1) pairs)))

-- one row more
times_more : (k : ℕ) (pairs : List (Keyed × ℕ)) (i : ℕ) (d : Keyed × ℕ) → i < length pairs → times k (rows (take (i + 1) pairs)) ≡ times k (rows (take i pairs)) + times k (row_of_pair (get_or pairs i d) ∷ [])
times_more k pairs i d lt = ap (λ rs. times k rs) (map_take_more row_of_pair pairs i d lt) ∙ times-append k (rows (take i pairs)) (row_of_pair (get_or pairs i d) ∷ [])

times_this : (r : Row Keyed) → times r.key (r ∷ []) ≡ 1
times_this r = times_own r []

times_other : (k : ℕ) (r : Row Keyed) → k ≢ r.key → times k (r ∷ []) ≡ 0
times_other k r ne = times_no k r [] (ne_eqb _ _ (λ q. ne (sym q)))

pub homes_more : (pairs : List (Keyed × ℕ)) (i : ℕ) (d : Keyed × ℕ) → i < length pairs → (n s : ℕ) → (get_or pairs i d).0.key % n ≡ s → ((k : ℕ) → 0 < times k (map row_of_pair (take i pairs)) → k % n ≡ s) → (k : ℕ) → 0 < times k (map row_of_pair (take (i + 1) pairs)) → k % n ≡ s
homes_more pairs i d lt n s at homes k h =
    let r = row_of_pair (get_or pairs i d) in
    elim (cases_eq k r.key) [
      | inl e ↦ ap (λ q. q % n) e ∙ at
      | inr ne ↦ homes k (omega (arith, times_more k pairs i d lt, times_other k r ne))
    ]

pub keys_more : (held : List (Row Keyed)) (pairs : List (Keyed × ℕ)) (i : ℕ) (d : Keyed × ℕ) → i < length pairs → times (get_or pairs i d).0.key held ≡ 0 → times (get_or pairs i d).0.key (map row_of_pair (take i pairs)) ≡ 0 → HasDistinctKeys (held ++ map row_of_pair (take i pairs)) → HasDistinctKeys (held ++ map row_of_pair (take (i + 1) pairs))
keys_more held pairs i d lt none new keys k =
    let r = row_of_pair (get_or pairs i d) in
    elim (cases_eq k r.key) [
      | inl e ↦
          let own : times r.key (held ++ rows (take (i + 1) pairs)) ≤ 1 = omega (arith, times-append r.key held (rows (take (i + 1) pairs)), times_more r.key pairs i d lt, times_this r) in
          subst (λ q. times q (held ++ rows (take (i + 1) pairs)) ≤ 1) (sym e) own
      | inr ne ↦ omega (arith, keys k, times-append k held (rows (take i pairs)), times-append k held (rows (take (i + 1) pairs)), times_more k pairs i d lt, times_other k r ne)
    ]

-- a set of the keys so far, after this one
pub seen_more : (pairs : List (Keyed × ℕ)) (i : ℕ) (d : Keyed × ℕ) → i < length pairs → (k : ℕ) (was now : Bool) → now ≡ cond (eqb (get_or pairs i d).0.key k) true was → was ≡ ltb 0 (times k (map row_of_pair (take i pairs))) → now ≡ ltb 0 (times k (map row_of_pair (take (i + 1) pairs)))
seen_more pairs i d lt k was now h so_far =
    let r = row_of_pair (get_or pairs i d) in
    elim (cases_eq k r.key) [
      | inl e ↦
          let one : times r.key (rows (take (i + 1) pairs)) ≡ times r.key (rows (take i pairs)) + 1 = omega (arith, times_more r.key pairs i d lt, times_this r) in
          let some : 0 < times r.key (rows (take (i + 1) pairs)) = omega arith in
          h ∙ ap (λ b. cond b true was) (eq-eqb r.key k (sym e)) ∙ sym (ap (λ q. ltb 0 (times q (rows (take (i + 1) pairs)))) e ∙ lt-ltb 0 (times r.key (rows (take (i + 1) pairs))) some)
      | inr ne ↦
          let same : times k (rows (take (i + 1) pairs)) ≡ times k (rows (take i pairs)) = omega (arith, times_more k pairs i d lt, times_other k r ne) in
          h ∙ ap (λ b. cond b true was) (ne_eqb r.key k (λ q. ne (sym q))) ∙ so_far ∙ ap (λ n. ltb 0 n) (sym same)
    ]

-- all rows were looked at
pub all_home : (core : Core Keyed) (s : ℕ) (pairs : List (Keyed × ℕ)) (i n : ℕ) → length pairs ≤ i → length core.lists ≡ n → ((k : ℕ) → 0 < times k (map row_of_pair (take i pairs)) → k % n ≡ s) → AreHome core s (map row_of_pair pairs)
all_home core s pairs i n done count homes =
    let all : take i pairs ≡ pairs = take_all i pairs done in
    λ k h. ap (λ m. k % m) count ∙ homes k (subst (λ ps. 0 < times k (rows ps)) (sym all) h)

pub all_join : (core : Core Keyed) (s : ℕ) (pairs : List (Keyed × ℕ)) (i : ℕ) → length pairs ≤ i → AreHome core s (map row_of_pair pairs) → HasDistinctKeys (list_at core s ++ map row_of_pair (take i pairs)) → Joins core s (map row_of_pair pairs)
all_join core s pairs i done homes keys =
    let all : take i pairs ≡ pairs = take_all i pairs done in record { homes = homes; keys = subst (λ ps. HasDistinctKeys (list_at core s ++ rows ps)) all keys }

-- a key without a row that is held
pub times_not_held : (held : List (Row Keyed)) (k : ℕ) → false ≡ is_held held k → times k held ≡ 0
times_not_held [] k h = refl
times_not_held (r ∷ held) k h =
    cond_both (eqb r.key k) (Some r) (row_of held k) (λ (o : Option (Row Keyed)). false ≡ is_some o → times k (r ∷ held) ≡ 0)
    (λ e q. absurd (let f : false ≡ true = q in (cc))) (λ e q. times_no k r held e ∙ times_not_held held k q) h
