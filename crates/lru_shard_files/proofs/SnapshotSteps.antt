-- One row more of those that a load takes back.
use Rattle.std.proofs.Common.{◌≡◌, ℕ, ◌+◌, ◌<◌, ◌≤◌, List, ◌∷◌, ◌++◌, length, take, drop, get_or, refl, sym, ap, ◌∙◌, subst, arith}
use Rattle.std.specs.Prelude.{map}
use Rattle.std.proofs.lemmas.List.{take-append-drop, map-append}
use Rattle.std.proofs.lemmas.Bool.{eq-eqb}
use Rattle.pingora_lru.specs.Row.{Row, times, HasDistinctKeys, without}
use Rattle.pingora_lru.specs.Core.{Core, list_at, with_list, home}
use Rattle.lru_shard_files.proofs.RowLaws.{times-append, times_yes}
use Rattle.lru_shard_files.specs.declared.snapshot.Keyed.{Keyed}
use Rattle.lru_shard_files.specs.SnapshotLoads.{row_of_pair, Joins}
use Rattle.lru_shard_files.proofs.SnapshotLoadLemmas.{list_at-with, home-with, removed, map_round, map_drop_more}

abbrev rows : List (Keyed × ℕ) → List (Row Keyed)
rows pairs = map row_of_pair pairs

-- the rows at and round a place, counted by key
pub times_round : (k : ℕ) (pairs : List (Keyed × ℕ)) (i : ℕ) (d : Keyed × ℕ) → i < length pairs → times k (map row_of_pair pairs) ≡ times k (map row_of_pair (take i pairs)) + times k (row_of_pair (get_or pairs i d) ∷ map row_of_pair (drop (i + 1) pairs))
times_round k pairs i d lt = ap (λ rs. times k rs) (map_round row_of_pair pairs i d lt) ∙ times-append k (rows (take i pairs)) (row_of_pair (get_or pairs i d) ∷ rows (drop (i + 1) pairs))

-- a row is counted under its own key
pub times_own : (r : Row Keyed) (rest : List (Row Keyed)) → times r.key (r ∷ rest) ≡ 1 + times r.key rest
times_own r rest = times_yes r.key r rest (eq-eqb _ _ refl)

pub times_take : (k : ℕ) (pairs : List (Keyed × ℕ)) (i : ℕ) → times k (map row_of_pair (take i pairs)) ≤ times k (map row_of_pair pairs)
times_take k pairs i =
    let e : times k (rows pairs) ≡ times k (rows (take i pairs)) + times k (rows (drop i pairs)) =
    ap (λ ps. times k (rows ps)) (sym (take-append-drop i pairs)) ∙ ap (λ rs. times k rs) (map-append row_of_pair (take i pairs) (drop i pairs)) ∙ times-append k (rows (take i pairs)) (rows (drop i pairs)) in
    omega arith

pub take_step : (old : Core Keyed) (s : ℕ) (held : List (Row Keyed)) (pairs : List (Keyed × ℕ)) (i : ℕ) (d : Keyed × ℕ) (core new : Core Keyed) → i < length pairs → s < length old.lists → Joins (with_list old s held) s (map row_of_pair pairs) → core ≡ with_list old s (held ++ map row_of_pair (drop i pairs)) → new ≡ with_list core (home core (get_or pairs i d).0.key) (without (list_at core (home core (get_or pairs i d).0.key)) (get_or pairs i d).0.key) → new ≡ with_list old s (held ++ map row_of_pair (drop (i + 1) pairs))
take_step old s held pairs i d core new lt there j e f =
    let r = row_of_pair (get_or pairs i d) in
    let rest = rows (drop (i + 1) pairs) in
    let some : 0 < times r.key (rows pairs) = omega (arith, times_round r.key pairs i d lt, times_own r rest) in
    let at : home old r.key ≡ s = sym (home-with old s held r.key) ∙ j.homes r.key some in
    let all : HasDistinctKeys (held ++ rows pairs) = subst (λ xs. HasDistinctKeys (xs ++ rows pairs)) (list_at-with old s held there) j.keys in
    let distinct : HasDistinctKeys (held ++ r ∷ rest) = λ k. omega (arith, all k, times-append k held (rows pairs), times-append k held (r ∷ rest), times_round k pairs i d lt) in
    removed old s held rest r core new there at distinct (e ∙ ap (λ rs. with_list old s (held ++ rs)) (map_drop_more row_of_pair pairs i d lt)) f
