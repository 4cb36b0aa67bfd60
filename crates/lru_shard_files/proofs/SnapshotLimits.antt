-- The limits of a shard, with the rows of a load.
use Rattle.std.proofs.Common.{◌≡◌, ℕ, ◌+◌, ◌<◌, ◌≤◌, List, ◌∷◌, ◌++◌, length, take, drop, get_or, Some, sym, ap, ◌∙◌, arith}
use Rattle.std.specs.Prelude.{map, if◌then◌else◌, None, nat_lt}
use Rattle.std.proofs.lemmas.Bool.{le-ltb, lt-ltb}
use Rattle.lru_shard.specs.declared.unit.Cause.TheVariants.{Weight, Length}
use Rattle.pingora_lru.specs.Row.{Row, weight_of}
use Rattle.pingora_lru.specs.Shard.{most_rows}
use Rattle.lru_shard_files.proofs.RowLaws.{weight-append, weight-cons}
use Rattle.lru_shard_files.specs.declared.snapshot.Keyed.{Keyed}
use Rattle.lru_shard_files.specs.SnapshotLoads.{row_of_pair, limit_passed}
use Rattle.lru_shard_files.proofs.SnapshotLoadLemmas.{map_round}

pub passed_weight : (cap : ℕ) (rows : List (Row Keyed)) → length rows ≤ most_rows cap → cap < weight_of rows → Some Weight ≡ limit_passed cap rows
passed_weight cap rows short heavy =
    sym (ap (λ b. if b then Some Length else (if nat_lt cap (weight_of rows) then Some Weight else None)) (le-ltb (most_rows cap) (length rows) short)
    ∙ ap (λ b. if b then Some Weight else None) (lt-ltb cap (weight_of rows) heavy))

-- the rows so far leave less than the next one weighs
pub weight_over : (held : List (Row Keyed)) (pairs : List (Keyed × ℕ)) (i : ℕ) (d : Keyed × ℕ) → i < length pairs → (free cap : ℕ) → free + weight_of (held ++ map row_of_pair (take i pairs)) ≡ cap → free < (get_or pairs i d).1 → cap < weight_of (held ++ map row_of_pair pairs)
weight_over held pairs i d lt free cap e over =
    let r = row_of_pair (get_or pairs i d) in
    let rest = map row_of_pair (drop (i + 1) pairs) in
    omega (
      arith,
      weight-append held (map row_of_pair (take i pairs)),
      weight-append held (map row_of_pair pairs),
      ap (λ rs. weight_of rs) (map_round row_of_pair pairs i d lt),
      weight-append (map row_of_pair (take i pairs)) (r ∷ rest),
      weight-cons r rest,
    )
