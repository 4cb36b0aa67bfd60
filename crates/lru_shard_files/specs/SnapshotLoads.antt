-- Loading the bytes of a shard.
use Rattle.std.specs.Prelude.{◌≡◌, ℕ, ◌%◌, ◌<◌, nat_lt, List, ◌++◌, length, map, Option, Some, None, Result, Ok, Err, All, if◌then◌else◌}
use Rattle.std.specs.Borrow.{Bor}
use Rattle.lru_shard.specs.declared.unit.Cause.{Cause}
use Rattle.lru_shard.specs.declared.unit.Cause.TheVariants.{Memory, Weight, Length}
use Rattle.pingora_lru.specs.Row.{Row, row, times, HasDistinctKeys, weight_of}
use Rattle.pingora_lru.specs.Shard.{most_rows}
use Rattle.pingora_lru.specs.Core.{Core, list_at, with_list, home}
use Rattle.pingora_lru.specs.Limits.{cap_of}
use Rattle.lru_shard_files.specs.declared.snapshot.Keyed.{Keyed}
use Rattle.lru_shard_files.specs.declared.snapshot.LoadError.{LoadError}
use Rattle.lru_shard_files.specs.declared.snapshot.LoadError.TheVariants as unloaded
use Rattle.lru_shard_files.specs.Snapshot.{pairs_of}

-- a row under the key that its data tell
abbrev pub row_of_pair : Keyed × ℕ → Row Keyed
row_of_pair pair = row pair.0.key pair.0 pair.1

-- the rows that bytes tell, in order
abbrev pub rows_of : List ℕ → List (Row Keyed)
rows_of bytes = map row_of_pair (pairs_of bytes)

-- each row's data tell the key that it stands under
abbrev pub TellTheirKeys : List (Row Keyed) → Type 0
TellTheirKeys rows = All (λ r. r.value.key ≡ r.key) rows

-- each key is of this shard
abbrev pub AreHome : Core Keyed → ℕ → List (Row Keyed) → Type 0
AreHome core s rows = (k : ℕ) → 0 < times k rows → home core k ≡ s

-- rows may stand behind those of a shard: each key is of this shard, and none stands twice or is held already
pub record Joins (core : Core Keyed) (s : ℕ) (rows : List (Row Keyed)) : Type 0 where
  pub homes : (k : ℕ) → 0 < times k rows → home core k ≡ s
  pub keys : HasDistinctKeys (list_at core s ++ rows)

-- putting rows behind those of a shard may answer this, and leave this core, where they pass no limit
abbrev pub PutsLast : Core Keyed → ℕ → List (Row Keyed) → Result (Unit {0}) LoadError → Core Keyed → Type 0
PutsLast old s rows (Ok done) new = Joins old s rows × (new ≡ with_list old s (list_at old s ++ rows))
PutsLast old s rows (Err unloaded.Damaged) new = ¬ (Joins old s rows) × (new ≡ old)
PutsLast old s rows (Err (unloaded.Unit Memory)) new = new ≡ old
PutsLast old s rows (Err (unloaded.Unit Weight)) new = ⊥
PutsLast old s rows (Err (unloaded.Unit Length)) new = ⊥

-- bytes are whole rows that may stand there
pub record AreLoadable (core : Core Keyed) (s : ℕ) (bytes : List ℕ) : Type 0 where
  pub whole : length bytes % 24 ≡ 0
  pub joins : Joins core s (rows_of bytes)

-- the limit that the rows of a shard pass: the most rows, else the cap on their weight
abbrev pub limit_passed : ℕ → List (Row Keyed) → Option Cause
limit_passed cap rows =
    if nat_lt (most_rows cap) (length rows) then Some Length
    else (if nat_lt cap (weight_of rows) then Some Weight else None)

-- the rows of the shard with those of the bytes behind them
abbrev pub joined : Core Keyed → ℕ → List ℕ → List (Row Keyed)
joined core s bytes = list_at core s ++ rows_of bytes

abbrev pub limit_passed_by_load : Core Keyed → ℕ → List ℕ → Option Cause
limit_passed_by_load core s bytes = limit_passed (cap_of (length core.lists)) (joined core s bytes)

-- loading bytes into a shard may answer this, and leave this core. Want of memory is a free choice
abbrev pub Loads : Core Keyed → ℕ → List ℕ → Result ℕ LoadError → Core Keyed → Type 0
Loads old s bytes (Ok count) new =
    AreLoadable old s bytes × ((limit_passed_by_load old s bytes ≡ None) × ((count ≡ length (rows_of bytes)) × (new ≡ with_list old s (joined old s bytes))))
Loads old s bytes (Err unloaded.Damaged) new = ¬ (AreLoadable old s bytes) × (new ≡ old)
Loads old s bytes (Err (unloaded.Unit Memory)) new = new ≡ old
Loads old s bytes (Err (unloaded.Unit Weight)) new = AreLoadable old s bytes × ((limit_passed_by_load old s bytes ≡ Some Weight) × (new ≡ old))
Loads old s bytes (Err (unloaded.Unit Length)) new = AreLoadable old s bytes × ((limit_passed_by_load old s bytes ≡ Some Length) × (new ≡ old))

-- the same of bytes that are lent, where the count is not answered
abbrev pub LoadsShard : Core Keyed → ℕ → Bor (List ℕ) → Result (Unit {0}) LoadError → Core Keyed → Type 0
LoadsShard old s bytes (Ok done) new = (count : ℕ) × Loads old s bytes.now (Ok count) new
LoadsShard old s bytes (Err error) new = Loads old s bytes.now (Err error) new
