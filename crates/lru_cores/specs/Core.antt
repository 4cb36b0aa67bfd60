-- A core: N shards, each a list of rows, its limits, and what it has evicted.
use Rattle.std.specs.Prelude.{◌≡◌, ℕ, ◌%◌, List, [], length, slice_index_or, slice_set, sum_by, All, ◌<◌, Option, refl}
use Rattle.std.specs.Coded.{Coded, code_by, coded×, coded_ℕ, coded_list, coded_option}
use Rattle.lru_shard.specs.Row.{Row, row_code, weight_of, times}
use Rattle.lru_shard.specs.Shard.{Shard, shard, IsShard}
use Rattle.lru_shard.specs.Limits.{cap_of}

pub record Core (T : Type 0) : Type 0 where
  pub lists : List (List (Row T))
  pub weight_limit : ℕ
  pub watermark : Option ℕ
  -- both modulo 2 ^ 64
  pub evicted_weight : ℕ
  pub evicted_len : ℕ

abbrev pub core_code : {T : Type 0} → Coded T → Coded (Core T)
core_code {T} code =
    code_by (List (List (Row T)) × (ℕ × (Option ℕ × (ℕ × ℕ))))
    (coded× (coded_list (coded_list (row_code code))) (coded× coded_ℕ (coded× (coded_option coded_ℕ) (coded× coded_ℕ coded_ℕ))))
    (λ c. (c.lists, (c.weight_limit, (c.watermark, (c.evicted_weight, c.evicted_len)))))
    (λ p. record { lists = p.0; weight_limit = p.1.0; watermark = p.1.1.0; evicted_weight = p.1.1.1.0; evicted_len = p.1.1.1.1 }) (λ _. refl)

module _ {T : Type 0} where
  -- the weight and the length of all rows there now
  abbrev pub core_weight : Core T → ℕ
  core_weight c = sum_by weight_of c.lists

  abbrev pub core_len : Core T → ℕ
  core_len c = sum_by (λ rows. length rows) c.lists

  -- the rows of a shard; none past the last shard
  abbrev pub list_at : Core T → ℕ → List (Row T)
  list_at c s = slice_index_or c.lists s []

  abbrev pub shard_at : Core T → ℕ → Shard T
  shard_at c s = shard (list_at c s) (cap_of (length c.lists))

  abbrev pub with_list : Core T → ℕ → List (Row T) → Core T
  with_list c s rows = record c { lists = slice_set c.lists s rows }

  -- the shard of a key
  abbrev pub home : Core T → ℕ → ℕ
  home c k = k % length c.lists

  -- a call acts on one shard by P, and leaves all else as it was
  pub record ActsOn (old : Core T) (s : ℕ) (new : Core T) (P : Shard T → Shard T → Type 0) : Type 0 where
    pub rows : List (Row T)
    pub acts : P (shard_at old s) (shard rows (cap_of (length old.lists)))
    pub left : new ≡ with_list old s rows

  -- what holds of every core of n shards
  pub record IsCore (n : ℕ) (c : Core T) : Type 0 where
    pub some : 0 < n
    pub count : length c.lists ≡ n
    pub valid : All (λ rows. IsShard (shard rows (cap_of n))) c.lists
    pub homes : (s k : ℕ) → 0 < times k (list_at c s) → k % n ≡ s
