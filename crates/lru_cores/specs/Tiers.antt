-- Two tiers of rows, a hot one and a cold one: no key has a row in both.
use Rattle.std.specs.Prelude.{◌≡◌, ℕ, ◌+◌, ◌%◌, ◌<◌, ◌≤◌, [], length, replicate, sum_by, Option, None, option_map, refl}
use Rattle.std.specs.Option.{option_or}
use Rattle.std.specs.Coded.{Coded, code_by, coded×}
use Rattle.lru_shard.specs.Row.{Row, row_of, times, without}
use Rattle.lru_cores.specs.Core.{Core, core_code, home, list_at, with_list}
use Rattle.lru_cores.specs.declared.tiered.Tier.{Tier}
use Rattle.lru_cores.specs.declared.tiered.Tier.TheVariants.{Hot, Cold}

pub record Tiers (T : Type 0) : Type 0 where
  pub hot : Core T
  pub cold : Core T

abbrev pub tiers_code : {T : Type 0} → Coded T → Coded (Tiers T)
tiers_code {T} code =
    code_by (Core T × Core T) (coded× (core_code code) (core_code code)) (λ t. (t.hot, t.cold))
    (λ p. record { hot = p.0; cold = p.1 }) (λ _. refl)

module _ {T : Type 0} where
  abbrev pub tiers : Core T → Core T → Tiers T
  tiers hot cold = record { hot = hot; cold = cold }

  -- a core of n shards with no rows and no watermark
  abbrev pub empty_tier : ℕ → ℕ → Core T
  empty_tier n limit = record { lists = replicate n []; weight_limit = limit; watermark = None; evicted_weight = 0; evicted_len = 0 }

  -- the row that a key has in a core
  abbrev pub row_in : Core T → ℕ → Option (Row T)
  row_in c k = row_of (list_at c (home c k)) k

  -- the core without that row
  abbrev pub core_without : Core T → ℕ → Core T
  core_without c k = with_list c (home c k) (without (list_at c (home c k)) k)

  -- the row that a key has, and its tier
  abbrev pub row_where : Tiers T → ℕ → Option (Tier × Row T)
  row_where t k = option_or (option_map (λ r. (Hot, r)) (row_in t.hot k)) (option_map (λ r. (Cold, r)) (row_in t.cold k))

  -- how many rows of a core have this key, and how many of both cores
  abbrev pub times_in : ℕ → Core T → ℕ
  times_in k c = sum_by (λ rows. times k rows) c.lists

  abbrev pub times_of : ℕ → Tiers T → ℕ
  times_of k t = times_in k t.hot + times_in k t.cold

  -- no key has a row in both, nor two in one
  abbrev pub AreApart : Tiers T → Type 0
  AreApart t = (k : ℕ) → times_of k t ≤ 1

  -- a core of n shards that only its weight can make over; each key stands in its own shard
  pub record IsTier (n : ℕ) (c : Core T) : Type 0 where
    pub some : 0 < n
    pub count : length c.lists ≡ n
    pub homes : (s k : ℕ) → 0 < times k (list_at c s) → k % n ≡ s
    pub unmarked : c.watermark ≡ None

  -- what holds of all tiers of n shards
  pub record AreTiers (n : ℕ) (t : Tiers T) : Type 0 where
    pub hot : IsTier n t.hot
    pub cold : IsTier n t.cold
    pub apart : AreApart t
