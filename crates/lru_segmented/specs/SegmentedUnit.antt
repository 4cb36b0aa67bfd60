-- A shard in two segments, under a cap: what its calls answer, and what they leave of both. It is seen as a cache whose keys are numbers, of which the cap is the most weight.
use Rattle.std.specs.Prelude.{◌≡◌, ℕ, nat_eq, List, ◌∷◌, length, Option, Some, None, Result, Ok, Err}
use Rattle.std.specs.Option.{option_map_or}
use Rattle.lru_owned_cache.specs.declared.entry.Entry.{Entry}
use Rattle.lru_owned_cache.specs.Entries.{entry, weight_of}
use Rattle.lru_owned_cache.specs.Cache.{entry_of, without}
use Rattle.lru_shard.specs.declared.unit.Refused.{Refused}
use Rattle.lru_shard.specs.Shard.{Size, and_row, refusal, MayRefuse, most_rows}
use Rattle.lru_segmented.specs.Segmented.{Segmented, entries, with_more, removed, IsSegmented, Rejoins, PopsLast}

module _ {T : Type 0} where
  -- what a caller sees of an entry whose key it does not ask for
  abbrev pub pair_of : Entry ℕ T → T × ℕ
  pair_of e = (e.value, e.weight)

  -- how long and how heavy a list of entries is
  abbrev pub sized : List (Entry ℕ T) → Size
  sized es = record { len = length es; weight = weight_of es }

  -- the same with an entry of this weight in place of the key's
  abbrev pub sized_with : List (Entry ℕ T) → ℕ → ℕ → Size
  sized_with es k w = and_row (sized (without nat_eq es k)) w

  -- the weight that a key has, 0 where it has no entry
  abbrev pub weight_at : List (Entry ℕ T) → ℕ → ℕ
  weight_at es k = option_map_or (λ e. e.weight) (entry_of nat_eq es k) 0

  module _ {S : Type 0} where
    -- what holds of every shard: it is a cache in two segments, which may have as many entries as a shard of this cap
    pub record IsUnit (c : Segmented ℕ T S) : Type 0 where
      pub valid : IsSegmented nat_eq c
      pub most_is : c.most_entries ≡ most_rows c.most_weight

    -- where a row stands that is put: one whose key has none first in the lower segment, else first in the upper one, which is brought within its share. No other goes
    abbrev pub Admitted : Segmented ℕ T S → ℕ → T → ℕ → Option (Entry ℕ T) → Segmented ℕ T S → Type 0
    Admitted old k d w None new = new ≡ with_more old old.upper (entry k d w ∷ old.lower)
    Admitted old k d w (Some was) new = Rejoins (removed nat_eq old k) (entry k d w) new

    -- `admit`: the answer is the weight that the key had; or it is refused, and nothing has changed
    abbrev pub Admits : Segmented ℕ T S → ℕ → T → ℕ → Result ℕ (Refused T) → Segmented ℕ T S → Type 0
    Admits old k d w (Ok was) new =
        (refusal old.most_weight (sized (entries old)) (sized_with (entries old) k w) ≡ None) × ((was ≡ weight_at (entries old) k) × Admitted old k d w (entry_of nat_eq (entries old) k) new)
    Admits old k d w (Err r) new = MayRefuse old.most_weight (sized (entries old)) (sized_with (entries old) k w) r.cause × ((r.held ≡ d) × (new ≡ old))

    -- `evict`: the last of the lower segment goes, or of the upper one where the lower one has none
    abbrev pub Evicts : Segmented ℕ T S → Option (T × ℕ) → Segmented ℕ T S → Type 0
    Evicts old None new = PopsLast old None new
    Evicts old (Some p) new = (k : ℕ) × PopsLast old (Some (entry k p.0 p.1)) new
