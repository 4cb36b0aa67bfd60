-- A shard that had no entry to give is as it was.
use Rattle.std.proofs.Common.{◌≡◌, ℕ, ◌+◌, ◌≤◌, List, [], None, sym, ap, ◌∙◌, below_more}
use Rattle.std.specs.Prelude.{slice_set}
use Rattle.std.proofs.lemmas.List.{set-get_or}
use Rattle.lru_shared_cache.specs.Shards.{Sees, Owns}
use Rattle.lru_shared_cache.specs.Counting.{ShardOf, PopsShard}
use Rattle.lru_shared_cache.specs.Popping.{AreEmpty}

module _ {K V S : Type 0} where
  unpopped : (before after : ShardOf K V S) → PopsShard before None after → after ≡ before
  unpopped before after ((none, is), counted) = ap (λ c. record { cache = c; counts = after.counts }) is ∙ ap (λ n. record { cache = before.cache; counts = n }) counted

  -- nothing changed
  pub none_owned : (old : List (ShardOf K V S)) (i : ℕ) (new : List (ShardOf K V S)) → Owns old i (λ before after. PopsShard before None after) new → new ≡ old
  none_owned old i new (before, (after, (at, (pops, is)))) = is ∙ ap (λ x. slice_set old i x) (unpopped before after pops ∙ sym at) ∙ set-get_or old i before

  -- and it had no entries
  pub none_seen : (old : List (ShardOf K V S)) (i : ℕ) (new : List (ShardOf K V S)) → Owns old i (λ before after. PopsShard before None after) new → Sees old i (λ shard. shard.cache.entries ≡ [])
  none_seen old i new (before, (after, (at, (((none, same), counted), is)))) = (before, (at, none))

  pub one_more : (first i : ℕ) (shards : List (ShardOf K V S)) → AreEmpty first i shards → Sees shards i (λ shard. shard.cache.entries ≡ []) → AreEmpty first (i + 1) shards
  one_more first i shards below here k from to = below_more (λ n. first ≤ n → Sees shards n (λ shard. shard.cache.entries ≡ [])) i (λ n under start. below n start under) (λ start. here) k to from
