-- Shards that were seen one after another: one more of them.
use Rattle.std.proofs.Common.{◌≡◌, ℕ, ◌+◌, List, [], ◌∷◌, ◌++◌, length, sym, ap, ◌∙◌, arith, length-append}
use Rattle.std.specs.Prelude.{min, ◌-◌, ◌^◌, All, sum_by}
use Rattle.std.proofs.lemmas.List.Elements.{All-push}
use Rattle.std.proofs.lemmas.List.Sums.{fold-append, sum_by_push}
use Rattle.lru_shared_cache.specs.declared.counts.Counts.{Counts}
use Rattle.lru_shared_cache.specs.Counts.{total, both_counts, no_counts}
use Rattle.lru_shared_cache.specs.Counting.{ShardOf}
use Rattle.lru_shared_cache.specs.Relations.{AreRelated}
use Rattle.lru_shared_cache.specs.Related.{MaySeeAllRelated}

module _ {K V S : Type 0} (holds : K → V → Type 0) where
  one_more : (n : ℕ) (shards : List (ShardOf K V S)) (shard : ShardOf K V S) → length shards ≡ n → length (shards ++ shard ∷ []) ≡ n + 1
  one_more n shards shard many = omega (arith, many, length-append shards (shard ∷ []))

  -- a number of theirs, added up
  pub adds_one : (number : ShardOf K V S → ℕ) (n so_far here now : ℕ) (shard : ShardOf K V S)
      → MaySeeAllRelated holds S n (λ shards. so_far ≡ min (sum_by number shards) (2 ^ 64 - 1)) → AreRelated holds shard.cache.entries → here ≡ number shard → now ≡ min (so_far + here) (2 ^ 64 - 1)
      → MaySeeAllRelated holds S (n + 1) (λ shards. now ≡ min (sum_by number shards) (2 ^ 64 - 1))
  adds_one number n so_far here now shard (shards, (many, (related, is))) own here_is now_is = (
    shards ++ shard ∷ [],
    (
      one_more n shards shard many,
      (
        All-push (λ (x : ShardOf K V S). AreRelated holds x.cache.entries) shards shard related own,
        omega (arith, is, here_is, now_is, sum_by_push number shards shard),
      ),
    ),
  )

  -- what their calls met
  pub counts_one : (n : ℕ) (so_far here now : Counts) (shard : ShardOf K V S)
      → MaySeeAllRelated holds S n (λ shards. so_far ≡ total shards) → AreRelated holds shard.cache.entries → here ≡ shard.counts → now ≡ both_counts so_far here
      → MaySeeAllRelated holds S (n + 1) (λ shards. now ≡ total shards)
  counts_one n so_far here now shard (shards, (many, (related, is))) own here_is now_is = (
    shards ++ shard ∷ [],
    (
      one_more n shards shard many,
      (
        All-push (λ (x : ShardOf K V S). AreRelated holds x.cache.entries) shards shard related own,
        now_is ∙ ap (λ c. both_counts c here) is ∙ ap (λ c. both_counts (total shards) c) here_is
            ∙ sym (fold-append (λ sum (one : ShardOf K V S). both_counts sum one.counts) no_counts shards (shard ∷ [])),
      ),
    ),
  )
