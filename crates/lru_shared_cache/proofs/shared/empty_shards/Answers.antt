use Rattle.std.proofs.Common.{rules, ◌≡◌, ◌/◌, sym, ap, subst, ◌∙◌}
use Rattle.std.specs.Prelude.{All}
use Rattle.std.proofs.lemmas.List.Elements.{All-push}
use Rattle.lru_owned_cache.specs.Cache.{empty}
use Rattle.lru_shared_cache.specs.Sharded.{empty_shard}
use Rattle.lru_shared_cache.proofs.shared.empty_shards.Goals as goal

pub loop-preserved : goal.loop-preserved
loop-preserved g c = (
  search rules,
  subst (λ xs. All (λ one. one.shard ≡ empty_shard c.args.hash_builder c.part-part.result.weight c.part-part.result.entries) xs) (sym c.in_ok-push.ensures.items)
      (All-push (λ one. one.shard ≡ empty_shard c.args.hash_builder c.part-part.result.weight c.part-part.result.entries) c.loop.made.items c.new.result c.loop.invariant.1
      (c.new.ensures ∙ ap (λ x. record { cache = x; counts = c.none-counts.result }) c.in_ok-cache.ensures ∙ ap (λ n. record { cache = empty c.args.hash_builder c.part-part.result.weight c.part-part.result.entries; counts = n }) c.none-counts.ensures)),
)

pub returns-clause-parts : goal.returns-clause-parts
returns-clause-parts g c =
    subst (λ w. All (λ one. one.shard ≡ empty_shard c.args.hash_builder w (c.args.limits.entries / g.row.N)) c.loop.made.items) c.part-part.ensures.weight
    (subst (λ n. All (λ one. one.shard ≡ empty_shard c.args.hash_builder c.part-part.result.weight n) c.loop.made.items) c.part-part.ensures.entries c.loop.invariant.1)
