use Rattle.std.proofs.Common.{◌≡◌, ℕ, length}
use Rattle.std.specs.Prelude.{Result}
use Rattle.std.specs.Vec.Iter.{into_iter_items, into_iter_len}
use Rattle.lru_owned_cache.specs.declared.cache.Refused.{Refused}
use Rattle.lru_cache_checkpoints.specs.Captures.{MayPutShards}
use Rattle.lru_cache_checkpoints.proofs.shared_captures.restore_shards.Given as goal

-- the shards that are to be put yet are put behind those that were
abbrev pub invariant-loop-rows : goal.invariant-loop-rows
invariant-loop-rows g l =
    ((answer : Result ℕ (Refused g.row.K.Denot g.row.V.Denot)) → MayPutShards g.K.PartialEq.eq (into_iter_items l.rest) l.left_out answer → MayPutShards g.K.PartialEq.eq l.fn.shards.items 0 answer)
    × (length (into_iter_items l.rest) ≡ into_iter_len l.rest)

abbrev pub decreases-loop-rows : goal.decreases-loop-rows
decreases-loop-rows g l = length (into_iter_items l.rest)
