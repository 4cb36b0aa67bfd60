use Rattle.std.proofs.Common.{◌≡◌, map, vec_len}
use Rattle.std.specs.Option.{ForSome}
use Rattle.lru_shard.specs.Limits.{cap_of}
use Rattle.lru_inbox.specs.Inboxes.{taken_in}
use Rattle.lru_workers.specs.Replying.{AreReplies, TookPast}
use Rattle.lru_workers.proofs.actor.reply_all.Given as goal

-- what is left to be answered has the replies that it had
abbrev pub invariant-loop-last : goal.invariant-loop-last
invariant-loop-last g l = record {
  taken : ForSome (taken_in l.taker.voice) (λ taken. TookPast l.before (vec_len l.asked) taken);
  replies : ForSome (taken_in l.taker.voice) (λ taken. AreReplies g.K.Clone.is_clone (cap_of g.B.Archive.shards) taken l.before (map (λ a. a.reply) l.asked.items));
  taker : (l.taker.shard ≡ l.fn.taker.shard) × (taken_in l.taker.voice ≡ taken_in l.fn.taker.voice);
}

abbrev pub decreases-loop-last : goal.decreases-loop-last
decreases-loop-last g l = vec_len l.asked
