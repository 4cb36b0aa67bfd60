use Rattle.std.proofs.Common.{◌≡◌, ◌++◌, length, map, vec_len, sym, ap, ◌∙◌, subst, arith}
use Rattle.std.specs.Prelude.{option_map}
use Rattle.std.specs.Option.{ForSome}
use Rattle.lru_shard.specs.Limits.{cap_of}
use Rattle.lru_inbox.specs.Inboxes.{messages_of, taken_in}
use Rattle.lru_workers.specs.Batch.{answers, is_evict, asked_by}
use Rattle.lru_workers.specs.Replying.{AreReplies, Gains, TookPast}
use Rattle.lru_workers.proofs.Evicted.{flags, flags_asked, asked_length}
use Rattle.lru_workers.proofs.Replying.{counted_in, batch_gains, batch_past, messages_length}
use Rattle.lru_workers.proofs.actor.Actor.serve.Goals as goal

pub process-refused-requires-clause-asked : goal.process-refused-requires-clause-asked
process-refused-requires-clause-asked g c =
    ap flags c.take_in.ensures.asked ∙ flags_asked c.pop_many-count.new.into.items ∙ sym (ap (map is_evict) c.take_in.ensures.batch)

pub process-refused-requires-clause-gains : goal.process-refused-requires-clause-gains
process-refused-requires-clause-gains g c =
    let took = c.pop_many-count.ensures.takes in
    let before = c.args.self.now.taker.count in
    let batch = c.take_in.ensures.batch ∙ ap messages_of (took.2 ∙ ap (λ l. l ++ took.0) c.clear.ensures.none) in
    subst (λ o. ForSome o (Gains before c.take_in.new.self.batch.items)) (sym took.3)
    (subst (λ ms. ForSome (option_map (λ t. t ++ messages_of took.0) (taken_in c.args.self.now.taker.voice)) (Gains before ms)) (sym batch) (batch_gains g.K.Clone.is_clone (cap_of g.B.Archive.shards) (taken_in c.args.self.now.taker.voice) before (messages_of took.0)
    (counted_in c.args.self.now.taker.voice before c.args.self.now.taker.counted)))

pub reply_where_asked-requires-clause-taken : goal.reply_where_asked-requires-clause-taken
reply_where_asked-requires-clause-taken g c =
    let took = c.pop_many-count.ensures.takes in
    let new = c.pop_many-count.new.taker in
    let before = c.args.self.now.taker.count in
    let items = took.2 ∙ ap (λ l. l ++ took.0) c.clear.ensures.none in
    let asked = ap length (ap (λ v. v.items) c.process-refused.ensures.asked ∙ c.take_in.ensures.asked ∙ ap (map asked_by) items) in
    let a = asked_length took.0 in
    let m = messages_length took.0 in
    subst (λ o. ForSome o (λ taken. TookPast before (vec_len c.process-refused.new.self.bench.asked) taken)) (sym (c.process-refused.ensures.taker.2 ∙ took.3))
    (batch_past g.K.Clone.is_clone (cap_of g.B.Archive.shards) (taken_in c.args.self.now.taker.voice) before (vec_len c.process-refused.new.self.bench.asked) new.count (messages_of took.0)
    (counted_in c.args.self.now.taker.voice before c.args.self.now.taker.counted) (omega (arith, asked, a, m, c.process-refused.new.self.bench.asked.ok.0)) (omega (arith, c.taken-taken.ensures, c.taken-taken.type_inv))
    (subst (λ o. ForSome o (λ taken. new.count ≡ length taken)) took.3 (counted_in new.voice new.count new.counted)))

pub reply_where_asked-requires-clause-replies : goal.reply_where_asked-requires-clause-replies
reply_where_asked-requires-clause-replies g c =
    subst (λ o. ForSome o (λ taken. AreReplies g.K.Clone.is_clone (cap_of g.B.Archive.shards) taken c.args.self.now.taker.count (answers c.process-refused.result c.process-refused.new.self.bench.effects.items))) (sym c.process-refused.ensures.taker.2)
    c.process-refused.ensures.replies
