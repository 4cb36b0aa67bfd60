use Rattle.std.proofs.Common.{◌≡◌, map, length, sym, ap, ◌∙◌, subst, arith}
use Rattle.lru_shard.specs.Limits.{cap_of}
use Rattle.lru_workers.specs.Batch.{answers}
use Rattle.lru_workers.specs.Replying.{AreReplies}
use Rattle.lru_workers.proofs.Counted.{answers_length}
use Rattle.lru_workers.proofs.Replying.{replied_replies, replied_length}
use Rattle.lru_workers.proofs.actor.reply_where_asked.Goals as goal

pub reply_all-requires-clause-taken : goal.reply_all-requires-clause-taken
reply_all-requires-clause-taken g c = λ x e.
    let room = c.requires.taken x e in
    let n = ap length c.note_replies.ensures in
    let long = answers_length c.args.refused c.args.effects.now.items in
    let same = replied_length g.K.Clone.is_clone (cap_of g.B.Archive.shards) c.args.asked.now.items (answers c.args.refused c.args.effects.now.items) (omega (arith, long, c.requires.each, c.args.effects.now.ok.0, c.args.asked.now.ok.0)) in
    (omega (arith, room.0, n, same, c.note_replies.new.asked.ok.0, c.args.asked.now.ok.0), room.1)

pub reply_all-requires-clause-replies : goal.reply_all-requires-clause-replies
reply_all-requires-clause-replies g c = λ x e.
    let long = answers_length c.args.refused c.args.effects.now.items in
    let many : length (answers c.args.refused c.args.effects.now.items) ≡ length c.args.asked.now.items = omega (arith, long, c.requires.each, c.args.effects.now.ok.0, c.args.asked.now.ok.0) in
    subst (AreReplies g.K.Clone.is_clone (cap_of g.B.Archive.shards) x c.args.before)
    (sym (replied_replies g.K.Clone.is_clone (cap_of g.B.Archive.shards) c.args.asked.now.items (answers c.args.refused c.args.effects.now.items) many) ∙ sym (ap (λ l. map (λ a. a.reply) l) c.note_replies.ensures))
    (c.requires.replies x e)
