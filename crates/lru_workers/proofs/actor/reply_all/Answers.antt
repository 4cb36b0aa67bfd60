use Rattle.std.proofs.Common.{◌≡◌, ◌+◌, ◌<◌, ◌%◌, ◌^◌, length, sym, ap, ◌∙◌, arith}
use Rattle.lru_shard.specs.Limits.{cap_of}
use Rattle.lru_workers.proofs.Replying.{replies_fewer, reply_last, number_is}
use Rattle.lru_workers.proofs.actor.reply_all.Goals as goal

pub answer-requires-clause-tells : goal.answer-requires-clause-tells
answer-requires-clause-tells g c = λ x e.
    let all = c.loop-last.asked.items in
    let left = c.pop.new.self.items in
    let room = c.loop-last.invariant.taken x e in
    let len : c.len.result ≡ length left = omega (arith, c.len.ensures, c.pop.new.self.ok.0) in
    let few : length left < length all = omega (arith, c.in-Some.ensures.len, c.pop.new.self.ok.0, c.loop-last.asked.ok.0) in
    let counted = ap (λ n. ((c.args.before + n) % 2 ^ 64 + 1) % 2 ^ 64) len ∙ number_is c.args.before (length left) (length all) x few (omega (arith, room.0, c.loop-last.asked.ok.0), room.1) in
    reply_last g.K.Clone.is_clone (cap_of g.B.Archive.shards) x c.args.before _ left c.in-Some.last all c.in-Some.ensures.items counted (c.loop-last.invariant.replies x e)

pub loop-last-preserved : goal.loop-last-preserved
loop-last-preserved g c =
    let still = c.answer.ensures.taker in
    record {
      taken = λ x e. let room = c.loop-last.invariant.taken x (sym still.1 ∙ e) in (omega (arith, room.0, c.in-Some.ensures.len), room.1);
      replies = λ x e. replies_fewer g.K.Clone.is_clone (cap_of g.B.Archive.shards) x c.args.before c.pop.new.self.items c.in-Some.last c.loop-last.asked.items c.in-Some.ensures.items (c.loop-last.invariant.replies x (sym still.1 ∙ e));
      taker = (still.0 ∙ c.loop-last.invariant.taker.0, still.1 ∙ c.loop-last.invariant.taker.1);
    }
