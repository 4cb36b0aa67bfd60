use Rattle.std.proofs.Common.{◌++◌, ◌<◌, ◌^◌, take, sym, ap, ◌∙◌, subst, arith, Some}
use Rattle.std.specs.Prelude.{option_map}
use Rattle.lru_short_locks.proofs.Hands.{some_same}
use Rattle.lru_inbox.specs.Logs.{log_of, taken_by}
use Rattle.lru_inbox.specs.Inboxes.{IsInbox, messages_of, taken_in}
use Rattle.lru_inbox.proofs.Kept.{inbox_served, next_messages}
use Rattle.lru_inbox.proofs.inbox.Inbox.pop_many.Goals as goal

pub invariant_of-self-in-Some-voice : goal.invariant_of-self-in-Some-voice
invariant_of-self-in-Some-voice g c =
    let p = c.args.self.now.state.post in
    let fits : p.pushed < 2 ^ 64 = omega (arith, c.pushed-put.ensures, c.pushed-put.type_inv) in
    let kept = c.args.self.now.kept c.in-Some.log c.in-Some.is in
    record {
      kept = λ x e. subst (λ v. IsInbox c.args.self.now.shard c.pop_many-count.new.self.post v.token.me) (some_same c.take.new.self x e)
          (subst (λ q. IsInbox c.args.self.now.shard q c.take.new.self.token.me) (sym c.pop_many-count.ensures.rest)
          (inbox_served c.args.self.now.shard c.args.max c.pop_many-count.result p c.in-Some.log.token.me c.take.new.self.token.me kept fits c.pop_many-count.ensures.count c.take.ensures.log));
    }

pub returns-clause-taken : goal.returns-clause-taken
returns-clause-taken g c =
    let taken = taken_by c.in-Some-voice.voice.token.me.0 in
    let left = (log_of c.in-Some.log.token.me.0).left in
    let kept = c.args.self.now.kept c.in-Some.log c.in-Some.is in
    ap (λ m. Some (taken_by m.0)) c.take.ensures.taker
    ∙ ap (λ n. Some (taken ++ take n left)) c.pop_many-count.ensures.count
    ∙ ap (λ ms. Some (taken ++ ms)) (sym (next_messages c.args.max c.args.self.now.state.post.waiting left kept.first_waits))
    ∙ sym (ap (λ o. option_map (λ t. t ++ messages_of (take c.args.max c.args.self.now.state.post.waiting)) (taken_in o)) c.in-Some-voice.is)
