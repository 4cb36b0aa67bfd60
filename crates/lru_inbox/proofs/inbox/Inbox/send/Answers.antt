use Rattle.std.proofs.Common.{ap, sym, ◌∙◌, subst, arith, length}
use Rattle.lru_short_locks.proofs.Hands.{some_same}
use Rattle.lru_inbox.specs.Logs.{log_of, accepted}
use Rattle.lru_inbox.specs.Inboxes.{IsInbox}
use Rattle.lru_inbox.proofs.Kept.{sends, inbox_put, put_open, numbered}
use Rattle.lru_inbox.proofs.inbox.Inbox.send.Goals as goal

pub invariant_of-self-2 : goal.invariant_of-self-2
invariant_of-self-2 g c =
    let kept = subst (λ q. IsInbox c.args.self.now.shard q c.in-Some.log.token.me) (sym c.refusal.ensures.same) (c.args.self.now.kept c.in-Some.log c.in-Some.is) in
    let ok = c.in_ok-letter.ensures.ok in
    let post = c.put_or_lose.ensures ∙ put_open _ _ ok.1 in
    record {
      kept = λ x e. subst (λ v. IsInbox c.args.self.now.shard c.put_or_lose.new.self.post v.token.me) (some_same c.send.new.self x e)
          (inbox_put c.args.self.now.shard c.refusal.new.state.post c.put_or_lose.new.self.post c.in_ok-letter.letter c.in-Some.log.token.me c.send.new.self.token.me kept ok.1
          (let p = ap (λ q. q.pushed) c.refusal.ensures.same in omega (arith, ok.3, p)) (ap (λ p. p.waiting) post) (ap (λ p. p.pushed) post) (ap (λ p. p.taken) post) c.send.ensures.log);
    }

pub returns-clause-sent : goal.returns-clause-sent
returns-clause-sent g c =
    let kept = c.args.self.now.kept c.in-Some.log c.in-Some.is in
    sends c.args.self.now.shard c.args.letter.message c.in_ok-letter.letter.message (log_of c.in-Some.log.token.me.0) _ _ kept.shard_is (ap (λ l. l.message) c.in_ok-letter.ensures.ok.0) c.send.ensures.shows
    (ap (λ m. m.0.fronts) c.send.ensures.caller)

pub returns-clause-number : goal.returns-clause-number
returns-clause-number g c =
    let kept = subst (λ q. IsInbox c.args.self.now.shard q c.in-Some.log.token.me) (sym c.refusal.ensures.same) (c.args.self.now.kept c.in-Some.log c.in-Some.is) in
    let ok = c.in_ok-letter.ensures.ok in
    let post = c.put_or_lose.ensures ∙ put_open _ _ ok.1 in
    let after = inbox_put c.args.self.now.shard c.refusal.new.state.post c.put_or_lose.new.self.post c.in_ok-letter.letter c.in-Some.log.token.me c.send.new.self.token.me kept ok.1
    (let p = ap (λ q. q.pushed) c.refusal.ensures.same in omega (arith, ok.3, p)) (ap (λ p. p.waiting) post) (ap (λ p. p.pushed) post) (ap (λ p. p.taken) post) c.send.ensures.log in
    numbered c.args.self.now.shard c.pushed.result c.in_ok-letter.letter.message (log_of c.in-Some.log.token.me.0) _ _ kept.shard_is (ap (λ m. m.0.fronts) c.send.ensures.caller)
    (c.pushed.ensures ∙ after.put ∙ ap (λ m. length (accepted (log_of m.0))) c.send.ensures.log)
