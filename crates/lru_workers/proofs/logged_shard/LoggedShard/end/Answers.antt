use Rattle.std.specs.HashMap as hash_map
use Rattle.std.proofs.Common.{[], ◌∷◌, ◌++◌, nat_eq, map, sym, ap, ◌∙◌, subst}
use Rattle.std.proofs.Math.Logic.{∥∥₁_map}
use Rattle.lru_short_locks.proofs.Hands.{some_same}
use Rattle.lru_shard.specs.Limits.{cap_of}
use Rattle.lru_inbox.specs.Logs.{hand, log_of, front_of}
use Rattle.lru_inbox.specs.Inboxes.{shown}
use Rattle.lru_workers.specs.Accounts.{IsKept, IsAccount}
use Rattle.lru_workers.specs.Seats.{slips_at}
use Rattle.lru_workers.proofs.Accounts.{account}
use Rattle.lru_workers.proofs.Meeting.{same_taken}
use Rattle.lru_workers.proofs.logged_shard.LoggedShard.end.Goals as goal

pub seen-whole-requires : goal.seen-whole-requires
seen-whole-requires g c = ap (λ m. m.1) (c.args.inbox.kept c.in-Some.log c.in-Some.is).speaks

pub invariant_of-result : goal.invariant_of-result
invariant_of-result g c =
    let kept = c.args.inbox.kept c.in-Some.log c.in-Some.is in
    let same = c.seen-whole.ensures.same in
    record {
      speaks = same ∙ kept.speaks ∙ sym (ap (λ m. (hand (log_of m.0 ∷ []) [] m.0.fronts, [])) (same ∙ kept.speaks));
      shard_is = ap (λ m. (log_of m.0).shard) same ∙ kept.shard_is ∙ c.if-from-shard.false;
    }

pub returns-clause-account : goal.returns-clause-account
returns-clause-account g c = λ r e.
    let cap = cap_of g.B.Archive.shards in
    let kept = c.args.inbox.kept c.in-Some.log c.in-Some.is in
    let l = log_of c.in-Some.log.token.me.0 in
    let messages = shown c.args.self.seen.me.0 in
    let whole = ap (λ m. m.0.fronts) c.seen-whole.ensures.seen ∙ (λ i. map front_of (kept.speaks i).0.logs ++ (kept.speaks i).0.fronts) in
    let taken = same_taken l c.args.self.shard messages c.seen-whole.result.me.0.fronts c.args.self.seen.me.0.fronts whole (ap (λ m. m.0.fronts) c.args.self.told)
    (kept.shard_is ∙ c.if-from-shard.false ∙ sym c.if-of-shard.false) (sym kept.took ∙ sym c.taken.ensures ∙ c.if-taken-count.false ∙ c.args.self.counted) c.compare.ensures.shows in
    subst (λ x. ∥ IsAccount cap (log_of x.0.log.token.me.0).taken x.0.state x.1.share.slips ∥₁) (some_same _ r e)
    (∥∥₁_map c.args.self.kept (λ k.
    subst (λ ms. IsAccount cap ms c.args.self.state c.in-Some-seat.seat.share.slips) (taken ∙ sym (ap (λ m. (log_of m.0).taken) c.seen-whole.ensures.same))
    (account cap messages c.args.self.state (hash_map.get nat_eq c.args.self.weights) c.in-Some-seat.seat.share.slips (subst (λ o. IsKept cap messages c.args.self.state (hash_map.get nat_eq c.args.self.weights) (slips_at o)) c.in-Some-seat.is k))))
