use Rattle.std.proofs.Common.{[], ◌∷◌, ◌++◌, map, refl, sym, ap, ◌∙◌, subst}
use Rattle.lru_inbox.specs.Logs.{Begins, Shows, accepted, front_of, hand, joined, log_of, seen_of}
use Rattle.lru_workers.proofs.Meeting.{seen_begins_with}
use Rattle.lru_workers.proofs.shard_end.ShardEnd.recognize.Goals as goal

pub invariant_of-self : goal.invariant_of-self
invariant_of-self g c =
    let whole = c.learn.ensures.both ∙ (λ i. (joined (c.seen.ensures.seen i).0 (c.args.self.now.speaks i).0, [])) in
    record {
      speaks = whole ∙ sym (ap (λ m. (hand (log_of m.0 ∷ []) [] m.0.fronts, [])) whole);
      shard_is = ap (λ m. (log_of m.0).shard) whole ∙ c.args.self.now.shard_is;
    }

pub returns-clause-begins : goal.returns-clause-begins
returns-clause-begins g c =
    let log = c.args.self.now.log.token.me in
    let caller = c.args.caller.now.voice.token.me in
    let told = c.args.caller.now.told in
    subst (λ fs. Begins (seen_of c.args.self.now.shard fs) (accepted (log_of log.0))) (λ i. map front_of (told i).0.logs ++ (told i).0.fronts)
    (seen_begins_with (log_of log.0) c.args.self.now.shard (map front_of caller.0.logs ++ caller.0.fronts) log.0.fronts c.args.self.now.shard_is
    (subst Shows (λ i. joined (c.seen.ensures.seen i).0 (c.args.self.now.speaks i).0) c.learn.ensures.shows))

pub returns-clause-same : goal.returns-clause-same
returns-clause-same g c = (refl, refl, ap (λ m. log_of m.0) (c.learn.ensures.both ∙ (λ i. (joined (c.seen.ensures.seen i).0 (c.args.self.now.speaks i).0, []))))
