use Rattle.std.proofs.Common.{◌≡◌, length, take, sym, ap, ◌∙◌, subst}
use Rattle.lru_short_locks.proofs.Hands.{some_same}
use Rattle.lru_inbox.specs.Logs.{taken_by}
use Rattle.lru_inbox.specs.Inboxes.{shown, taken_in}
use Rattle.lru_inbox.proofs.Kept.{shown_is, length_take}
use Rattle.lru_workers.proofs.Meeting.{same_seen}
use Rattle.lru_workers.proofs.logged_shard.LoggedShard.meet.Goals as goal

pub returns-in-Some-clause-met : goal.returns-in-Some-clause-met
returns-in-Some-clause-met g c = λ taken e.
    let voice = c.in-Some.voice in
    let xs = taken_by voice.token.me.0 in
    let same = some_same xs taken (sym (ap taken_in c.in-Some.is) ∙ e) in
    let few = c.requires.taken taken e in
    let theirs = shown_is c.args.taker.now.shard c.args.before xs voice.token.me c.show-theirs.result.me (c.args.taker.now.told voice c.in-Some.is) c.show-theirs.ensures.shown in
    let counted = c.args.self.now.counted in
    let long = length_take c.args.before taken few in
    subst (λ zs. shown c.args.self.now.seen.me.0 ≡ take c.args.before zs) same
    (same_seen c.args.taker.now.shard c.args.self.now.shard (take c.args.before xs) (shown c.args.self.now.seen.me.0) c.show-theirs.result.me.0.fronts c.args.self.now.seen.me.0.fronts
    (ap (λ m. m.0.fronts) theirs) (ap (λ m. m.0.fronts) c.args.self.now.told) c.requires.shard
    (ap (λ zs. length (take c.args.before zs)) same ∙ long ∙ sym c.requires.count ∙ counted) c.compare.ensures.shows)
