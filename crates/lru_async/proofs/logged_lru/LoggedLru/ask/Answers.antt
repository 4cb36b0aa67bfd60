use Rattle.std.proofs.Common.{sym, subst}
use Rattle.std.specs.Prelude.{IfOk}
use Rattle.std.specs.Option.{ForSome}
use Rattle.lru_shard.specs.Limits.{cap_of}
use Rattle.lru_inbox.specs.Inboxes.{Learns, Sends}
use Rattle.lru_async.specs.Logged.{fronts_of, Learned}
use Rattle.lru_async.proofs.Logged.{asked, learned_more, more_then, sent_more}
use Rattle.lru_async.proofs.logged_lru.LoggedLru.ask.Goals as goal

pub returns-clause-told : goal.returns-clause-told
returns-clause-told g c =
    let learns = subst (λ n. Learns g.K.Clone.is_clone (cap_of n) c.args.addressed.shard (fronts_of c.send.new.caller) c.learn.result c.learn.new.self.refused (fronts_of c.learn.new.self)) c.args.self.now.shards c.learn.ensures.learned in
    let sent = subst (λ m. Sends c.args.addressed.shard m (fronts_of c.args.caller.now) (fronts_of c.send.new.caller)) c.asking.ensures.0 c.in-Ok.ensures.sent in
    subst (λ o. IfOk o (λ reply. ForSome reply (λ r. Learned g.K.Clone.is_clone (cap_of g.row.N) c.args.addressed.shard c.args.addressed.message c.args.caller.now r c.learn.new.self))) (sym c.answer_of.ensures)
    (asked g.K.Clone.is_clone (cap_of g.row.N) c.args.addressed.shard c.args.addressed.message (fronts_of c.args.caller.now) (fronts_of c.send.new.caller) c.learn.new.self.refused (fronts_of c.learn.new.self) sent c.learn.result learns)

pub returns-in_default-clause-grows : goal.returns-in_default-clause-grows
returns-in_default-clause-grows g c =
    let sent = subst (λ m. Sends c.args.addressed.shard m (fronts_of c.args.caller.now) (fronts_of c.send.new.caller)) c.asking.ensures.0 c.in-Ok.ensures.sent in
    record { more = sent_more c.args.addressed.shard c.args.addressed.message (fronts_of c.args.caller.now) (fronts_of c.send.new.caller) sent }

pub returns-clause-grows : goal.returns-clause-grows
returns-clause-grows g c =
    let shard = c.args.addressed.shard in
    let mid = fronts_of c.send.new.caller in
    let new = fronts_of c.learn.new.self in
    let sent = subst (λ m. Sends shard m (fronts_of c.args.caller.now) mid) c.asking.ensures.0 c.in-Ok.ensures.sent in
    record {
      more = more_then (fronts_of c.args.caller.now) mid new (sent_more shard c.args.addressed.message (fronts_of c.args.caller.now) mid sent)
          (learned_more g.K.Clone.is_clone (cap_of g.B.Archive.shards) shard mid c.learn.new.self.refused new c.learn.result c.learn.ensures.learned);
    }
