use Rattle.std.proofs.Common.{◌≡◌, ◌%◌, ◌∷◌, [], ◌++◌, true, false, refl, rules, ◌∙◌, subst}
use Rattle.std.specs.Prelude.{is_some}
use Rattle.lru_actors.specs.Keys.{hash_of}
use Rattle.lru_actors.specs.declared.message.LruMsg.TheVariants.{Promote}
use Rattle.lru_inbox.specs.Logs.{front, seen_of}
use Rattle.lru_inbox.specs.Inboxes.{Sends}
use Rattle.lru_async.specs.Logged.{fronts_of}
use Rattle.lru_async.proofs.Logged.{begins_then, more_then, sent_more, grew_seen, grew_others, looked_others}
use Rattle.lru_async.proofs.logged_lru.LoggedLru.promote.Goals as goal

pub returns-then-is_none-clause-looked : goal.returns-then-is_none-clause-looked
returns-then-is_none-clause-looked g c =
    let none : false ≡ is_some c.peek_weight.result = search rules in
    (c.peek_weight.result, fronts_of c.peek_weight.new.caller, [], c.peek_weight.ensures.told, refl, none)

pub returns-in-Ok-clause-looked : goal.returns-in-Ok-clause-looked
returns-in-Ok-clause-looked g c =
    let some : true ≡ is_some c.peek_weight.result = search rules in
    let s = c.in-Ok.ensures.sent in
    (c.peek_weight.result, fronts_of c.peek_weight.new.caller, front c.promotion.result.shard (s.0 ++ c.promotion.result.message ∷ []) ∷ [], c.peek_weight.ensures.told, s.2, some)

pub returns-in-Ok-clause-sent : goal.returns-in-Ok-clause-sent
returns-in-Ok-clause-sent g c = λ _.
    let hash = hash_of (g.K.Hash.hash_input c.args.key.now) in
    let shard = hash % g.row.N in
    let old = fronts_of c.args.caller.now in
    let mid = fronts_of c.peek_weight.new.caller in
    let new = fronts_of c.send.new.caller in
    let told = c.peek_weight.ensures.told in
    let s : Sends shard (Promote hash) mid new = subst (λ h. Sends (h % g.row.N) (Promote h) mid new) c.hash_key-hash.ensures.value (subst (λ a. Sends a.shard a.message mid new) c.promotion.ensures c.in-Ok.ensures.sent) in (
      s.0,
      begins_then (seen_of shard old) (seen_of shard mid) s.0 (c.peek_weight.ensures.grows.more shard) s.1,
      grew_seen shard (Promote hash) mid new s,
      λ t apart. grew_others shard (Promote hash) mid new s t apart ∙ looked_others shard told.0 old mid told.2 t apart,
    )

pub returns-in-Ok-clause-grows : goal.returns-in-Ok-clause-grows
returns-in-Ok-clause-grows g c = record {
  more = more_then (fronts_of c.args.caller.now) (fronts_of c.peek_weight.new.caller) (fronts_of c.send.new.caller) c.peek_weight.ensures.grows.more
      (sent_more c.promotion.result.shard c.promotion.result.message (fronts_of c.peek_weight.new.caller) (fronts_of c.send.new.caller) c.in-Ok.ensures.sent);
}
