use Rattle.std.proofs.Common.{◌≡◌, ◌∷◌, [], length, ap, sym, ◌∙◌, subst}
use Rattle.lru_inbox.specs.Logs.{front, of_fronts, taken_by}
use Rattle.lru_short_locks.proofs.Hands.{some_same}
use Rattle.lru_shard.specs.Limits.{cap_of}
use Rattle.lru_inbox.specs.Replies.{IsReply}
use Rattle.lru_inbox.specs.Inboxes.{shown, taken_in}
use Rattle.lru_inbox.proofs.Kept.{shown_is, length_take}
use Rattle.lru_inbox.proofs.taker.Taker.tell.Goals as goal

pub show-requires : goal.show-requires
show-requires g c = ap (λ m. m.1) (c.args.self.now.told c.in-Some.voice c.in-Some.is)

pub new-requires-2-clause-told : goal.new-requires-2-clause-told
new-requires-2-clause-told g c = λ x e.
    let is = shown_is c.args.self.now.shard c.args.count (taken_by c.in-Some.voice.token.me.0) c.in-Some.voice.token.me c.show.result.me (c.args.self.now.told c.in-Some.voice c.in-Some.is) c.show.ensures.shown in
    subst (λ t. t.me ≡ (of_fronts (front c.args.self.now.shard (shown t.me.0) ∷ []), [])) (some_same c.show.result x e)
    (is ∙ ap (λ m. (of_fronts (front c.args.self.now.shard (shown m.0) ∷ []), [])) (sym is))

pub new-requires-2-clause-counted : goal.new-requires-2-clause-counted
new-requires-2-clause-counted g c = λ x e.
    let xs = taken_by c.in-Some.voice.token.me.0 in
    let is = shown_is c.args.self.now.shard c.args.count xs c.in-Some.voice.token.me c.show.result.me (c.args.self.now.told c.in-Some.voice c.in-Some.is) c.show.ensures.shown in
    let few = c.requires.count (taken_by c.in-Some.voice.token.me.0) (ap taken_in c.in-Some.is) in
    subst (λ t. c.args.count ≡ length (shown t.me.0)) (some_same c.show.result x e)
    (sym (length_take c.args.count xs (few)) ∙ ap (λ m. length (shown m.0)) (sym is))

pub new-requires-2-clause-tells : goal.new-requires-2-clause-tells
new-requires-2-clause-tells g c = λ x e.
    let xs = taken_by c.in-Some.voice.token.me.0 in
    let is = shown_is c.args.self.now.shard c.args.count xs c.in-Some.voice.token.me c.show.result.me (c.args.self.now.told c.in-Some.voice c.in-Some.is) c.show.ensures.shown in
    subst (λ t. ∥ IsReply g.K.Clone.is_clone (cap_of g.B.Archive.shards) (shown t.me.0) c.args.refused c.args.reply ∥₁) (some_same c.show.result x e)
    (subst (λ m. ∥ IsReply g.K.Clone.is_clone (cap_of g.B.Archive.shards) (shown m.0) c.args.refused c.args.reply ∥₁) (sym is) (c.requires.tells (taken_by c.in-Some.voice.token.me.0) (ap taken_in c.in-Some.is)))
