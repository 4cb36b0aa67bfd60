use Rattle.std.proofs.Common.{[], sym, ap, ◌∙◌, subst, arith}
use Rattle.lru_inbox.specs.Logs.{of_fronts, Shows}
use Rattle.lru_inbox.specs.Inboxes.{shown}
use Rattle.lru_inbox.proofs.Lists.{seen_before}
use Rattle.lru_inbox.proofs.Kept.{learned}
use Rattle.lru_inbox.proofs.caller.Caller.learn.Goals as goal

pub learn-requires-clause-free : goal.learn-requires-clause-free
learn-requires-clause-free g c = (ap (λ m. m.1) c.args.self.now.told, ap (λ m. m.1) (c.args.told.told c.in-Some.seen c.in-Some.is))

pub invariant_of-self : goal.invariant_of-self
invariant_of-self g c =
    let one = learned c.args.shard c.args.told.shard (shown c.in-Some.seen.me.0) c.args.self.now.voice.token.me.0.fronts c.in-Some.seen.me c.args.self.now.voice.token.me c.learn.new.self.token.me
    (c.args.told.told c.in-Some.seen c.in-Some.is) c.args.self.now.told c.if-of-shard.true c.learn.ensures.both in
    record { told = one ∙ ap (λ m. (of_fronts m.0.fronts, [])) (sym one) }

pub returns-in-Some-clause-learned : goal.returns-in-Some-clause-learned
returns-in-Some-clause-learned g c =
    let xs = shown c.in-Some.seen.me.0 in
    let fs = c.args.self.now.voice.token.me.0.fronts in
    let of_told = c.args.told.told c.in-Some.seen c.in-Some.is in
    let one = learned c.args.shard c.args.told.shard xs fs c.in-Some.seen.me c.args.self.now.voice.token.me c.learn.new.self.token.me of_told c.args.self.now.told c.if-of-shard.true c.learn.ensures.both in
    let counted = c.args.told.counted c.in-Some.seen c.in-Some.is in (
      xs,
      seen_before c.args.shard xs fs (subst (λ m. Shows m.0) (sym c.learn.ensures.both ∙ one) c.learn.ensures.shows) (omega (arith, c.requires, c.if-count-least.true, counted)),
      ap (λ m. m.0.fronts) one,
      c.args.told.tells c.in-Some.seen c.in-Some.is,
    )
