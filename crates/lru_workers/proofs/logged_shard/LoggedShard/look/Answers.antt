use Rattle.std.proofs.Common.{[], ◌∷◌, ◌++◌, ◌<◌, ◌^◌, length, arith, sym, ap, ◌∙◌, subst}
use Rattle.std.proofs.Math.Logic.{∥∥₁_map}
use Rattle.lru_inbox.specs.Logs.{of_fronts, joined, Shows}
use Rattle.lru_inbox.specs.Inboxes.{shown}
use Rattle.lru_inbox.proofs.Counting.{refusals_fit}
use Rattle.lru_actors.specs.Messages.{State}
use Rattle.lru_workers.proofs.Meeting.{seen_with}
use Rattle.lru_workers.proofs.logged_shard.LoggedShard.look.Goals as goal

pub returns-clause-told : goal.returns-clause-told
returns-clause-told g c =
    let xs = shown c.args.self.now.seen.me.0 in
    let old = c.args.caller.now.voice.token.me.0.fronts in
    let one = ap (λ m. m.0.fronts) c.args.self.now.told in
    let b = seen_with c.args.self.now.shard xs old c.args.self.now.seen.me.0.fronts one (subst (λ m. Shows (joined m.0 (of_fronts c.args.self.now.seen.me.0.fronts))) c.args.caller.now.told c.note.ensures.shows) in (
      xs,
      b.0,
      ap (λ m. m.0.fronts) c.note.ensures.both ∙ ap (λ fs. old ++ fs) one,
      b.1,
      b.2,
      ∥∥₁_map c.args.self.now.kept (λ k. record {
        turns = k.left.turns;
        messages_are = k.left.messages_are;
        allowed = k.left.allowed;
        refused_are = (let fits : length xs < 2 ^ 64 = omega (arith, c.args.self.now.counted) in sym (refusals_fit k.left.turns xs k.left.messages_are fits) ∙ sym (ap (λ (z : State g.row.K.Denot). z.refused) k.left.state) ∙ sym c.refused-caller.ensures);
        weighs = c.weight_of.ensures ∙ k.left.map_is c.args.hash;
      }),
    )
