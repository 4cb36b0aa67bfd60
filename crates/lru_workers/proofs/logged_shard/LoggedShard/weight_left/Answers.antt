use Rattle.std.proofs.Common.{refl, ◌∙◌}
use Rattle.std.proofs.Math.Logic.{∥∥₁_map}
use Rattle.lru_actors.specs.Turns.{refusals}
use Rattle.lru_inbox.specs.Inboxes.{shown}
use Rattle.lru_workers.proofs.logged_shard.LoggedShard.weight_left.Goals as goal

pub returns : goal.returns
returns g c =
    ∥∥₁_map c.args.self.now.kept (λ k. (
      shown c.args.self.now.seen.me.0,
      (
        refusals k.left.turns,
        record {
          turns = k.left.turns;
          messages_are = k.left.messages_are;
          allowed = k.left.allowed;
          refused_are = refl;
          weighs = c.weight_of.ensures ∙ k.left.map_is c.args.hash;
        },
      ),
    ))
