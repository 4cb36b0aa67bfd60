use Rattle.std.proofs.Common.{◌≡◌, ◌+◌, ◌++◌, ◌≤◌, List, nat_eq, vec_len, vec_capacity}
use Rattle.std.specs.Prelude.{reverse}
use Rattle.std.specs.HashMap as hash
use Rattle.lru_actors.specs.declared.message.LruMsg.{LruMsg}
use Rattle.lru_actors.specs.Processing.{ProcessesAll}
use Rattle.lru_actors.proofs.process.process_batch.Given as goal

-- the messages before those that are left were processed
abbrev pub invariant-loop-msg : goal.invariant-loop-msg
invariant-loop-msg g l =
    (before : List (LruMsg g.row.K.Denot)) × ((before ++ reverse l.batch.items ≡ reverse l.initial.batch.items)
    × (ProcessesAll g.D.Dispatch.Puts g.D.Dispatch.IsSame g.D.Dispatch.queue g.K.Clone.is_clone g.D.Dispatch.MayRefuse l.initial.state (hash.get nat_eq l.initial.map) l.initial.dispatch
    before l.effects.items l.state (hash.get nat_eq l.map) l.dispatch
    × (vec_len l.effects + vec_len l.batch ≤ vec_capacity l.effects)))

abbrev pub decreases-loop-msg : goal.decreases-loop-msg
decreases-loop-msg g l = vec_len l.batch
