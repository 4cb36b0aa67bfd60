use Rattle.std.proofs.Common.{◌≡◌, ◌∙◌, max, subst}
use Rattle.lru_shard.specs.Unit.{Admits}
use Rattle.lru_recording.specs.declared.entry.Call.TheVariants.{Admit}
use Rattle.lru_shard.proofs.EditsOf.{edits_admit}
use Rattle.lru_recording.proofs.Noted.{keeps}
use Rattle.lru_recording.proofs.Calls.{stands_admit}
use Rattle.lru_recording.proofs.recording.Recording.admit.Goals as goal

pub invariant_of-self-2 : goal.invariant_of-self-2
invariant_of-self-2 g c =
    let old = c.args.self.now in
    let new = c.admit-answer.new.self in
    let done = subst (λ w. Admits old.unit c.args.key c.args.data w c.admit-answer.result new) c.max.ensures c.admit-answer.ensures in
    let kept = keeps g.row.N old.journal.number c.note_reply.new.self.number _ _ old.unit new old.journal.history.items c.reserve.new.self.history.items c.note_reply.new.self.history.items (Admit c.args.key c.args.weight) _ c.admitted.result old.below old.capped old.ends old.right old.homes
    c.requires.home (edits_admit old.unit c.args.key c.args.data (max c.args.weight 1) c.admit-answer.result new done).caps (stands_admit old.unit new c.args.key c.args.data c.args.weight c.admit-answer.result done)
    c.admitted.ensures c.reserve.ensures.history.1 c.note_reply.ensures.history.1 (c.note_reply.ensures.history.0 ∙ c.reserve.ensures.history.0) in
    record { below = kept.below; capped = kept.capped; ends = kept.told.ends; right = kept.told.right; homes = kept.told.homes }
