use Rattle.std.proofs.Common.{◌≡◌, ◌∙◌, max, refl, ap, sym, subst}
use Rattle.std.specs.Prelude.{Some}
use Rattle.lru_shard.specs.Shard.{Shard}
use Rattle.lru_shard.specs.Unit.{SetsWeight}
use Rattle.lru_recording.specs.declared.entry.Call.TheVariants.{SetWeight}
use Rattle.lru_shard.proofs.EditsOf.{edits_set}
use Rattle.lru_recording.proofs.Calls.{stands_set}
use Rattle.lru_recording.proofs.Noted.{keeps}
use Rattle.lru_recording.proofs.recording.Recording.set_weight.Goals as goal

pub invariant_of-self-2 : goal.invariant_of-self-2
invariant_of-self-2 g c =
    let old = c.args.self.now in
    let new = c.set_weight-answer.new.self in
    let done = subst (λ w. SetsWeight old.unit c.args.key w c.set_weight-answer.result new) c.max.ensures c.set_weight-answer.ensures in
    let kept = keeps g.row.N old.journal.number c.note_reply.new.self.number _ _ old.unit new old.journal.history.items c.reserve.new.self.history.items c.note_reply.new.self.history.items (SetWeight c.args.key c.args.weight) _ (c.set.result) old.below old.capped old.ends old.right old.homes
    (c.requires.home) ((edits_set old.unit c.args.key (max c.args.weight 1) c.set_weight-answer.result new done).caps) (stands_set old.unit new c.args.key c.args.weight c.set_weight-answer.result done)
    (c.set.ensures) c.reserve.ensures.history.1 c.note_reply.ensures.history.1 (c.note_reply.ensures.history.0 ∙ c.reserve.ensures.history.0) in
    record { below = kept.below; capped = kept.capped; ends = kept.told.ends; right = kept.told.right; homes = kept.told.homes }
