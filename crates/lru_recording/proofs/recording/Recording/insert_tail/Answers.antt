use Rattle.std.proofs.Common.{◌≡◌, ◌∙◌, max, refl, ap, sym, subst}
use Rattle.std.specs.Prelude.{Some}
use Rattle.lru_shard.specs.Shard.{Shard}
use Rattle.lru_recording.specs.declared.entry.Call.TheVariants.{InsertTail}
use Rattle.lru_shard.proofs.EditsOf.{edits_tail}
use Rattle.lru_recording.proofs.Calls.{stands_insert}
use Rattle.lru_recording.proofs.Noted.{keeps}
use Rattle.lru_recording.proofs.recording.Recording.insert_tail.Goals as goal

pub invariant_of-self-2 : goal.invariant_of-self-2
invariant_of-self-2 g c =
    let old = c.args.self.now in
    let new = c.insert_tail-answer.new.self in
    let kept = keeps g.row.N old.journal.number c.note_reply.new.self.number _ _ old.unit new old.journal.history.items c.reserve.new.self.history.items c.note_reply.new.self.history.items (InsertTail c.args.key c.args.weight) _ (c.inserted.result) old.below old.capped old.ends old.right old.homes
    (c.requires.home) ((edits_tail old.unit c.args.key c.args.data c.args.weight c.insert_tail-answer.result new c.insert_tail-answer.ensures).caps) (stands_insert old.unit new c.args.key c.args.data c.args.weight c.insert_tail-answer.result c.insert_tail-answer.ensures)
    (c.inserted.ensures) c.reserve.ensures.history.1 c.note_reply.ensures.history.1 (c.note_reply.ensures.history.0 ∙ c.reserve.ensures.history.0) in
    record { below = kept.below; capped = kept.capped; ends = kept.told.ends; right = kept.told.right; homes = kept.told.homes }
