use Rattle.std.proofs.Common.{◌≡◌, ◌∙◌, max, refl, ap, sym, subst}
use Rattle.std.specs.Prelude.{Some}
use Rattle.lru_shard.specs.Shard.{Shard}
use Rattle.lru_recording.specs.Replies.{increments, incremented, new_weight}
use Rattle.lru_recording.specs.Plain.{forget}
use Rattle.lru_recording.specs.Histories.{home}
use Rattle.lru_shard.proofs.EditsOf.{edits_increment}
use Rattle.lru_recording.proofs.Calls.{stands_increment, increments_home}
use Rattle.lru_recording.proofs.Noted.{keeps, Stands}
use Rattle.lru_recording.proofs.recording.Recording.increment_weight.Goals as goal

pub invariant_of-self-2 : goal.invariant_of-self-2
invariant_of-self-2 g c =
    let old = c.args.self.now in
    let new = c.increment_weight.new.self in
    let kept = keeps g.row.N old.journal.number c.note_reply.new.self.number _ _ old.unit new old.journal.history.items c.reserve.new.self.history.items c.note_reply.new.self.history.items (c.increments-call.result) _ (c.incremented.result) old.below old.capped old.ends old.right old.homes
    (subst (λ x. home g.row.N old.journal.number x ≡ old.journal.number) (sym c.increments-call.ensures) (increments_home g.row.N old.journal.number c.args.key c.args.delta c.args.max_weight c.requires.home)) ((edits_increment _ old.unit c.args.key c.args.delta c.args.max_weight c.increment_weight.result new c.increment_weight.ensures).caps) (subst (λ x. Stands old.unit.cap (forget old.unit.rows) x (incremented (new_weight c.increment_weight.result)) (forget new.rows)) (sym c.increments-call.ensures) (stands_increment _ old.unit new c.args.key c.args.delta c.args.max_weight c.increment_weight.result c.increment_weight.ensures))
    (c.incremented.ensures ∙ ap incremented c.new_weight-answer.ensures) c.reserve.ensures.history.1 c.note_reply.ensures.history.1 (c.note_reply.ensures.history.0 ∙ c.reserve.ensures.history.0) in
    record { below = kept.below; capped = kept.capped; ends = kept.told.ends; right = kept.told.right; homes = kept.told.homes }
