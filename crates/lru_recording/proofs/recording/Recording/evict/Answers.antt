use Rattle.std.proofs.Common.{◌≡◌, ◌∙◌, max, refl, ap, sym, subst}
use Rattle.std.specs.Prelude.{Some}
use Rattle.lru_shard.specs.Shard.{Shard}
use Rattle.lru_recording.specs.Replies.{paired}
use Rattle.lru_recording.proofs.Calls.{stands_evict, evict_home}
use Rattle.lru_recording.proofs.Noted.{keeps}
use Rattle.lru_recording.proofs.recording.Recording.evict.Goals as goal

pub invariant_of-self-2 : goal.invariant_of-self-2
invariant_of-self-2 g c =
    let old = c.args.self.now in
    let new = c.evict-answer.new.self in
    let kept = keeps g.row.N old.journal.number c.note.new.self.number _ _ old.unit new old.journal.history.items c.reserve.new.self.history.items c.note.new.self.history.items (c.args.call) _ (Some c.paired.result) old.below old.capped old.ends old.right old.homes
    (evict_home g.row.N old.journal.number c.args.call c.requires.call) (ap (λ (s : Shard _). s.cap) c.evict-answer.ensures.rows) (stands_evict old.unit new g.row.N old.journal.number c.args.call c.evict-answer.result c.requires.call c.evict-answer.ensures.answer c.evict-answer.ensures.rows)
    (ap Some c.paired.ensures) c.reserve.ensures.history.1 c.note.ensures.history.1 (c.note.ensures.history.0 ∙ c.reserve.ensures.history.0) in
    record { below = kept.below; capped = kept.capped; ends = kept.told.ends; right = kept.told.right; homes = kept.told.homes }
