use Rattle.std.proofs.Common.{◌≡◌, ◌∙◌, max, refl, ap, sym, subst}
use Rattle.std.specs.Prelude.{Some}
use Rattle.lru_shard.specs.Shard.{Shard}
use Rattle.lru_recording.specs.declared.entry.Call.TheVariants.{PromoteTopN}
use Rattle.lru_recording.specs.declared.entry.Reply.TheVariants.{Flag}
use Rattle.lru_recording.proofs.Calls.{stands_top}
use Rattle.lru_recording.proofs.Noted.{keeps}
use Rattle.lru_recording.proofs.recording.Recording.promote_top_n.Goals as goal

pub invariant_of-self-2 : goal.invariant_of-self-2
invariant_of-self-2 g c =
    let old = c.args.self.now in
    let new = c.promote_past-answer.new.unit in
    let kept = keeps g.row.N old.journal.number c.note.new.self.number _ _ old.unit new old.journal.history.items c.reserve.new.self.history.items c.note.new.self.history.items (PromoteTopN c.args.key c.args.top) _ (Some (Flag c.promote_past-answer.result)) old.below old.capped old.ends old.right old.homes
    (c.requires.home) (ap (λ (s : Shard _). s.cap) c.promote_past-answer.ensures.rows) (stands_top old.unit new c.args.key c.args.top c.promote_past-answer.result c.promote_past-answer.ensures.answer c.promote_past-answer.ensures.rows)
    (refl) c.reserve.ensures.history.1 c.note.ensures.history.1 (c.note.ensures.history.0 ∙ c.reserve.ensures.history.0) in
    record { below = kept.below; capped = kept.capped; ends = kept.told.ends; right = kept.told.right; homes = kept.told.homes }
