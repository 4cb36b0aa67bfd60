use Rattle.std.proofs.Common.{◌≡◌, ◌∙◌, ℕ, [], ◌∷◌, ◌++◌, length, refl, ap, sym, subst}
use Rattle.std.specs.Prelude.{Some, None, Ok, Err}
use Rattle.lru_recording.specs.Stamps.{receipt, and_receipt}
use Rattle.lru_recording.specs.declared.entry.Call.TheVariants.{UpdateOrAdmit}
use Rattle.lru_recording.specs.Replies.{refused}
use Rattle.lru_shard.proofs.EditsOf.{edits_update}
use Rattle.lru_recording.proofs.Calls.{stands_update, stands_refused, given_of, made_of, same_update}
use Rattle.lru_recording.proofs.Noted.{keeps}
use Rattle.lru_recording.proofs.recording.Recording.update_or_admit.Goals as goal

pub invariant_of-self-in-Ok : goal.invariant_of-self-in-Ok
invariant_of-self-in-Ok g c =
    let old = c.args.self.now in
    let new = c.update_or_admit.new.self in
    let kept = keeps g.row.N old.journal.number c.note.new.self.number _ _ old.unit new old.journal.history.items c.reserve.new.self.history.items c.note.new.self.history.items (UpdateOrAdmit c.args.key c.in-Ok.weight) _ (Some c.weighed.result) old.below old.capped old.ends old.right old.homes
    c.requires.home (edits_update _ _ old.unit c.args.key (Ok (c.in-Ok.was, c.in-Ok.weight)) new c.in-Ok.ensures).caps (stands_update _ _ old.unit new c.args.key c.in-Ok.was c.in-Ok.weight c.in-Ok.ensures)
    (ap Some c.weighed.ensures) c.reserve.ensures.history.1 c.note.ensures.history.1 (c.note.ensures.history.0 ∙ c.reserve.ensures.history.0) in
    record { below = kept.below; capped = kept.capped; ends = kept.told.ends; right = kept.told.right; homes = kept.told.homes }

pub returns-in-Ok-clause-ok : goal.returns-in-Ok-clause-ok
returns-in-Ok-clause-ok g c =
    let old = c.args.self.now in
    let new = c.update_or_admit.new.self in
    let w = c.in-Ok.weight in
    let call = UpdateOrAdmit c.args.key w in
    let given = given_of _ _ old.unit new c.args.key c.in-Ok.was w c.in-Ok.ensures in (
      w,
      (
        given,
        (
          length c.reserve.new.self.history.items,
          c.note.ensures.receipts.1
              ∙ (λ i. c.reserve.ensures.receipts.1 i ++ receipt (c.reserve.ensures.history.0 i) (length c.reserve.new.self.history.items) call (c.weighed.ensures i) ∷ []),
        ),
      ),
    )

pub invariant_of-self-in-Err : goal.invariant_of-self-in-Err
invariant_of-self-in-Err g c =
    let old = c.args.self.now in
    let new = c.update_or_admit.new.self in
    let kept = keeps g.row.N old.journal.number c.note_reply.new.self.number _ _ old.unit new old.journal.history.items c.reserve.new.self.history.items c.note_reply.new.self.history.items (UpdateOrAdmit c.args.key c.in-Err.refusal.weight) _ c.refused.result old.below old.capped old.ends old.right old.homes
    c.requires.home (edits_update _ _ old.unit c.args.key (Err c.in-Err.refusal) new c.in-Err.ensures).caps (stands_refused _ _ old.unit new c.args.key c.in-Err.refusal c.in-Err.ensures)
    c.refused.ensures c.reserve.ensures.history.1 c.note_reply.ensures.history.1 (c.note_reply.ensures.history.0 ∙ c.reserve.ensures.history.0) in
    record { below = kept.below; capped = kept.capped; ends = kept.told.ends; right = kept.told.right; homes = kept.told.homes }

pub returns-in-Err-clause-err : goal.returns-in-Err-clause-err
returns-in-Err-clause-err g c =
    let old = c.args.self.now in
    let new = c.update_or_admit.new.self in
    let w = c.in-Err.refusal.weight in
    let r = c.untold.result in
    let h = c.untold.ensures in
    let place = length c.reserve.new.self.history.items in (
      w,
      (
        made_of _ _ old.unit new c.args.key c.in-Err.refusal r h.cause h.held c.in-Err.ensures,
        (
          place,
          c.note_reply.ensures.receipts.1
              ∙ (λ i. and_receipt (c.reserve.ensures.receipts.1 i) (c.reserve.ensures.history.0 i) place (UpdateOrAdmit c.args.key w) ((c.refused.ensures ∙ ap refused (sym h.cause)) i)),
        ),
      ),
    )

pub returns-in-Err-clause-kept : goal.returns-in-Err-clause-kept
returns-in-Err-clause-kept g c = λ memory. same_update _ _ c.args.self.now.unit c.update_or_admit.new.self c.args.key c.in-Err.refusal (sym c.untold.ensures.cause ∙ memory) c.in-Err.ensures
