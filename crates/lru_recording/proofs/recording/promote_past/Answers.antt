use Rattle.std.proofs.Common.{sym}
use Rattle.lru_recording.proofs.Forgets.{near_front}
use Rattle.lru_recording.proofs.recording.promote_past.Goals as goal

pub returns-else-need_promote-clause-answer : goal.returns-else-need_promote-clause-answer
returns-else-need_promote-clause-answer g c = sym (near_front c.args.unit.now.rows c.args.key c.args.top (sym c.if-need_promote.ensures))
