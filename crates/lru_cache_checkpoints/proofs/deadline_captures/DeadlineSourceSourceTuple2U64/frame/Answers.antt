use Rattle.std.proofs.Common.{sym, subst}
use Rattle.std.specs.Prelude.{map}
use Rattle.lru_owned_cache.specs.Cache.{parts_of}
use Rattle.lru_frames.specs.Copies.{AreEach}
use Rattle.lru_cache_checkpoints.specs.CapturedDeadlines.{IsDeadlineCopy}
use Rattle.lru_cache_checkpoints.proofs.Restoring.{if_all_ok}
use Rattle.lru_cache_checkpoints.proofs.deadline_captures.DeadlineSourceSourceTuple2U64.frame.Goals as goal

pub returns : goal.returns
returns g c =
    let made = c.encode_marked.ensures in
    let copies = subst (AreEach (IsDeadlineCopy g.K.Clone.is_clone g.V.Clone.is_clone) (map parts_of c.args.self.now.cache.now.entries)) (sym c.deref.ensures.value) c.in_ok-rows.ensures in
    if_all_ok c.encode_marked.result _ _ _ _ (λ m bytes mark fits. (c.deref.result.now, (copies, (fits, (bytes, mark))))) made.bytes made.mark made.fits
