use Rattle.std.proofs.Common.{◌≡◌, ◌∙◌, ap, suc, rules}
use Rattle.std.specs.IoError.{error_kind}
use Rattle.std.specs.declared.io.ErrorKind.{ErrorKind}
use Rattle.std.specs.declared.io.ErrorKind.TheVariants.{Interrupted}
use Rattle.lru_host_folder.specs.Calls.{Failed}
use Rattle.lru_host_folder.proofs.FailsLemmas.{before, failed, last}
use Rattle.lru_host_folder.proofs.TrailLemmas.{interrupted_trail}
use Rattle.lru_host_folder.proofs.steps.read_once.Goals as goal

pub returns-in_default-clause-reason : goal.returns-in_default-clause-reason
returns-in_default-clause-reason g c =
    let so_far = c.tries.invariant.reads in
    let trail = interrupted_trail g.S.System.book so_far.0 _ _ so_far.1 in
    before g.S.System.book.note _ _ _ _ trail.0 trail.1 (failed g.S.System.book.note _ _ _ c.in-Err.ensures.noted)

pub tries-preserved : goal.tries-preserved
tries-preserved g c =
    let so_far = c.tries.invariant.reads in
    let again : error_kind c.in-Err.error ≡ Interrupted = search rules in
    record {
      reads = (
        suc so_far.0,
        c.in-Err.ensures.noted ∙ ap (λ (k : ErrorKind). g.S.System.book.note (g.S.System.book.notes c.tries.system) (Failed k)) again
            ∙ ap (λ m. g.S.System.book.note m (Failed Interrupted)) so_far.1,
      );
      place = c.read.ensures.place ∙ c.tries.invariant.place;
    }

pub returns-clause-reason : goal.returns-clause-reason
returns-clause-reason g c =
    let so_far = c.tries.invariant.reads in
    let trail = interrupted_trail g.S.System.book so_far.0 _ _ so_far.1 in
    last g.S.System.book.note _ c.read-2.result _ _ _ trail.0 trail.1 c.read-2.ensures.noted
