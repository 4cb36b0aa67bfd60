use Rattle.std.proofs.Common.{ap, Err, rules}
use Rattle.lru_generations.proofs.Touched.{touches_started, touches_looked, touches_then}
use Rattle.lru_generations.proofs.file_reading.read_file.Goals as goal

pub returns-in-Err-NotFound-clause-touches : goal.returns-in-Err-NotFound-clause-touches
returns-in-Err-NotFound-clause-touches g c k =
    let start = c.args.folder.now in
    touches_looked g.F.Folder.meaning (λ q. ⊥) start start c.open.new.self
    (touches_started g.F.Folder.meaning (λ q. ⊥) start k) (c.open.ensures.time k) (c.open.ensures.loss k)

pub returns-in-Err : goal.returns-in-Err
returns-in-Err g c =
    let F = g.F.Folder in
    let start = c.args.folder.now in
    record {
      found = λ k. tt;
      touches = λ k. touches_looked F.meaning (λ q. ⊥) start start c.open.new.self
          (touches_started F.meaning (λ q. ⊥) start k) (c.open.ensures.time k) (c.open.ensures.loss k);
      named = λ k. c.open.ensures.last k;
      reason = λ k.
          let cause = c.in-Err.ensures.cause k in
          record {
            later = cause.later;
            failed = λ io. cause.failed (ap Err io);
            told = λ rose. let io = cause.told rose in cc;
            not_found = search rules;
          };
      files = λ k. (c.open.ensures.time k).leaves;
      faults = search rules;
      places = λ k. c.open.ensures.places k;
      kept = c.open.ensures.kept;
    }

pub returns-in-Ok-read_opened-clause-touches : goal.returns-in-Ok-read_opened-clause-touches
returns-in-Ok-read_opened-clause-touches g c k =
    let start = c.args.folder.now in
    touches_then g.F.Folder.meaning (λ q. ⊥) start c.open.new.self c.read_opened.new.folder
    (touches_looked g.F.Folder.meaning (λ q. ⊥) start start c.open.new.self
    (touches_started g.F.Folder.meaning (λ q. ⊥) start k) (c.open.ensures.time k) (c.open.ensures.loss k))
    (c.read_opened.ensures.touches (c.open.ensures.kept.0 k))

pub returns-in-Err-read_opened-clause-touches : goal.returns-in-Err-read_opened-clause-touches
returns-in-Err-read_opened-clause-touches g c k =
    let start = c.args.folder.now in
    touches_then g.F.Folder.meaning (λ q. ⊥) start c.open.new.self c.read_opened.new.folder
    (touches_looked g.F.Folder.meaning (λ q. ⊥) start start c.open.new.self
    (touches_started g.F.Folder.meaning (λ q. ⊥) start k) (c.open.ensures.time k) (c.open.ensures.loss k))
    (c.read_opened.ensures.touches (c.open.ensures.kept.0 k))

pub returns-then-len-most-clause-touches : goal.returns-then-len-most-clause-touches
returns-then-len-most-clause-touches g c k =
    let start = c.args.folder.now in
    touches_looked g.F.Folder.meaning (λ q. ⊥) start start c.open.new.self
    (touches_started g.F.Folder.meaning (λ q. ⊥) start k) (c.open.ensures.time k) (c.open.ensures.loss k)
