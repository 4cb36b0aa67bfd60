use Rattle.std.proofs.Common.{◌≡◌, ap, rules, Err}
use Rattle.lru_folder.specs.Meaning.{Meaning}
use Rattle.lru_generations.proofs.Touched.{touches_started, touches_removed}
use Rattle.lru_generations.proofs.Removed.{removed_none}
use Rattle.lru_generations.proofs.file_removing.remove_file.Goals as goal

pub returns-in-Ok-clause-touches : goal.returns-in-Ok-clause-touches
returns-in-Ok-clause-touches g c k =
    let F = g.F.Folder in
    let m : Meaning _ = F.meaning in
    let path = c.args.path.now in
    let start = c.args.folder.now in
    touches_removed m path start start c.remove.new.self k (touches_started m (λ q. q ≡ path) start k) (c.remove.ensures.time k) (c.remove.ensures.loss k)

pub returns-in-Err-NotFound-clause-done : goal.returns-in-Err-NotFound-clause-done
returns-in-Err-NotFound-clause-done g c k =
    let F = g.F.Folder in
    removed_none c.args.path.now (F.meaning.files c.args.folder.now) (F.meaning.files c.remove.new.self) (c.in-Err-NotFound.ensures.found k (ap Err c.in-Err-NotFound.field-0-is)) (c.remove.ensures.time k).leaves

pub returns-in-Err-NotFound-clause-touches : goal.returns-in-Err-NotFound-clause-touches
returns-in-Err-NotFound-clause-touches g c k =
    let F = g.F.Folder in
    let m : Meaning _ = F.meaning in
    let path = c.args.path.now in
    let start = c.args.folder.now in
    touches_removed m path start start c.remove.new.self k (touches_started m (λ q. q ≡ path) start k) (c.remove.ensures.time k) (c.remove.ensures.loss k)

pub returns-in-Err-clause-touches : goal.returns-in-Err-clause-touches
returns-in-Err-clause-touches g c k =
    let F = g.F.Folder in
    let m : Meaning _ = F.meaning in
    let path = c.args.path.now in
    let start = c.args.folder.now in
    touches_removed m path start start c.remove.new.self k (touches_started m (λ q. q ≡ path) start k) (c.remove.ensures.time k) (c.remove.ensures.loss k)

pub returns-in-Err-clause-reason : goal.returns-in-Err-clause-reason
returns-in-Err-clause-reason g c k =
    let cause = c.in-Err.ensures.cause k in
    record {
      later = cause.later;
      failed = λ io. cause.failed (ap Err io);
      told = λ rose. let io = cause.told rose in cc;
      not_found = search rules;
    }
