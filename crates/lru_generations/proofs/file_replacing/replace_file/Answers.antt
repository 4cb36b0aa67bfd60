use Rattle.std.proofs.Common.{ap, subst, sym, arith, Err}
use Rattle.lru_folder.specs.Meaning.{Meaning}
use Rattle.lru_generations.specs.Replacing.{IsReplaced}
use Rattle.lru_generations.proofs.Replaced.{not_yet, is_replaced, replaced, stays_firm}
use Rattle.lru_generations.proofs.file_replacing.replace_file.Goals as goal

pub returns-in-Err-clause-replaces : goal.returns-in-Err-clause-replaces
returns-in-Err-clause-replaces g c k =
    not_yet g.F.Folder.meaning c.args.temp.now c.args.path.now c.args.bytes.now c.requires c.args.folder.now c.write_file.new.folder (c.write_file.ensures.touches k)

pub returns-in-Err-rename-clause-replaces : goal.returns-in-Err-rename-clause-replaces
returns-in-Err-rename-clause-replaces g c k =
    let F = g.F.Folder in
    let m : Meaning _ = F.meaning in
    let mid = c.write_file.new.folder in
    let k-1 = c.write_file.ensures.kept.0 k in
    replaced m c.args.temp.now c.args.path.now c.args.bytes.now c.requires c.args.folder.now mid c.rename.new.self (c.write_file.ensures.touches k) (c.in_default.ensures.written k)
    k-1 (c.rename.ensures.time k-1) (c.rename.ensures.loss k-1)

pub returns-in-Err-rename-clause-reason : goal.returns-in-Err-rename-clause-reason
returns-in-Err-rename-clause-reason g c k =
    let F = g.F.Folder in
    let k-1 = c.write_file.ensures.kept.0 k in
    let one = c.in_default.ensures.faults k in
    let cause = c.in-Err-rename.ensures.cause k-1 in
    record {
      later = omega (arith, one, cause.later);
      failed = λ io. let rose = cause.failed (ap Err io) in omega (arith, one, rose);
      told = λ rose. let io = cause.told (omega (arith, one, rose)) in cc;
      not_found = λ missing. let none = c.in-Err-rename.ensures.found k-1 (ap Err missing) in let here = (c.in_default.ensures.written k).file in cc;
    }

pub returns-clause-done : goal.returns-clause-done
returns-clause-done g c k =
    let F = g.F.Folder in
    let m : Meaning _ = F.meaning in
    let mid = c.write_file.new.folder in
    let k-1 = c.write_file.ensures.kept.0 k in
    let start = c.args.folder.now in
    subst (IsReplaced c.args.temp.now c.args.path.now c.args.bytes.now (F.meaning.files start) (F.meaning.loose start) (F.meaning.files start)) (sym (c.in_default-rename.ensures.done k-1).1)
    (is_replaced m c.args.temp.now c.args.path.now c.args.bytes.now c.requires start mid c.rename.new.self (c.write_file.ensures.touches k) (c.in_default.ensures.written k))

pub returns-clause-replaces : goal.returns-clause-replaces
returns-clause-replaces g c k =
    let F = g.F.Folder in
    let m : Meaning _ = F.meaning in
    let mid = c.write_file.new.folder in
    let k-1 = c.write_file.ensures.kept.0 k in
    replaced m c.args.temp.now c.args.path.now c.args.bytes.now c.requires c.args.folder.now mid c.rename.new.self (c.write_file.ensures.touches k) (c.in_default.ensures.written k)
    k-1 (c.rename.ensures.time k-1) (c.rename.ensures.loss k-1)

pub returns-clause-firm : goal.returns-clause-firm
returns-clause-firm g c k =
    let m : Meaning _ = g.F.Folder.meaning in
    let mid = c.write_file.new.folder in
    let k-1 = c.write_file.ensures.kept.0 k in
    stays_firm m c.args.temp.now c.args.path.now c.args.bytes.now c.requires c.args.folder.now mid c.rename.new.self (c.write_file.ensures.touches k) (c.in_default.ensures.written k)
    (c.in_default-rename.ensures.settled k-1)
