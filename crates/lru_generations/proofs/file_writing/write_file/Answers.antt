use Rattle.std.proofs.Common.{◌≡◌, ◌∙◌}
use Rattle.lru_folder.specs.Meaning.{Meaning}
use Rattle.lru_generations.proofs.Touched.{touches_started, touches_created, touches_written, touches_looked, whole, is_written}
use Rattle.lru_generations.proofs.file_writing.write_file.Goals as goal

pub returns-in-Err-clause-touches : goal.returns-in-Err-clause-touches
returns-in-Err-clause-touches g c k =
    let F = g.F.Folder in
    let m : Meaning _ = F.meaning in
    let path = c.args.path.now in
    let start = c.args.folder.now in
    let none = touches_started m (λ q. q ≡ path) start k in
    let one = touches_created m path start start c.create.new.self k none (c.create.ensures.time k) (c.create.ensures.loss k) in
    one

pub returns-in-Err-write-clause-touches : goal.returns-in-Err-write-clause-touches
returns-in-Err-write-clause-touches g c k =
    let F = g.F.Folder in
    let m : Meaning _ = F.meaning in
    let path = c.args.path.now in
    let start = c.args.folder.now in
    let none = touches_started m (λ q. q ≡ path) start k in
    let one = touches_created m path start start c.create.new.self k none (c.create.ensures.time k) (c.create.ensures.loss k) in
    let k-1 = c.create.ensures.kept.0 k in
    let created = c.in_default.ensures.done k in
    let two = touches_written m path start c.create.new.self c.write.new.self k-1 one c.args.bytes.now (F.opened c.create.new.self) created.2
    (c.write.ensures.time k-1) (c.write.ensures.loss k-1) in
    two

pub returns-in-Err-flush-clause-touches : goal.returns-in-Err-flush-clause-touches
returns-in-Err-flush-clause-touches g c k =
    let F = g.F.Folder in
    let m : Meaning _ = F.meaning in
    let path = c.args.path.now in
    let start = c.args.folder.now in
    let none = touches_started m (λ q. q ≡ path) start k in
    let one = touches_created m path start start c.create.new.self k none (c.create.ensures.time k) (c.create.ensures.loss k) in
    let k-1 = c.create.ensures.kept.0 k in
    let created = c.in_default.ensures.done k in
    let two = touches_written m path start c.create.new.self c.write.new.self k-1 one c.args.bytes.now (F.opened c.create.new.self) created.2
    (c.write.ensures.time k-1) (c.write.ensures.loss k-1) in
    let k-2 = c.write.ensures.kept.0 k-1 in
    let three = touches_looked m (λ q. q ≡ path) start c.write.new.self c.flush.new.self two (c.flush.ensures.time k-2) (c.flush.ensures.loss k-2) in
    three

pub returns-in-Err-sync-clause-touches : goal.returns-in-Err-sync-clause-touches
returns-in-Err-sync-clause-touches g c k =
    let F = g.F.Folder in
    let m : Meaning _ = F.meaning in
    let path = c.args.path.now in
    let start = c.args.folder.now in
    let none = touches_started m (λ q. q ≡ path) start k in
    let one = touches_created m path start start c.create.new.self k none (c.create.ensures.time k) (c.create.ensures.loss k) in
    let k-1 = c.create.ensures.kept.0 k in
    let created = c.in_default.ensures.done k in
    let two = touches_written m path start c.create.new.self c.write.new.self k-1 one c.args.bytes.now (F.opened c.create.new.self) created.2
    (c.write.ensures.time k-1) (c.write.ensures.loss k-1) in
    let k-2 = c.write.ensures.kept.0 k-1 in
    let three = touches_looked m (λ q. q ≡ path) start c.write.new.self c.flush.new.self two (c.flush.ensures.time k-2) (c.flush.ensures.loss k-2) in
    let k-3 = c.flush.ensures.kept.0 k-2 in
    let four = touches_looked m (λ q. q ≡ path) start c.flush.new.self c.sync.new.self three (c.sync.ensures.time k-3) (c.sync.ensures.loss k-3) in
    four

pub returns-clause-touches : goal.returns-clause-touches
returns-clause-touches g c k =
    let F = g.F.Folder in
    let m : Meaning _ = F.meaning in
    let path = c.args.path.now in
    let start = c.args.folder.now in
    let none = touches_started m (λ q. q ≡ path) start k in
    let one = touches_created m path start start c.create.new.self k none (c.create.ensures.time k) (c.create.ensures.loss k) in
    let k-1 = c.create.ensures.kept.0 k in
    let created = c.in_default.ensures.done k in
    let two = touches_written m path start c.create.new.self c.write.new.self k-1 one c.args.bytes.now (F.opened c.create.new.self) created.2
    (c.write.ensures.time k-1) (c.write.ensures.loss k-1) in
    let k-2 = c.write.ensures.kept.0 k-1 in
    let three = touches_looked m (λ q. q ≡ path) start c.write.new.self c.flush.new.self two (c.flush.ensures.time k-2) (c.flush.ensures.loss k-2) in
    let k-3 = c.flush.ensures.kept.0 k-2 in
    let four = touches_looked m (λ q. q ≡ path) start c.flush.new.self c.sync.new.self three (c.sync.ensures.time k-3) (c.sync.ensures.loss k-3) in
    four

pub returns-clause-written : goal.returns-clause-written
returns-clause-written g c k =
    let F = g.F.Folder in
    let m : Meaning _ = F.meaning in
    let path = c.args.path.now in
    let start = c.args.folder.now in
    let none = touches_started m (λ q. q ≡ path) start k in
    let one = touches_created m path start start c.create.new.self k none (c.create.ensures.time k) (c.create.ensures.loss k) in
    let k-1 = c.create.ensures.kept.0 k in
    let created = c.in_default.ensures.done k in
    let two = touches_written m path start c.create.new.self c.write.new.self k-1 one c.args.bytes.now (F.opened c.create.new.self) created.2
    (c.write.ensures.time k-1) (c.write.ensures.loss k-1) in
    let k-2 = c.write.ensures.kept.0 k-1 in
    let three = touches_looked m (λ q. q ≡ path) start c.write.new.self c.flush.new.self two (c.flush.ensures.time k-2) (c.flush.ensures.loss k-2) in
    let k-3 = c.flush.ensures.kept.0 k-2 in
    let same = (c.sync.ensures.time k-3).leaves ∙ (c.flush.ensures.time k-2).leaves in
    let mode = c.flush.ensures.mode ∙ c.write.ensures.mode ∙ created.2 in
    let here = whole m path start c.args.bytes.now c.create.new.self c.write.new.self c.sync.new.self (F.opened c.create.new.self) created.1 created.2
    (c.in_default-write.ensures.done k-1) same in
    is_written m path start c.args.bytes.now c.flush.new.self c.sync.new.self (F.opened c.flush.new.self) three mode (c.in_default-sync.ensures.done k-3)
    (c.sync.ensures.time k-3).leaves here
