use Rattle.std.proofs.Common.{[]}
use Rattle.lru_folder.proofs.SparingLemmas.{spares_started, spares_looking, spares_then}
use Rattle.lru_shard_files.proofs.loading.read_shard.Goals as goal

pub returns-in-Err-Folder-clause-named : goal.returns-in-Err-Folder-clause-named
returns-in-Err-Folder-clause-named g c k =
    let named = (c.in-Err-Folder.ensures {u = tt}).named (c.open.ensures.kept.0 k) in
    rw c.in-Err-Folder.field-0-is at named

pub returns-in_default-clause-spares : goal.returns-in_default-clause-spares
returns-in_default-clause-spares g c k =
    spares_started g.F.Folder.meaning [] c.args.folder.now k

pub returns-in-Err-NotFound-clause-spares : goal.returns-in-Err-NotFound-clause-spares
returns-in-Err-NotFound-clause-spares g c k =
    let start = c.args.folder.now in
    let opened = c.open.new.self in
    spares_looking g.F.Folder.meaning [] start opened k (c.open.ensures.time k) (c.open.ensures.loss k)

pub returns-in-Err-clause-spares : goal.returns-in-Err-clause-spares
returns-in-Err-clause-spares g c k =
    let start = c.args.folder.now in
    let opened = c.open.new.self in
    spares_looking g.F.Folder.meaning [] start opened k (c.open.ensures.time k) (c.open.ensures.loss k)

pub returns-in-Ok-read_opened-clause-spares : goal.returns-in-Ok-read_opened-clause-spares
returns-in-Ok-read_opened-clause-spares g c k =
    let start = c.args.folder.now in
    let opened = c.open.new.self in
    spares_then g.F.Folder.meaning [] start opened c.read_opened.new.folder
    (spares_looking g.F.Folder.meaning [] start opened k (c.open.ensures.time k) (c.open.ensures.loss k))
    (c.read_opened.ensures.spares (c.open.ensures.kept.0 k))

pub returns-in-Err-Memory-clause-spares : goal.returns-in-Err-Memory-clause-spares
returns-in-Err-Memory-clause-spares g c k =
    let start = c.args.folder.now in
    let opened = c.open.new.self in
    spares_then g.F.Folder.meaning [] start opened c.read_opened.new.folder
    (spares_looking g.F.Folder.meaning [] start opened k (c.open.ensures.time k) (c.open.ensures.loss k))
    (c.read_opened.ensures.spares (c.open.ensures.kept.0 k))

pub returns-in-Err-Folder-clause-spares : goal.returns-in-Err-Folder-clause-spares
returns-in-Err-Folder-clause-spares g c k =
    let start = c.args.folder.now in
    let opened = c.open.new.self in
    spares_then g.F.Folder.meaning [] start opened c.read_opened.new.folder
    (spares_looking g.F.Folder.meaning [] start opened k (c.open.ensures.time k) (c.open.ensures.loss k))
    (c.read_opened.ensures.spares (c.open.ensures.kept.0 k))
