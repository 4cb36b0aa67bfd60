use Rattle.std.proofs.Common.{◌∙◌, ap, sym, subst}
use Rattle.std.specs.Prelude.{option_copied}
use Rattle.std.specs.FinMap.{get}
use Rattle.lru_folder.specs.Files.{Files}
use Rattle.lru_folder.specs.Meaning.{Meaning}
use Rattle.lru_generations.specs.Names.{part_path}
use Rattle.lru_generations.specs.Checkpoints.{IsWhole}
use Rattle.lru_generations.proofs.Lists.{on_ok}
use Rattle.lru_generations.proofs.AsKnown.{newest_taken, saves_known}
use Rattle.lru_generations.proofs.KeptFrames.{kept_looked}
use Rattle.lru_generations.proofs.SavedNext.{next_looked}
use Rattle.lru_generations.proofs.generations.save_after.Goals as goal

pub returns-in-Err-clause-saves : goal.returns-in-Err-clause-saves
returns-in-Err-clause-saves g c k =
    let k-1 = c.save_claimed.ensures.kept.0 k in
    next_looked g.K.Stored.bytes_of g.K.Stored.is_value g.V.Stored.bytes_of g.V.Stored.is_value c.args.dir.now c.args.file_name.now (g.S.Source.hands_out c.args.source.now) (g.S.Source.count c.args.source.now) c.requires.name (option_copied c.args.known) g.F.Folder.meaning c.args.folder.now c.save_claimed.new.folder c.leave_dir.new.self (c.save_claimed.ensures.saves k) (c.leave_dir.ensures.time k-1) (c.leave_dir.ensures.loss k-1)

pub returns-in-Ok-clause-saves : goal.returns-in-Ok-clause-saves
returns-in-Ok-clause-saves g c k =
    let k-1 = c.save_claimed.ensures.kept.0 k in
    next_looked g.K.Stored.bytes_of g.K.Stored.is_value g.V.Stored.bytes_of g.V.Stored.is_value c.args.dir.now c.args.file_name.now (g.S.Source.hands_out c.args.source.now) (g.S.Source.count c.args.source.now) c.requires.name (option_copied c.args.known) g.F.Folder.meaning c.args.folder.now c.save_claimed.new.folder c.leave_dir-in-Ok.new.self (c.save_claimed.ensures.saves k) (c.leave_dir-in-Ok.ensures.time k-1) (c.leave_dir-in-Ok.ensures.loss k-1)

pub returns-in-Err-clause-frames : goal.returns-in-Err-clause-frames
returns-in-Err-clause-frames g c k =
    kept_looked g.F.Folder.meaning c.args.dir.now c.args.file_name.now c.args.folder.now c.save_claimed.new.folder c.leave_dir.new.self (c.save_claimed.ensures.frames k) (c.leave_dir.ensures.time (c.save_claimed.ensures.kept.0 k))

pub returns-in-Ok-clause-frames : goal.returns-in-Ok-clause-frames
returns-in-Ok-clause-frames g c k =
    kept_looked g.F.Folder.meaning c.args.dir.now c.args.file_name.now c.args.folder.now c.save_claimed.new.folder c.leave_dir-in-Ok.new.self (c.save_claimed.ensures.frames k) (c.leave_dir-in-Ok.ensures.time (c.save_claimed.ensures.kept.0 k))

pub returns-in-Ok-clause-gone : goal.returns-in-Ok-clause-gone
returns-in-Ok-clause-gone g c k =
    let same = (c.leave_dir-in-Ok.ensures.time (c.save_claimed.ensures.kept.0 k)).leaves in
    on_ok c.in-Ok.saved.removed _ _
    (λ all part bytes is older there. ap (λ (f : Files). get f (part_path c.args.dir.now c.args.file_name.now part)) same ∙ all part bytes is older there)
    (c.in-Ok.ensures.gone k)

pub returns-in-Err-clause-as_known : goal.returns-in-Err-clause-as_known
returns-in-Err-clause-as_known g c k is = (
  tt,
  saves_known g.K.Stored.bytes_of g.K.Stored.is_value g.V.Stored.bytes_of g.V.Stored.is_value c.args.dir.now c.args.file_name.now (g.S.Source.hands_out c.args.source.now) (g.S.Source.count c.args.source.now) (option_copied c.args.known)
      g.F.Folder.meaning c.args.folder.now c.leave_dir.new.self is (returns-in-Err-clause-saves g c k),
)

pub returns-in-Ok-clause-as_known : goal.returns-in-Ok-clause-as_known
returns-in-Ok-clause-as_known g c k is = (
  newest_taken c.args.dir.now c.args.file_name.now (g.F.Folder.meaning.files c.args.folder.now) (option_copied c.args.known) is c.in-Ok.saved.kept (c.in-Ok.ensures.newest k),
  saves_known g.K.Stored.bytes_of g.K.Stored.is_value g.V.Stored.bytes_of g.V.Stored.is_value c.args.dir.now c.args.file_name.now (g.S.Source.hands_out c.args.source.now) (g.S.Source.count c.args.source.now) (option_copied c.args.known)
      g.F.Folder.meaning c.args.folder.now c.leave_dir-in-Ok.new.self is (returns-in-Ok-clause-saves g c k),
)

pub returns-in-Ok-clause-told : goal.returns-in-Ok-clause-told
returns-in-Ok-clause-told g c k =
    let m : Meaning _ = g.F.Folder.meaning in
    let known = c.in-Ok.saved.known in
    let told = c.in-Ok.ensures.told k in
    let same = (c.leave_dir-in-Ok.ensures.time (c.save_claimed.ensures.kept.0 k)).leaves in
    (told.0, subst (λ (f : Files). IsWhole c.args.dir.now c.args.file_name.now known.generation known.frames.items f) (sym same) told.1)
