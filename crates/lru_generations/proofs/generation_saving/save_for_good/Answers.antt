use Rattle.std.proofs.Common.{◌≡◌, inl, inr, refl, sym, subst}
use Rattle.lru_folder.specs.Files.{Files}
use Rattle.lru_folder.specs.Meaning.{Meaning}
use Rattle.lru_generations.specs.Names.{frame_path, manifest_path, manifest_temp_path}
use Rattle.lru_generations.proofs.Touched.{touches_then, touches_more}
use Rattle.lru_generations.specs.Causes.{IsUnnamed}
use Rattle.lru_generations.specs.Checkpoints.{HasCheckpoint, IsFrame, IsWhole}
use Rattle.lru_generations.proofs.Lists.{never}
use Rattle.lru_generations.proofs.Saved.{new_checkpoint, new_whole, saves_all}
use Rattle.lru_generations.specs.Saving.{IsUnfinished}
use Rattle.lru_generations.proofs.ForGood.{save_fault, saves_looked, saves_unfinished, still_whole}
use Rattle.lru_generations.proofs.generation_saving.save_for_good.Goals as goal

pub returns-in-Err-clause-saves : goal.returns-in-Err-clause-saves
returns-in-Err-clause-saves g c k =
    let m : Meaning _ = g.F.Folder.meaning in
    let start = c.args.folder.now in
    let one = c.save_parts.new.folder in
    let all = IsUnfinished c.args.dir.now c.args.file_name.now c.args.generation in
    let k-1 = c.save_parts.ensures.kept.0 k in
    let first = touches_more m (IsFrame c.args.dir.now c.args.file_name.now c.args.generation) all (λ q f. inl f) start one (c.save_parts.ensures.touches k) in
    let new = c.clear.new.folder in
    saves_unfinished g.K.Stored.bytes_of g.K.Stored.is_value g.V.Stored.bytes_of g.V.Stored.is_value c.args.dir.now c.args.file_name.now (g.S.Source.hands_out c.args.source.now) (g.S.Source.count c.args.source.now) c.args.generation c.requires.few c.ranges.generation.fits m start new (touches_then m all start one new first (c.clear.ensures.touches k-1))

pub returns-in-Err-clause-reason : goal.returns-in-Err-clause-reason
returns-in-Err-clause-reason g c k = let why = c.in-Err.ensures.reason k in (why.0, (c.save_parts.new.folder, why.1))

pub returns-in-Err-clause-error : goal.returns-in-Err-clause-error
returns-in-Err-clause-error g c k =
    let why = c.in-Err.ensures.reason k in
    save_fault g.F.Folder.meaning c.args.dir.now c.args.file_name.now c.args.generation why.0 c.save_parts.new.folder c.in-Err.error why.1

pub returns-then-is_unnamed-clause-saves : goal.returns-then-is_unnamed-clause-saves
returns-then-is_unnamed-clause-saves g c k =
    let m : Meaning _ = g.F.Folder.meaning in
    let start = c.args.folder.now in
    let one = c.save_parts.new.folder in
    let two = c.save_manifest.new.folder in
    let k-1 = c.save_parts.ensures.kept.0 k in
    let k-2 = c.save_manifest.ensures.kept.0 k-1 in
    let parts = c.in-Ok.ensures.saved in
    let stand = parts.1.1.1.1 k in
    let unnamed : IsUnnamed c.in-Err-save_manifest.error = (c.if-is_unnamed.ensures {u = tt}).0 refl in
    saves_all g.K.Stored.bytes_of g.K.Stored.is_value g.V.Stored.bytes_of g.V.Stored.is_value c.args.dir.now c.args.file_name.now (g.S.Source.hands_out c.args.source.now) (g.S.Source.count c.args.source.now) c.args.generation c.requires.few c.ranges.generation.fits m start parts.0 c.in-Ok.frames.items parts.1.0 parts.1.1.0 parts.1.1.1.0 (c.in-Err-save_manifest.ensures.told unnamed) one two
    (c.save_parts.ensures.touches k) stand.0 stand.1 (c.save_manifest.ensures.replaces k-1)

pub returns-then-is_unnamed-clause-reason : goal.returns-then-is_unnamed-clause-reason
returns-then-is_unnamed-clause-reason g c k = (c.save_parts.new.folder, (c.save_manifest.new.folder, c.in-Err-save_manifest.ensures.reason (c.save_parts.ensures.kept.0 k)))

pub returns-then-is_unnamed-clause-error : goal.returns-then-is_unnamed-clause-error
returns-then-is_unnamed-clause-error g c k =
    save_fault g.F.Folder.meaning c.args.dir.now c.args.file_name.now c.args.generation c.save_parts.new.folder c.save_manifest.new.folder c.in-Err-save_manifest.error
    (c.in-Err-save_manifest.ensures.reason (c.save_parts.ensures.kept.0 k))

pub returns-in-Err-save_manifest-clause-saves : goal.returns-in-Err-save_manifest-clause-saves
returns-in-Err-save_manifest-clause-saves g c k =
    let m : Meaning _ = g.F.Folder.meaning in
    let start = c.args.folder.now in
    let one = c.save_parts.new.folder in
    let all = IsUnfinished c.args.dir.now c.args.file_name.now c.args.generation in
    let k-1 = c.save_parts.ensures.kept.0 k in
    let first = touches_more m (IsFrame c.args.dir.now c.args.file_name.now c.args.generation) all (λ q f. inl f) start one (c.save_parts.ensures.touches k) in
    let two = c.save_manifest.new.folder in
    let new = c.clear-in-Err-save_manifest.new.folder in
    let k-2 = c.save_manifest.ensures.kept.0 k-1 in
    let named : ¬ IsUnnamed c.in-Err-save_manifest.error = λ u. never ((c.if-is_unnamed.ensures {u = tt}).1 u) in
    let second = touches_more m (λ q. q ≡ manifest_temp_path c.args.dir.now c.args.file_name.now c.args.generation) all (λ q e. inr e) one two (c.in-Err-save_manifest.ensures.unnamed k-1 named) in
    saves_unfinished g.K.Stored.bytes_of g.K.Stored.is_value g.V.Stored.bytes_of g.V.Stored.is_value c.args.dir.now c.args.file_name.now (g.S.Source.hands_out c.args.source.now) (g.S.Source.count c.args.source.now) c.args.generation c.requires.few c.ranges.generation.fits m start new
    (touches_then m all start two new (touches_then m all start one two first second) (c.clear-in-Err-save_manifest.ensures.touches k-2))

pub returns-in-Err-save_manifest-clause-reason : goal.returns-in-Err-save_manifest-clause-reason
returns-in-Err-save_manifest-clause-reason g c k = (c.save_parts.new.folder, (c.save_manifest.new.folder, c.in-Err-save_manifest.ensures.reason (c.save_parts.ensures.kept.0 k)))

pub returns-in-Err-save_manifest-clause-error : goal.returns-in-Err-save_manifest-clause-error
returns-in-Err-save_manifest-clause-error g c k =
    save_fault g.F.Folder.meaning c.args.dir.now c.args.file_name.now c.args.generation c.save_parts.new.folder c.save_manifest.new.folder c.in-Err-save_manifest.error
    (c.in-Err-save_manifest.ensures.reason (c.save_parts.ensures.kept.0 k))

pub returns-in-Err-sync_names-clause-saves : goal.returns-in-Err-sync_names-clause-saves
returns-in-Err-sync_names-clause-saves g c k =
    let m : Meaning _ = g.F.Folder.meaning in
    let start = c.args.folder.now in
    let one = c.save_parts.new.folder in
    let two = c.save_manifest.new.folder in
    let k-1 = c.save_parts.ensures.kept.0 k in
    let k-2 = c.save_manifest.ensures.kept.0 k-1 in
    let parts = c.in-Ok.ensures.saved in
    let stand = parts.1.1.1.1 k in
    saves_looked g.K.Stored.bytes_of g.K.Stored.is_value g.V.Stored.bytes_of g.V.Stored.is_value c.args.dir.now c.args.file_name.now (g.S.Source.hands_out c.args.source.now) (g.S.Source.count c.args.source.now) c.args.generation c.requires.few c.ranges.generation.fits m start two c.sync_names.new.folder
    (saves_all g.K.Stored.bytes_of g.K.Stored.is_value g.V.Stored.bytes_of g.V.Stored.is_value c.args.dir.now c.args.file_name.now (g.S.Source.hands_out c.args.source.now) (g.S.Source.count c.args.source.now) c.args.generation c.requires.few c.ranges.generation.fits m start parts.0 c.in-Ok.frames.items parts.1.0 parts.1.1.0 parts.1.1.1.0 c.in_default.ensures.fits one two
    (c.save_parts.ensures.touches k) stand.0 stand.1 (c.save_manifest.ensures.replaces k-1)) (c.sync_names.ensures.time k-2) (c.sync_names.ensures.loss k-2)

pub returns-in-Err-sync_names-clause-reason : goal.returns-in-Err-sync_names-clause-reason
returns-in-Err-sync_names-clause-reason g c k =
    (c.save_manifest.new.folder, (c.sync_names.new.folder, c.in-Err-sync_names.ensures.reason (c.save_manifest.ensures.kept.0 (c.save_parts.ensures.kept.0 k)) c.args.file_name.now c.args.generation))

pub returns-in-Err-sync_names-clause-error : goal.returns-in-Err-sync_names-clause-error
returns-in-Err-sync_names-clause-error g c k =
    save_fault g.F.Folder.meaning c.args.dir.now c.args.file_name.now c.args.generation c.save_manifest.new.folder c.sync_names.new.folder c.in-Err-sync_names.error
    (c.in-Err-sync_names.ensures.reason (c.save_manifest.ensures.kept.0 (c.save_parts.ensures.kept.0 k)) c.args.file_name.now c.args.generation)

pub returns-in-Ok-sync_names-clause-saves : goal.returns-in-Ok-sync_names-clause-saves
returns-in-Ok-sync_names-clause-saves g c k =
    let m : Meaning _ = g.F.Folder.meaning in
    let start = c.args.folder.now in
    let one = c.save_parts.new.folder in
    let two = c.save_manifest.new.folder in
    let k-1 = c.save_parts.ensures.kept.0 k in
    let k-2 = c.save_manifest.ensures.kept.0 k-1 in
    let parts = c.in-Ok.ensures.saved in
    let stand = parts.1.1.1.1 k in
    saves_looked g.K.Stored.bytes_of g.K.Stored.is_value g.V.Stored.bytes_of g.V.Stored.is_value c.args.dir.now c.args.file_name.now (g.S.Source.hands_out c.args.source.now) (g.S.Source.count c.args.source.now) c.args.generation c.requires.few c.ranges.generation.fits m start two c.sync_names.new.folder
    (saves_all g.K.Stored.bytes_of g.K.Stored.is_value g.V.Stored.bytes_of g.V.Stored.is_value c.args.dir.now c.args.file_name.now (g.S.Source.hands_out c.args.source.now) (g.S.Source.count c.args.source.now) c.args.generation c.requires.few c.ranges.generation.fits m start parts.0 c.in-Ok.frames.items parts.1.0 parts.1.1.0 parts.1.1.1.0 c.in_default.ensures.fits one two
    (c.save_parts.ensures.touches k) stand.0 stand.1 (c.save_manifest.ensures.replaces k-1)) (c.sync_names.ensures.time k-2) (c.sync_names.ensures.loss k-2)

pub returns-in-Ok-sync_names-clause-saved : goal.returns-in-Ok-sync_names-clause-saved
returns-in-Ok-sync_names-clause-saved g c k =
    let m : Meaning _ = g.F.Folder.meaning in
    let start = c.args.folder.now in
    let one = c.save_parts.new.folder in
    let two = c.save_manifest.new.folder in
    let k-1 = c.save_parts.ensures.kept.0 k in
    let k-2 = c.save_manifest.ensures.kept.0 k-1 in
    let parts = c.in-Ok.ensures.saved in
    let stand = parts.1.1.1.1 k in
    let new = c.sync_names.new.folder in
    let dir = c.args.dir.now in
    let file_name = c.args.file_name.now in
    let named = c.in_default.ensures in
    let Has = HasCheckpoint g.K.Stored.bytes_of g.K.Stored.is_value g.V.Stored.bytes_of g.V.Stored.is_value dir file_name c.args.generation parts.0 in
    let stood : Has (m.files two) = new_checkpoint g.K.Stored.bytes_of g.K.Stored.is_value g.V.Stored.bytes_of g.V.Stored.is_value c.args.dir.now c.args.file_name.now (g.S.Source.hands_out c.args.source.now) (g.S.Source.count c.args.source.now) c.args.generation c.requires.few c.ranges.generation.fits parts.0 c.in-Ok.frames.items parts.1.0 parts.1.1.0 parts.1.1.1.0 named.fits (m.files one) (m.loose one) stand.0 stand.1
    (m.files one) (m.files two) (named.done k-1) in
    let synced = c.in-Ok-sync_names.ensures.synced k-2 in (
      parts.0,
      (
        parts.1.0,
        (
          subst Has (sym (c.sync_names.ensures.time k-2).leaves) stood,
          λ f lost. still_whole g.K.Stored.bytes_of g.K.Stored.is_value g.V.Stored.bytes_of g.V.Stored.is_value c.args.dir.now c.args.file_name.now (g.S.Source.hands_out c.args.source.now) (g.S.Source.count c.args.source.now) c.args.generation c.requires.few c.ranges.generation.fits parts.0 parts.1.0 c.requires.name (m.loose two) (m.files two) f (synced f lost).1
              (λ l. (named.firm k-1 (manifest_path dir file_name c.args.generation) l).1.0 refl)
              (λ shard below l. stand.1 shard below (named.firm k-1 (frame_path dir file_name c.args.generation shard) l).1.1) stood,
        ),
      ),
    )

pub returns-in-Ok-sync_names-clause-told : goal.returns-in-Ok-sync_names-clause-told
returns-in-Ok-sync_names-clause-told g c k =
    let m : Meaning _ = g.F.Folder.meaning in
    let one = c.save_parts.new.folder in
    let two = c.save_manifest.new.folder in
    let k-1 = c.save_parts.ensures.kept.0 k in
    let k-2 = c.save_manifest.ensures.kept.0 k-1 in
    let parts = c.in-Ok.ensures.saved in
    let stand = parts.1.1.1.1 k in
    let dir = c.args.dir.now in
    let file_name = c.args.file_name.now in
    let named = c.in_default.ensures in
    let frames = c.in-Ok.frames.items in
    let whole : IsWhole dir file_name c.args.generation frames (m.files two) = new_whole g.K.Stored.bytes_of g.K.Stored.is_value g.V.Stored.bytes_of g.V.Stored.is_value dir file_name (g.S.Source.hands_out c.args.source.now) (g.S.Source.count c.args.source.now) c.args.generation c.requires.few c.ranges.generation.fits parts.0 frames parts.1.0 parts.1.1.0 parts.1.1.1.0 named.fits (m.files one) (m.loose one) stand.0 stand.1
    (m.files one) (m.files two) (named.done k-1) in
    (refl, subst (λ (f : Files). IsWhole dir file_name c.args.generation frames f) (sym (c.sync_names.ensures.time k-2).leaves) whole)
