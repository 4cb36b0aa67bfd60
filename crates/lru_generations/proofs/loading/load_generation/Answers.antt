use Rattle.std.proofs.Common.{◌≡◌, ℕ, List, length, Some, slice_get, inr, sym, subst}
use Rattle.lru_folder.specs.Files.{Files}
use Rattle.lru_folder.specs.Meaning.{Meaning}
use Rattle.lru_frames.specs.declared.errors.FrameError.TheVariants.{Damaged}
use Rattle.lru_frames.specs.declared.mark.Mark.{Mark}
use Rattle.lru_generations.specs.Manifests.{part_header}
use Rattle.lru_generations.proofs.Touched.{touches_then}
use Rattle.lru_frames.specs.Causes.{IsWrong}
use Rattle.lru_generations.specs.Checkpoints.{AreMarked, FitsEach, HasFrames}
use Rattle.lru_generations.specs.Loads.{IsOtherFrame, IsRefusedFrame, rows_of}
use Rattle.lru_generations.proofs.Loaded.{refused_from, same_shards}
use Rattle.lru_generations.proofs.Marked.{checkpoint_whole}
use Rattle.lru_generations.proofs.loading.load_generation.Goals as goal

pub returns-in-Err-load_frames-clause-touches : goal.returns-in-Err-load_frames-clause-touches
returns-in-Err-load_frames-clause-touches g c k =
    touches_then g.F.Folder.meaning (λ q. ⊥) c.args.folder.now c.load_manifest.new.folder c.load_frames.new.folder (c.load_manifest.ensures.touches k) (c.load_frames.ensures.touches (c.load_manifest.ensures.kept.0 k))

pub returns-clause-touches : goal.returns-clause-touches
returns-clause-touches g c k =
    touches_then g.F.Folder.meaning (λ q. ⊥) c.args.folder.now c.load_manifest.new.folder c.load_frames.new.folder (c.load_manifest.ensures.touches k) (c.load_frames.ensures.touches (c.load_manifest.ensures.kept.0 k))

pub returns-in-Err-load_frames-clause-written : goal.returns-in-Err-load_frames-clause-written
returns-in-Err-load_frames-clause-written g c k shards h =
    let m : Meaning _ = g.F.Folder.meaning in
    let dir = c.args.dir.now in
    let file_name = c.args.file_name.now in
    let generation = c.args.generation in
    let start = c.args.folder.now in
    let mid = c.load_manifest.new.folder in
    let k-1 = c.load_manifest.ensures.kept.0 k in
    let marks = c.in-Ok.manifest.frames.items in
    let is : c.in-Ok.manifest.generation ≡ generation = c.in-Ok.ensures.number in
    let files : m.files mid ≡ m.files start = c.load_manifest.ensures.files k in
    let K = g.K.Stored in
    let V = g.V.Stored in
    let same : marks ≡ h.marks = c.in-Ok.ensures.written k h.marks h.numbers h.few h.manifest in
    let marked = subst (λ (ms : List Mark). AreMarked K.bytes_of V.bytes_of generation (length ms) shards ms) (sym same) h.marked in
    let fits = subst (λ (ms : List Mark). FitsEach K.is_value V.is_value generation (length ms) shards) (sym same) h.fits in
    let frames = subst (λ (ms : List Mark). HasFrames K.bytes_of V.bytes_of dir file_name generation (length ms) shards (m.files start)) (sym same) h.frames in
    c.in-Err-load_frames.ensures.written k-1 shards
    (subst (λ (n : ℕ). AreMarked K.bytes_of V.bytes_of n (length marks) shards marks) (sym is) marked)
    (subst (λ (n : ℕ). FitsEach K.is_value V.is_value n (length marks) shards) (sym is) fits)
    (subst (λ (f : Files). HasFrames K.bytes_of V.bytes_of dir file_name c.in-Ok.manifest.generation (length marks) shards f) (sym files)
    (subst (λ (n : ℕ). HasFrames K.bytes_of V.bytes_of dir file_name n (length marks) shards (m.files start)) (sym is) frames))

pub returns-in-Err-load_frames-clause-refused : goal.returns-in-Err-load_frames-clause-refused
returns-in-Err-load_frames-clause-refused g c k =
    let m : Meaning _ = g.F.Folder.meaning in
    let dir = c.args.dir.now in
    let file_name = c.args.file_name.now in
    let generation = c.args.generation in
    let start = c.args.folder.now in
    let mid = c.load_manifest.new.folder in
    let k-1 = c.load_manifest.ensures.kept.0 k in
    let marks = c.in-Ok.manifest.frames.items in
    let is : c.in-Ok.manifest.generation ≡ generation = c.in-Ok.ensures.number in
    let files : m.files mid ≡ m.files start = c.load_manifest.ensures.files k in
    let K = g.K.Stored in
    let V = g.V.Stored in
    let new = c.load_frames.new.folder in
    let told = subst (λ (n : ℕ). (shard : ℕ) × ((mark : Mark) × ((slice_get marks shard ≡ Some mark)
    × IsRefusedFrame m K.bytes_of K.is_value V.bytes_of V.is_value dir file_name (part_header n (length marks) shard) mark mid new c.in-Err-load_frames.error))) is
    (c.in-Err-load_frames.ensures.refused k-1) in
    let header = part_header generation (length marks) told.0 in
    inr (
      marks,
      (
        c.in-Ok.ensures.fits,
        (
          c.in-Ok.ensures.found k,
          (
            told.0,
            (
              told.1.0,
              (
                told.1.1.0,
                refused_from m (λ part bytes. IsWrong K.bytes_of K.is_value V.bytes_of V.is_value (Damaged part) bytes) (IsOtherFrame m K.bytes_of K.is_value V.bytes_of V.is_value header told.1.0)
                    dir file_name generation told.0 start mid new files (c.in-Ok.ensures.faults k) c.in-Err-load_frames.error told.1.1.1,
              ),
            ),
          ),
        ),
      ),
    )

pub returns-clause-found : goal.returns-clause-found
returns-clause-found g c k =
    let m : Meaning _ = g.F.Folder.meaning in
    let dir = c.args.dir.now in
    let file_name = c.args.file_name.now in
    let generation = c.args.generation in
    let start = c.args.folder.now in
    let mid = c.load_manifest.new.folder in
    let k-1 = c.load_manifest.ensures.kept.0 k in
    let marks = c.in-Ok.manifest.frames.items in
    let is : c.in-Ok.manifest.generation ≡ generation = c.in-Ok.ensures.number in
    let files : m.files mid ≡ m.files start = c.load_manifest.ensures.files k in
    let K = g.K.Stored in
    let V = g.V.Stored in
    let shards = rows_of c.in-Ok-load_frames.shards.items in
    record {
      marks = marks;
      numbers = c.in-Ok.ensures.fits;
      few = c.in-Ok.ensures.few;
      manifest = c.in-Ok.ensures.found k;
      marked = subst (λ (n : ℕ). AreMarked K.bytes_of V.bytes_of n (length marks) shards marks) is c.in-Ok-load_frames.ensures.marked;
      fits = subst (λ (n : ℕ). FitsEach K.is_value V.is_value n (length marks) shards) is c.in-Ok-load_frames.ensures.fits;
      frames = subst (λ (n : ℕ). HasFrames K.bytes_of V.bytes_of dir file_name n (length marks) shards (m.files start)) is
          (subst (λ (f : Files). HasFrames K.bytes_of V.bytes_of dir file_name c.in-Ok.manifest.generation (length marks) shards f) files (c.in-Ok-load_frames.ensures.found k-1));
    }

pub returns-clause-written : goal.returns-clause-written
returns-clause-written g c k shards h =
    let m : Meaning _ = g.F.Folder.meaning in
    let dir = c.args.dir.now in
    let file_name = c.args.file_name.now in
    let generation = c.args.generation in
    let start = c.args.folder.now in
    let mid = c.load_manifest.new.folder in
    let k-1 = c.load_manifest.ensures.kept.0 k in
    let marks = c.in-Ok.manifest.frames.items in
    let is : c.in-Ok.manifest.generation ≡ generation = c.in-Ok.ensures.number in
    let files : m.files mid ≡ m.files start = c.load_manifest.ensures.files k in
    let K = g.K.Stored in
    let V = g.V.Stored in
    let found = rows_of c.in-Ok-load_frames.shards.items in
    let same : marks ≡ h.marks = c.in-Ok.ensures.written k h.marks h.numbers h.few h.manifest in
    same_shards K.bytes_of K.is_value K.is_same V.bytes_of V.is_value V.is_same g.met.K.Stored.tells_its_end g.met.V.Stored.tells_its_end dir file_name generation (length marks) marks (m.files start) found shards
    (subst (λ (n : ℕ). AreMarked K.bytes_of V.bytes_of n (length marks) found marks) is c.in-Ok-load_frames.ensures.marked)
    (subst (λ (ms : List Mark). AreMarked K.bytes_of V.bytes_of generation (length ms) shards ms) (sym same) h.marked)
    (subst (λ (n : ℕ). FitsEach K.is_value V.is_value n (length marks) found) is c.in-Ok-load_frames.ensures.fits)
    (subst (λ (ms : List Mark). FitsEach K.is_value V.is_value generation (length ms) shards) (sym same) h.fits)
    (subst (λ (n : ℕ). HasFrames K.bytes_of V.bytes_of dir file_name n (length marks) found (m.files start)) is
    (subst (λ (f : Files). HasFrames K.bytes_of V.bytes_of dir file_name c.in-Ok.manifest.generation (length marks) found f) files (c.in-Ok-load_frames.ensures.found k-1)))
    (subst (λ (ms : List Mark). HasFrames K.bytes_of V.bytes_of dir file_name generation (length ms) shards (m.files start)) (sym same) h.frames)

pub returns-clause-told : goal.returns-clause-told
unfolding returns-clause-found
returns-clause-told g c k =
    let K = g.K.Stored in
    let V = g.V.Stored in
    let stood = returns-clause-found g c k in
    (c.in-Ok.ensures.number, checkpoint_whole K.bytes_of K.is_value V.bytes_of V.is_value c.args.dir.now c.args.file_name.now c.args.generation (rows_of c.in-Ok-load_frames.shards.items) (g.F.Folder.meaning.files c.args.folder.now) stood)
