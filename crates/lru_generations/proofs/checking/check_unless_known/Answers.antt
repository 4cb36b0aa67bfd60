use Rattle.std.proofs.Common.{◌≡◌, ◌<◌, ◌^◌, ℕ, List, length, Some, slice_get, inr, sym, ◌∙◌, subst}
use Rattle.std.specs.Prelude.{option_copied}
use Rattle.std.specs.FinMap.{get}
use Rattle.lru_folder.specs.Files.{Files}
use Rattle.lru_folder.specs.Meaning.{Meaning}
use Rattle.lru_frames.specs.declared.mark.Mark.{Mark}
use Rattle.lru_generations.specs.Manifests.{part_header}
use Rattle.lru_generations.specs.Names.{frame_path}
use Rattle.lru_generations.proofs.Touched.{touches_then}
use Rattle.lru_frames.specs.Marks.{IsWrongFrame}
use Rattle.lru_generations.specs.Checkpoints.{IsKnown, IsWholeFrame}
use Rattle.lru_generations.specs.Loads.{IsRefusedByCheck}
use Rattle.lru_generations.proofs.Loaded.{refused_from}
use Rattle.lru_generations.proofs.Lists.{never}
use Rattle.lru_generations.proofs.Taken.{still_taken, taken_manifest, taken_unless, whole_taken}
use Rattle.lru_generations.proofs.checking.check_unless_known.Goals as goal

pub returns-in-Err-check_frames-clause-touches : goal.returns-in-Err-check_frames-clause-touches
returns-in-Err-check_frames-clause-touches g c k =
    touches_then g.F.Folder.meaning (λ q. ⊥) c.args.folder.now c.load_manifest.new.folder c.check_frames.new.folder (c.load_manifest.ensures.touches k) (c.check_frames.ensures.touches (c.load_manifest.ensures.kept.0 k))

pub returns-in-Ok-check_frames-clause-touches : goal.returns-in-Ok-check_frames-clause-touches
returns-in-Ok-check_frames-clause-touches g c k =
    touches_then g.F.Folder.meaning (λ q. ⊥) c.args.folder.now c.load_manifest.new.folder c.check_frames.new.folder (c.load_manifest.ensures.touches k) (c.check_frames.ensures.touches (c.load_manifest.ensures.kept.0 k))

pub returns-in-Err-check_frames-clause-refused : goal.returns-in-Err-check_frames-clause-refused
returns-in-Err-check_frames-clause-refused g c k =
    let m : Meaning _ = g.F.Folder.meaning in
    let dir = c.args.dir.now in
    let file_name = c.args.file_name.now in
    let generation = c.args.generation in
    let start = c.args.folder.now in
    let mid = c.load_manifest.new.folder in
    let k-1 = c.load_manifest.ensures.kept.0 k in
    let marks = c.in-Ok.manifest.frames.items in
    let is : c.in-Ok.manifest.generation ≡ generation = c.in-Ok.ensures.number in
    let files : m.files mid ≡ m.files start = c.load_manifest.ensures.files k in
    let new = c.check_frames.new.folder in
    let told = subst (λ (n : ℕ). (shard : ℕ) × ((mark : Mark) × ((slice_get marks shard ≡ Some mark)
    × IsRefusedByCheck m dir file_name (part_header n (length marks) shard) mark mid new c.in-Err-check_frames.error))) is
    (c.in-Err-check_frames.ensures.refused k-1) in
    let header = part_header generation (length marks) told.0 in
    inr (
      marks,
      (
        c.in-Ok.ensures.fits,
        (
          c.in-Ok.ensures.found k,
          (
            told.0,
            (
              told.1.0,
              (
                told.1.1.0,
                refused_from m IsWrongFrame (λ bytes. ¬ IsWholeFrame header told.1.0 bytes)
                    dir file_name generation told.0 start mid new files (c.in-Ok.ensures.faults k) c.in-Err-check_frames.error told.1.1.1,
              ),
            ),
          ),
        ),
      ),
    )

pub returns-in-Err-check_frames-clause-whole : goal.returns-in-Err-check_frames-clause-whole
returns-in-Err-check_frames-clause-whole g c k others taken =
    let m : Meaning _ = g.F.Folder.meaning in
    let dir = c.args.dir.now in
    let file_name = c.args.file_name.now in
    let generation = c.args.generation in
    let start = c.args.folder.now in
    let mid = c.load_manifest.new.folder in
    let k-1 = c.load_manifest.ensures.kept.0 k in
    let marks = c.in-Ok.manifest.frames.items in
    let is : c.in-Ok.manifest.generation ≡ generation = c.in-Ok.ensures.number in
    let files : m.files mid ≡ m.files start = c.load_manifest.ensures.files k in
    let at = taken_manifest dir file_name (option_copied c.args.known) generation others (m.files start) taken in
    let same : others ≡ marks = sym (c.in-Ok.ensures.written k others at.numbers at.few at.manifest) in
    let unlike = λ (h : IsKnown (option_copied c.args.known) c.in-Ok.manifest). never (sym c.if-is_known.false ∙ c.is_known.ensures.1 h) in
    let h = taken_unless dir file_name (option_copied c.args.known) c.in-Ok.manifest generation others (m.files start) is same unlike taken in
    let Frames = λ (n : ℕ) (ms : List Mark) (f : Files). (shard : ℕ) (mark : Mark) → slice_get ms shard ≡ Some mark
    → (bytes : List ℕ) × ((get f (frame_path dir file_name n shard) ≡ Some bytes) × IsWholeFrame (part_header n (length ms) shard) mark bytes) in
    c.in-Err-check_frames.ensures.whole k-1 (subst (λ (n : ℕ). n < 2 ^ 64) (sym is) h.numbers.generation)
    (subst (λ (f : Files). Frames c.in-Ok.manifest.generation marks f) (sym files)
    (subst (λ (n : ℕ). Frames n marks (m.files start)) (sym is) (subst (λ (ms : List Mark). Frames generation ms (m.files start)) same h.frames)))

pub returns-in-Ok-check_frames-clause-found : goal.returns-in-Ok-check_frames-clause-found
returns-in-Ok-check_frames-clause-found g c k =
    let m : Meaning _ = g.F.Folder.meaning in
    let dir = c.args.dir.now in
    let file_name = c.args.file_name.now in
    let generation = c.args.generation in
    let start = c.args.folder.now in
    let k-1 = c.load_manifest.ensures.kept.0 k in
    let marks = c.in-Ok.manifest.frames.items in
    let is : c.in-Ok.manifest.generation ≡ generation = c.in-Ok.ensures.number in
    let files = c.load_manifest.ensures.files k in
    let Frames = λ (n : ℕ) (f : Files). (shard : ℕ) (mark : Mark) → slice_get marks shard ≡ Some mark
    → (bytes : List ℕ) × ((get f (frame_path dir file_name n shard) ≡ Some bytes) × IsWholeFrame (part_header n (length marks) shard) mark bytes) in
    whole_taken dir file_name (option_copied c.args.known) generation marks (m.files start) (record {
      numbers = c.in-Ok.ensures.fits;
      few = c.in-Ok.ensures.few;
      manifest = c.in-Ok.ensures.found k;
      frames = subst (λ (n : ℕ). Frames n (m.files start)) is (subst (λ (f : Files). Frames c.in-Ok.manifest.generation f) files (c.in-Ok-check_frames.ensures.found k-1));
    })

pub returns-then-is_known-clause-found : goal.returns-then-is_known-clause-found
returns-then-is_known-clause-found g c k =
    still_taken c.args.dir.now c.args.file_name.now (option_copied c.args.known) c.in-Ok.manifest c.args.generation (g.F.Folder.meaning.files c.args.folder.now)
    c.in-Ok.ensures.number (c.is_known.ensures.0 c.if-is_known.true) c.in-Ok.ensures.fits c.in-Ok.ensures.few (c.in-Ok.ensures.found k)
