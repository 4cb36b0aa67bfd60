use Rattle.std.proofs.Common.{◌≡◌, ◌<◌, ℕ, List, [], ◌∷◌, ◌++◌, length, Some, slice_get, refl, sym, ◌∙◌, ap, subst, arith, length-append}
use Rattle.std.proofs.lemmas.Option.{get_or_from_slice_get}
use Rattle.std.proofs.lemmas.List.{map-append, length-map}
use Rattle.std.specs.FinMap.{get}
use Rattle.lru_folder.specs.Files.{Files}
use Rattle.lru_folder.specs.Meaning.{Meaning}
use Rattle.lru_frames.specs.declared.errors.FrameError.TheVariants.{Damaged}
use Rattle.lru_frames.specs.declared.frame.Header.{Header}
use Rattle.lru_frames.specs.declared.row.Row.{Row}
use Rattle.lru_frames.specs.Causes.{IsWrong}
use Rattle.lru_frames.specs.Frame.{frame_of, Fits}
use Rattle.lru_frames.specs.Marks.{mark_of}
use Rattle.lru_generations.specs.Manifests.{part_header}
use Rattle.lru_generations.specs.Names.{frame_path}
use Rattle.lru_generations.proofs.Touched.{touches_started, touches_then}
use Rattle.lru_generations.specs.Loads.{IsFault, IsOtherFrame, IsRefusedFrame, rows_of}
use Rattle.lru_generations.proofs.Lists.{get-below, get-there, index_is, each-push}
use Rattle.lru_generations.proofs.Loaded.{refused_from}
use Rattle.lru_generations.proofs.loading.load_frames.Goals as goal

pub loop-shard-init : goal.loop-shard-init
loop-shard-init g c =
    let none : (shard : ℕ) (rows : List (Row _ _)) → slice_get (rows_of c.new-shards.result.items) shard ≡ Some rows → ⊥ = λ shard rows at.
    omega (arith, get-below (rows_of c.new-shards.result.items) shard rows at, ap (λ xs. length (rows_of xs)) c.new-shards.ensures.items) in
    record {
      count = ap length c.new-shards.ensures.items;
      marked = λ shard rows at. absurd (none shard rows at);
      found = λ k shard rows at. absurd (none shard rows at);
      fits = λ shard rows at. absurd (none shard rows at);
      files = λ k. refl;
      touches = λ k. touches_started g.F.Folder.meaning (λ q. ⊥) c.args.folder.now k;
      quiet = λ k. refl;
      places = λ k. refl;
      kept = (λ k. k, λ k. k);
    }

pub returns-in-Err-clause-touches : goal.returns-in-Err-clause-touches
returns-in-Err-clause-touches g c k =
    let so_far = c.loop-shard.invariant in
    touches_then g.F.Folder.meaning (λ q. ⊥) c.args.folder.now c.loop-shard.folder c.load_frame.new.folder (so_far.touches k) (c.load_frame.ensures.touches (so_far.kept.0 k))

pub returns-in_default-clause-touches : goal.returns-in_default-clause-touches
returns-in_default-clause-touches g c k =
    let so_far = c.loop-shard.invariant in
    touches_then g.F.Folder.meaning (λ q. ⊥) c.args.folder.now c.loop-shard.folder c.load_frame.new.folder (so_far.touches k) (c.load_frame.ensures.touches (so_far.kept.0 k))

pub returns-in-Err-clause-written : goal.returns-in-Err-clause-written
returns-in-Err-clause-written g c k shards marked fits frames =
    let m : Meaning _ = g.F.Folder.meaning in
    let so_far = c.loop-shard.invariant in
    let n = c.loop-shard.shard in
    let marks = c.args.manifest.now.frames.items in
    let generation = c.args.manifest.now.generation in
    let header = part_header generation (length marks) n in
    let path = frame_path c.args.dir.now c.args.file_name.now generation n in
    let item = get-there shards n (omega (arith, c.loop-shard-test.true, c.loop-shard.auto.shard-end, c.len-shard-end.ensures, marked.number)) in
    let mark_at : c.index-mark.result.now ≡ mark_of g.K.Stored.bytes_of g.V.Stored.bytes_of header item.0
    = c.index-mark.ensures ∙ get_or_from_slice_get marks n (mark_of g.K.Stored.bytes_of g.V.Stored.bytes_of header item.0) c.index-mark.result.now (marked.each n item.0 item.1) in
    let then = subst (λ (h : Header). Fits g.K.Stored.is_value g.V.Stored.is_value h item.0 → c.index-mark.result.now ≡ mark_of g.K.Stored.bytes_of g.V.Stored.bytes_of h item.0
    → get (m.files c.loop-shard.folder) (frame_path c.args.dir.now c.args.file_name.now h.generation h.shard) ≡ Some (frame_of g.K.Stored.bytes_of g.V.Stored.bytes_of h item.0) → IsFault c.in-Err.error)
    c.part-header.ensures (c.in-Err.ensures.written (so_far.kept.0 k) item.0) in
    then (fits n item.0 item.1) mark_at (ap (λ (f : Files). get f path) (so_far.files k) ∙ frames n item.0 item.1)

pub returns-in-Err-clause-refused : goal.returns-in-Err-clause-refused
returns-in-Err-clause-refused g c k =
    let so_far = c.loop-shard.invariant in
    let n = c.loop-shard.shard in
    let header = part_header c.args.manifest.now.generation (length c.args.manifest.now.frames.items) n in
    let mark = c.index-mark.result.now in
    let m : Meaning _ = g.F.Folder.meaning in
    let told = subst (λ (h : Header). IsRefusedFrame m g.K.Stored.bytes_of g.K.Stored.is_value g.V.Stored.bytes_of g.V.Stored.is_value c.args.dir.now c.args.file_name.now h mark
    c.loop-shard.folder c.load_frame.new.folder c.in-Err.error) c.part-header.ensures (c.in-Err.ensures.refused (so_far.kept.0 k)) in (
      n,
      (
        mark,
        (
          index_is c.args.manifest.now.frames.items n mark (omega (arith, c.loop-shard-test.true, c.loop-shard.auto.shard-end, c.len-shard-end.ensures)) c.index-mark.ensures,
          refused_from m (λ part bytes. IsWrong g.K.Stored.bytes_of g.K.Stored.is_value g.V.Stored.bytes_of g.V.Stored.is_value (Damaged part) bytes)
              (IsOtherFrame m g.K.Stored.bytes_of g.K.Stored.is_value g.V.Stored.bytes_of g.V.Stored.is_value header mark) c.args.dir.now c.args.file_name.now c.args.manifest.now.generation n
              c.args.folder.now c.loop-shard.folder c.load_frame.new.folder (so_far.files k) (so_far.quiet k) c.in-Err.error told,
        ),
      ),
    )

pub returns-in_default-clause-refused : goal.returns-in_default-clause-refused
returns-in_default-clause-refused g c k =
    let so_far = c.loop-shard.invariant in
    (c.loop-shard.shard, (c.index-mark.result.now, (index_is c.args.manifest.now.frames.items c.loop-shard.shard c.index-mark.result.now (omega (arith, c.loop-shard-test.true, c.loop-shard.auto.shard-end, c.len-shard-end.ensures)) c.index-mark.ensures, c.in-Ok.ensures.faults (so_far.kept.0 k) ∙ so_far.quiet k)))

pub loop-shard-preserved : goal.loop-shard-preserved
loop-shard-preserved g c =
    let K = g.K.Stored in
    let V = g.V.Stored in
    let m : Meaning _ = g.F.Folder.meaning in
    let so_far = c.loop-shard.invariant in
    let n = c.loop-shard.shard in
    let marks = c.args.manifest.now.frames.items in
    let generation = c.args.manifest.now.generation in
    let start = c.args.folder.now in
    let mid = c.loop-shard.folder in
    let header : ℕ → Header = part_header generation (length marks) in
    let path : ℕ → List ℕ = λ shard. frame_path c.args.dir.now c.args.file_name.now generation shard in
    let frame = frame_of K.bytes_of V.bytes_of in
    let told = mark_of K.bytes_of V.bytes_of in
    let old = c.loop-shard.shards.items in
    let rows = c.in-Ok.rows in
    let pushed : c.push.new.self.items ≡ old ++ rows ∷ [] = c.in-Ok-push.ensures.items in
    let grown : rows_of c.push.new.self.items ≡ rows_of old ++ rows.items ∷ [] = ap (λ xs. rows_of xs) pushed ∙ map-append (λ v. v.items) old (rows ∷ []) in
    let long : length (rows_of old) ≡ n = length-map old (λ v. v.items) ∙ so_far.count in
    let back = λ (shard : ℕ) (y : List (Row _ _)) (at : slice_get (rows_of c.push.new.self.items) shard ≡ Some y). ap (λ xs. slice_get xs shard) (sym grown) ∙ at in
    let is = c.part-header.ensures in
    let below : n < length marks = omega (arith, c.loop-shard-test.true, c.loop-shard.auto.shard-end, c.len-shard-end.ensures) in
    let marked_here : slice_get marks n ≡ Some (told (header n) rows.items)
    = index_is marks n c.index-mark.result.now below c.index-mark.ensures ∙ ap Some (c.in-Ok.ensures.marked ∙ ap (λ (h : Header). told h rows.items) is) in
    let fits_here = subst (λ (h : Header). Fits K.is_value V.is_value h rows.items) is c.in-Ok.ensures.fits in
    record {
      count = omega (arith, ap length pushed, length-append old (rows ∷ []), so_far.count);
      marked = λ shard y at. each-push (λ (i : ℕ) (r : List (Row _ _)). slice_get marks i ≡ Some (told (header i) r)) (rows_of old) rows.items so_far.marked
          (subst (λ (x : ℕ). slice_get marks x ≡ Some (told (header x) rows.items)) (sym long) marked_here) shard y (back shard y at);
      found = λ k shard y at.
          let stood = subst (λ (h : Header). get (m.files mid) (frame_path c.args.dir.now c.args.file_name.now h.generation h.shard) ≡ Some (frame h rows.items)) is (c.in-Ok.ensures.found (so_far.kept.0 k)) in
          let here : get (m.files start) (path n) ≡ Some (frame (header n) rows.items) = ap (λ (f : Files). get f (path n)) (sym (so_far.files k)) ∙ stood in
          each-push (λ (i : ℕ) (r : List (Row _ _)). get (m.files start) (path i) ≡ Some (frame (header i) r)) (rows_of old) rows.items (so_far.found k)
          (subst (λ (x : ℕ). get (m.files start) (path x) ≡ Some (frame (header x) rows.items)) (sym long) here) shard y (back shard y at);
      fits = λ shard y at. each-push (λ (i : ℕ) (r : List (Row _ _)). Fits K.is_value V.is_value (header i) r) (rows_of old) rows.items so_far.fits
          (subst (λ (x : ℕ). Fits K.is_value V.is_value (header x) rows.items) (sym long) fits_here) shard y (back shard y at);
      files = λ k. c.load_frame.ensures.files (so_far.kept.0 k) ∙ so_far.files k;
      touches = λ k. touches_then m (λ q. ⊥) start mid c.load_frame.new.folder (so_far.touches k) (c.load_frame.ensures.touches (so_far.kept.0 k));
      quiet = λ k. c.in-Ok.ensures.faults (so_far.kept.0 k) ∙ so_far.quiet k;
      places = λ k. c.load_frame.ensures.places (so_far.kept.0 k) ∙ so_far.places k;
      kept = (λ k. c.load_frame.ensures.kept.0 (so_far.kept.0 k), λ k. so_far.kept.1 (c.load_frame.ensures.kept.1 k));
    }
