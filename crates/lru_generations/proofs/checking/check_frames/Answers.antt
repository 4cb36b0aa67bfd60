use Rattle.std.proofs.Common.{◌≡◌, ◌<◌, ℕ, List, length, inl, inr, Some, slice_get, refl, sym, ◌∙◌, ap, subst, arith}
use Rattle.std.specs.FinMap.{get}
use Rattle.std.proofs.lemmas.Bool.{cases_lt}
use Rattle.std.proofs.lemmas.Option.{get_or_from_slice_get}
use Rattle.lru_folder.specs.Files.{Files}
use Rattle.lru_folder.specs.Meaning.{Meaning}
use Rattle.lru_frames.specs.declared.frame.Header.{Header}
use Rattle.lru_frames.specs.declared.mark.Mark.{Mark}
use Rattle.lru_frames.specs.Frame.{IsHeader}
use Rattle.lru_frames.specs.Marks.{IsWrongFrame}
use Rattle.lru_generations.specs.Manifests.{part_header}
use Rattle.lru_generations.specs.Names.{frame_path}
use Rattle.lru_generations.proofs.Touched.{touches_started, touches_then}
use Rattle.lru_generations.specs.Checkpoints.{IsWholeFrame}
use Rattle.lru_generations.specs.Loads.{IsFault, IsRefusedByCheck}
use Rattle.lru_generations.proofs.Lists.{get-below, index_is}
use Rattle.lru_generations.proofs.Loaded.{refused_from}
use Rattle.lru_generations.proofs.checking.check_frames.Goals as goal

pub loop-shard-init : goal.loop-shard-init
loop-shard-init g c = record {
  found = λ k shard mark none at. absurd (omega (arith, none));
  files = λ k. refl;
  touches = λ k. touches_started g.F.Folder.meaning (λ q. ⊥) c.args.folder.now k;
  quiet = λ k. refl;
  places = λ k. refl;
  kept = (λ k. k, λ k. k);
}

pub returns-in-Err-clause-refused : goal.returns-in-Err-clause-refused
returns-in-Err-clause-refused g c k =
    let so_far = c.loop-shard.invariant in
    let n = c.loop-shard.shard in
    let header = part_header c.args.manifest.now.generation (length c.args.manifest.now.frames.items) n in
    let mark = c.index-mark.result.now in
    let m : Meaning _ = g.F.Folder.meaning in
    let told = subst (λ (h : Header). IsRefusedByCheck m c.args.dir.now c.args.file_name.now h mark c.loop-shard.folder c.check_frame.new.folder c.in-Err.error) c.part-header.ensures (c.in-Err.ensures.refused (so_far.kept.0 k)) in (
      n,
      (
        mark,
        (
          index_is c.args.manifest.now.frames.items n mark (omega (arith, c.loop-shard-test.true, c.loop-shard.auto.shard-end, c.len-shard-end.ensures)) c.index-mark.ensures,
          refused_from m IsWrongFrame (λ bytes. ¬ IsWholeFrame header mark bytes) c.args.dir.now c.args.file_name.now c.args.manifest.now.generation n
              c.args.folder.now c.loop-shard.folder c.check_frame.new.folder (so_far.files k) (so_far.quiet k) c.in-Err.error told,
        ),
      ),
    )

pub returns-in-Err-clause-touches : goal.returns-in-Err-clause-touches
returns-in-Err-clause-touches g c k =
    let so_far = c.loop-shard.invariant in
    touches_then g.F.Folder.meaning (λ q. ⊥) c.args.folder.now c.loop-shard.folder c.check_frame.new.folder (so_far.touches k) (c.check_frame.ensures.touches (so_far.kept.0 k))

pub loop-shard-preserved : goal.loop-shard-preserved
loop-shard-preserved g c =
    let so_far = c.loop-shard.invariant in
    let m : Meaning _ = g.F.Folder.meaning in
    let n = c.loop-shard.shard in
    let marks = c.args.manifest.now.frames.items in
    let generation = c.args.manifest.now.generation in
    let path : ℕ → List ℕ = λ shard. frame_path c.args.dir.now c.args.file_name.now generation shard in
    let header : ℕ → Header = part_header generation (length marks) in
    let Whole : Header → Mark → Type 0 = λ h x. (bytes : List ℕ) × ((get (m.files c.loop-shard.folder) (frame_path c.args.dir.now c.args.file_name.now h.generation h.shard) ≡ Some bytes) × IsWholeFrame h x bytes) in
    record {
      found = λ k shard mark lt at. elim (cases_lt shard n) [
        | inl before ↦ so_far.found k shard mark before at
        | inr not ↦
            let is : shard ≡ n = omega (arith, lt, not) in
            let same : c.index-mark.result.now ≡ mark = c.index-mark.ensures ∙ get_or_from_slice_get marks n mark c.index-mark.result.now (ap (slice_get marks) (sym is) ∙ at) in
            let one = subst (λ (h : Header). Whole h c.index-mark.result.now) c.part-header.ensures (c.in_default.ensures.found (so_far.kept.0 k)) in
            let here = subst (λ (x : Mark). Whole (header n) x) same one in (
              here.0,
              (
                ap (λ (s : ℕ). get (m.files c.args.folder.now) (path s)) is ∙ ap (λ (f : Files). get f (path n)) (sym (so_far.files k)) ∙ here.1.0,
                subst (λ (s : ℕ). IsWholeFrame (header s) mark here.0) (sym is) here.1.1,
              ),
            )
      ];
      files = λ k. c.check_frame.ensures.files (so_far.kept.0 k) ∙ so_far.files k;
      touches = λ k. touches_then m (λ q. ⊥) c.args.folder.now c.loop-shard.folder c.check_frame.new.folder (so_far.touches k) (c.check_frame.ensures.touches (so_far.kept.0 k));
      quiet = λ k. c.in_default.ensures.faults (so_far.kept.0 k) ∙ so_far.quiet k;
      places = λ k. c.check_frame.ensures.places (so_far.kept.0 k) ∙ so_far.places k;
      kept = (λ k. c.check_frame.ensures.kept.0 (so_far.kept.0 k), λ k. so_far.kept.1 (c.check_frame.ensures.kept.1 k));
    }

pub returns-clause-found : goal.returns-clause-found
returns-clause-found g c k shard mark at =
    let below = get-below c.args.manifest.now.frames.items shard mark at in
    c.loop-shard.invariant.found k shard mark (omega (arith, below, c.loop-shard-test.false, c.len-shard-end.ensures)) at

pub returns-in-Err-clause-whole : goal.returns-in-Err-clause-whole
returns-in-Err-clause-whole g c k low each =
    let m : Meaning _ = g.F.Folder.meaning in
    let so_far = c.loop-shard.invariant in
    let n = c.loop-shard.shard in
    let marks = c.args.manifest.now.frames.items in
    let generation = c.args.manifest.now.generation in
    let path = frame_path c.args.dir.now c.args.file_name.now generation n in
    let header = part_header generation (length marks) n in
    let mark = c.index-mark.result.now in
    let below : n < length marks = omega (arith, c.loop-shard-test.true, c.loop-shard.auto.shard-end, c.len-shard-end.ensures) in
    let one = each n mark (index_is marks n mark below c.index-mark.ensures) in
    let then = subst (λ (h : Header). (bytes : List ℕ) → get (m.files c.loop-shard.folder) (frame_path c.args.dir.now c.args.file_name.now h.generation h.shard) ≡ Some bytes
    → IsWholeFrame h mark bytes → IsHeader h → IsFault c.in-Err.error) c.part-header.ensures (c.in-Err.ensures.whole (so_far.kept.0 k)) in
    then one.0 (ap (λ (f : Files). get f path) (so_far.files k) ∙ one.1.0) one.1.1 (record { shards = c.requires; shard = omega (arith, below); generation = low })
