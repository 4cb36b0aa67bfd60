use Rattle.std.proofs.Common.{◌≡◌, ◌≢◌, ◌<◌, ◌≤◌, ◌^◌, ℕ, List, [], ◌∷◌, ◌++◌, length, inl, inr, ⊎_elim, Some, slice_get, refl, sym, ◌∙◌, ap, subst, arith, length-append}
use Rattle.std.specs.FinMap.{get}
use Rattle.std.proofs.lemmas.Bool.{cases_lt}
use Rattle.lru_folder.specs.Meaning.{Meaning}
use Rattle.lru_frames.specs.declared.mark.Mark.{Mark}
use Rattle.lru_frames.specs.declared.row.Row.{Row}
use Rattle.lru_frames.specs.Frame.{frame_of, Fits}
use Rattle.lru_frames.specs.Marks.{mark_of}
use Rattle.lru_generations.specs.Manifests.{part_header}
use Rattle.lru_generations.specs.Names.{frame_path}
use Rattle.lru_generations.specs.Touching.{IsWritten}
use Rattle.lru_generations.proofs.Touched.{touches_started, touches_then, touches_more}
use Rattle.lru_generations.specs.Checkpoints.{IsFrame, most_shards}
use Rattle.lru_generations.proofs.Lists.{get-below, get-kept, get-last, each-push}
use Rattle.lru_generations.proofs.Saved.{one_frame_path}
use Rattle.lru_generations.proofs.saving.save_frames.Goals as goal

pub loop-shard-init : goal.loop-shard-init
loop-shard-init g c =
    let none : (shard : ℕ) (rows : List (Row _ _)) → slice_get {X = List (Row _ _)} [] shard ≡ Some rows → ⊥ = λ shard rows at. let below : shard < 0 = get-below [] shard rows at in omega (arith, below) in
    record {
      saved = (
        [],
        (
          refl,
          (
            λ shard rows at. absurd (none shard rows at),
            (
              record { each = λ shard rows at. absurd (none shard rows at); number = ap length c.new-marks.ensures.items },
              (
                λ shard rows at. absurd (none shard rows at),
                λ k. (λ shard rows at. absurd (none shard rows at), λ shard below. absurd (omega (arith, below))),
              ),
            ),
          ),
        ),
      );
      touches = λ k. touches_started g.F.Folder.meaning _ c.args.folder.now k;
      quiet = λ k. refl;
      places = λ k. refl;
      kept = (λ k. k, λ k. k);
    }

pub returns-in_err-mark-clause-touches : goal.returns-in_err-mark-clause-touches
returns-in_err-mark-clause-touches g c k =
    let so_far = c.loop-shard.invariant in
    let all = IsFrame c.args.dir.now c.args.file_name.now c.args.generation in
    let here = frame_path c.args.dir.now c.args.file_name.now c.args.generation c.loop-shard.shard in
    let small : c.loop-shard.shard < 2 ^ 64 = omega (arith, c.loop-shard-test.true, c.loop-shard.auto.shard-end, c.requires, c.shards-count.ensures) in
    touches_then g.F.Folder.meaning all c.args.folder.now c.loop-shard.folder c.save_frame.new.folder (so_far.touches k)
    (touches_more g.F.Folder.meaning (λ q. q ≡ here) all (λ q e. (c.loop-shard.shard, (small, e))) c.loop-shard.folder c.save_frame.new.folder (c.save_frame.ensures.touches (so_far.kept.0 k)))

pub returns-in_default-clause-touches : goal.returns-in_default-clause-touches
returns-in_default-clause-touches g c k =
    let so_far = c.loop-shard.invariant in
    let all = IsFrame c.args.dir.now c.args.file_name.now c.args.generation in
    let here = frame_path c.args.dir.now c.args.file_name.now c.args.generation c.loop-shard.shard in
    let small : c.loop-shard.shard < 2 ^ 64 = omega (arith, c.loop-shard-test.true, c.loop-shard.auto.shard-end, c.requires, c.shards-count.ensures) in
    touches_then g.F.Folder.meaning all c.args.folder.now c.loop-shard.folder c.save_frame.new.folder (so_far.touches k)
    (touches_more g.F.Folder.meaning (λ q. q ≡ here) all (λ q e. (c.loop-shard.shard, (small, e))) c.loop-shard.folder c.save_frame.new.folder (c.save_frame.ensures.touches (so_far.kept.0 k)))

pub loop-shard-preserved : goal.loop-shard-preserved
loop-shard-preserved g c =
    let F = g.F.Folder in
    let m : Meaning _ = F.meaning in
    let so_far = c.loop-shard.invariant in
    let n = c.loop-shard.shard in
    let mid = c.loop-shard.folder in
    let new = c.save_frame.new.folder in
    let count = g.S.Source.count c.args.source.now in
    let generation = c.args.generation in
    let all = IsFrame c.args.dir.now c.args.file_name.now generation in
    let path : ℕ → List ℕ = λ shard. frame_path c.args.dir.now c.args.file_name.now generation shard in
    let number : c.shards-count.result ≡ count = c.shards-count.ensures in
    let below : n < count = omega (arith, c.loop-shard-test.true, c.loop-shard.auto.shard-end, number) in
    let few : count ≤ most_shards = c.requires in
    let small : n < 2 ^ 64 = omega (arith, below, few) in
    let low : generation < 2 ^ 64 = c.ranges.generation.fits in
    let frame = frame_of g.K.Stored.bytes_of g.V.Stored.bytes_of in
    let marked = mark_of g.K.Stored.bytes_of g.V.Stored.bytes_of in
    let header : ℕ → _ = part_header generation count in
    let old = so_far.saved in
    let shards = old.0 in
    let long : length shards ≡ n = old.1.0 in
    let done = c.in_ok-mark.ensures {u = tt} in
    let one = done.saved in
    let rows = one.0 in
    let mark = c.in_ok-mark.mark in
    let marks = c.loop-shard.marks.items in
    let pushed : c.push.new.self.items ≡ marks ++ mark ∷ [] = c.in-Ok.ensures.items in
    let at_mark : mark ≡ marked (header (length shards)) rows = one.1.1.1.0 ∙ ap (λ (x : ℕ). marked (part_header generation x n) rows) number ∙ ap (λ (x : ℕ). marked (header x) rows) (sym long) in
    let marks_long : length marks ≡ length shards = old.1.1.1.0.number in
    let step = λ (k : F.meaning.keeps c.args.folder.now). c.save_frame.ensures.touches (so_far.kept.0 k) in
    let apart : (shard : ℕ) → shard < n → path shard ≢ path n = λ shard lt same.
    absurd (omega (arith, lt, (one_frame_path c.args.dir.now c.args.file_name.now generation generation shard n low low (omega (arith, lt, small)) small same).1)) in
    record {
      saved = (
        shards ++ rows ∷ [],
        (
          omega (arith, length-append shards (rows ∷ []), long),
          (
            each-push (g.S.Source.hands_out c.args.source.now) shards rows old.1.1.0 (subst (λ (x : ℕ). g.S.Source.hands_out c.args.source.now x rows) (sym long) one.1.0),
            (
              record {
                each = λ shard those at. subst (λ (xs : List Mark). slice_get xs shard ≡ Some (marked (header shard) those)) (sym pushed)
                    (each-push (λ (i : ℕ) (r : List (Row _ _)). slice_get (marks ++ mark ∷ []) i ≡ Some (marked (header i) r)) shards rows
                    (λ i r there. get-kept marks mark i (marked (header i) r) (old.1.1.1.0.each i r there))
                    (subst (λ (x : ℕ). slice_get (marks ++ mark ∷ []) x ≡ Some (marked (header (length shards)) rows)) marks_long (get-last marks mark ∙ ap Some at_mark)) shard those at);
                number = omega (arith, ap length pushed, length-append marks (mark ∷ []), length-append shards (rows ∷ []), marks_long);
              },
              (
                each-push (λ (i : ℕ) (r : List (Row _ _)). Fits g.K.Stored.is_value g.V.Stored.is_value (header i) r) shards rows old.1.1.1.1.0
                    (subst (λ (x : ℕ). Fits g.K.Stored.is_value g.V.Stored.is_value (header x) rows) (sym long) (subst (λ (x : ℕ). Fits g.K.Stored.is_value g.V.Stored.is_value (part_header generation x n) rows) number one.1.1.0)),
                λ k.
                    let written : IsWritten m (path n) (frame (header n) rows) mid new = subst (λ (x : ℕ). IsWritten m (path n) (frame (part_header generation x n) rows) mid new) number (one.1.1.1.1 (so_far.kept.0 k)) in (
                      each-push (λ (i : ℕ) (r : List (Row _ _)). get (F.meaning.files new) (path i) ≡ Some (frame (header i) r)) shards rows
                          (λ i r there. (step k).any_moment.now (path i) (apart i (omega (arith, get-below shards i r there, long))) ∙ (old.1.1.1.1.1 k).0 i r there)
                          (subst (λ (x : ℕ). get (F.meaning.files new) (path x) ≡ Some (frame (header x) rows)) (sym long) written.file),
                      λ shard lt l. elim (cases_lt shard n) [
                        | inl before ↦ ⊎_elim (apart shard before) ((old.1.1.1.1.1 k).1 shard before) ((step k).loosens (path shard) l)
                        | inr not ↦ let is : shard ≡ n = omega (arith, lt, not) in (written.firm (path shard) l).0 (ap path is)
                      ],
                    ),
              ),
            ),
          ),
        ),
      );
      touches = λ k. touches_then m all c.args.folder.now mid new (so_far.touches k) (touches_more m (λ q. q ≡ path n) all (λ q e. (n, (small, e))) mid new (step k));
      quiet = λ k. done.faults (so_far.kept.0 k) ∙ so_far.quiet k;
      places = λ k. c.save_frame.ensures.places (so_far.kept.0 k) ∙ so_far.places k;
      kept = (λ k. c.save_frame.ensures.kept.0 (so_far.kept.0 k), λ k. so_far.kept.1 (c.save_frame.ensures.kept.1 k));
    }
