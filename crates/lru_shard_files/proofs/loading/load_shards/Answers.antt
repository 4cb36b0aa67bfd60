use Rattle.std.proofs.Common.{◌≡◌, ℕ, List, ◌+◌, ◌<◌, ◌≤◌, ◌++◌, ◌∷◌, [], length, Result, Ok, Err, refl, sym, ◌∙◌, ap, subst, arith, cond, add-zero, vec_capacity, rules}
use Rattle.std.specs.Prelude.{is_ok, IfOk, OnErr, MatchResult}
use Rattle.std.specs.declared.alloc.AllocError.{AllocError}
use Rattle.std.proofs.lemmas.List.{append-nil, length_push}
use Rattle.lru_folder.specs.declared.reports.TempFileCleanupReport.{TempFileCleanupReport}
use Rattle.lru_folder.specs.Folder.{InOrder}
use Rattle.lru_folder.specs.Meaning.{Meaning}
use Rattle.lru_folder.proofs.InOrderLemmas.{in_order-push}
use Rattle.lru_folder.specs.Files.{Files}
use Rattle.lru_folder.specs.Sparing.{SparesAllBut}
use Rattle.lru_folder.proofs.SparingLemmas.{spares_then, spares_none, all_in_order}
use Rattle.lru_shard_files.specs.Cleanup.{IsCleanup, temp_paths}
use Rattle.lru_shard_files.specs.Loading.{IsLoad, LoadsOne}
use Rattle.lru_shard_files.proofs.LoadingLemmas.{load_named, load_none, load_more, load_next, load_over, loaded_by, missing_by, failures_by}
use Rattle.lru_shard_files.proofs.loading.load_shards.Goals as goal
use Rattle.lru_shard_files.proofs.loading.load_shards.Goals.{in-Ok-Loaded, in-Ok-Missing, in-Err}
use Rattle.lru_shard_files.proofs.loading.load_shards.Given as given

pub loop-shard-init : goal.loop-shard-init
unfolding load_none
loop-shard-init g c =
    let F = g.F.Folder in
    let m : Meaning _ = F.meaning in
    let start = c.args.folder.now in
    let empty = (c.in_ok-failures.ensures {u = tt}).items in
    record {
      callable = c.requires.callable;
      load = subst (λ fs. (load : IsLoad (given.C-step g) (F.meaning.keeps start) (F.meaning.faults start < F.meaning.faults start) (F.meaning.files start) c.args.dir_path.now c.args.file_name.now
          c.args.deserialize.now c.args.deserialize.now 0 0 0 fs) × (F.meaning.keeps start → InOrder (LoadsOne m c.args.dir_path.now c.args.file_name.now) 0 load.turns start start)) (sym empty)
          (load_none (given.C-step g) (F.meaning.keeps start) (F.meaning.faults start < F.meaning.faults start) (F.meaning.files start) c.args.dir_path.now c.args.file_name.now c.args.deserialize.now, λ k. refl);
      sum = omega (arith, ap length empty);
      room = omega (arith, (c.in_ok-failures.ensures {u = tt}).capacity);
      files = λ k. refl;
      later = λ k. omega arith;
      places = λ k. refl;
      kept = (λ k. k, λ k. k);
    }

pub loop-shard-preserved : goal.loop-shard-preserved
unfolding load_next load_more
loop-shard-preserved g c =
    let F = g.F.Folder in
    let m : Meaning _ = F.meaning in
    let so_far = c.loop-shard.invariant in
    let called = c.load_from_file.ensures in
    let start = c.args.folder.now in
    let mid = c.loop-shard.folder in
    let after = c.load_from_file.new.folder in
    let old = c.loop-shard.failures in
    let files = λ (k : F.meaning.keeps start). called.files (so_far.kept.0 k) ∙ so_far.files k in
    let later : F.meaning.keeps start → F.meaning.faults start ≤ F.meaning.faults after = λ k. omega (arith, so_far.later k, called.later (so_far.kept.0 k)) in
    let places = λ (k : F.meaning.keeps start). called.places (so_far.kept.0 k) ∙ so_far.places k in
    let kept : (F.meaning.keeps start → F.meaning.keeps after) × (F.meaning.keeps after → F.meaning.keeps start) = (λ k. called.kept.0 (so_far.kept.0 k), λ k. so_far.kept.1 (called.kept.1 k)) in
    let rises : F.meaning.keeps start → F.meaning.faults start < F.meaning.faults mid → F.meaning.faults start < F.meaning.faults after = λ k rose. omega (arith, called.later (so_far.kept.0 k)) in
    let rises_then : F.meaning.keeps start → F.meaning.faults mid < F.meaning.faults after → F.meaning.faults start < F.meaning.faults after = λ k rose. omega (arith, so_far.later k) in
    let turn = called.turn.0 in
    let one_more : (k : F.meaning.keeps start) → InOrder (LoadsOne m c.args.dir_path.now c.args.file_name.now) 0 so_far.load.0.turns start mid
    → InOrder (LoadsOne m c.args.dir_path.now c.args.file_name.now) 0 (so_far.load.0.turns ++ turn ∷ []) start after = λ k in_order. in_order-push (LoadsOne m c.args.dir_path.now c.args.file_name.now) 0 c.loop-shard.shard so_far.load.0.turns turn start mid after
    (omega (arith, so_far.load.0.each)) in_order (called.turn.4 (so_far.kept.0 k)) in
    elim c.match-load_from_file.branch [
      | in-Ok-Loaded w ↦
          let is = w.in-Ok-Loaded.is ∙ ap Ok w.in-Ok-Loaded.field-0-is in
          record {
            callable = called.callable;
            load = (
              load_next (given.C-step g) (F.meaning.keeps start) (F.meaning.faults start < F.meaning.faults mid) (F.meaning.keeps mid) (F.meaning.faults mid < F.meaning.faults after) (F.meaning.faults start < F.meaning.faults after) (F.meaning.files start) (F.meaning.files mid)
                  c.args.dir_path.now c.args.file_name.now c.args.deserialize.now c.loop-shard.deserialize c.load_from_file.new.deserialize c.loop-shard.shard c.loop-shard.loaded_shards c.match-load_from_file.loaded_shards
                  c.loop-shard.missing_shards c.match-load_from_file.missing_shards old.items c.match-load_from_file.failures.items c.load_from_file.result so_far.load.0 turn called.turn.1 called.turn.2 called.turn.3 so_far.kept.0 so_far.files rises rises_then
                  (w.loaded_shards-is ∙ ap (λ r. c.loop-shard.loaded_shards + loaded_by r) (sym is)) (w.missing_shards-is ∙ sym (add-zero c.loop-shard.missing_shards) ∙ ap (λ r. c.loop-shard.missing_shards + missing_by r) (sym is))
                  (ap (λ v. v.items) w.failures-is ∙ sym (append-nil old.items) ∙ ap (λ r. old.items ++ failures_by r) (sym is)),
              λ k. one_more k (so_far.load.1 k),
            );
            sum = omega (arith, so_far.sum, w.loaded_shards-is, w.missing_shards-is, ap (λ v. length v.items) w.failures-is);
            room = omega (arith, so_far.room, ap vec_capacity w.failures-is);
            files = files;
            later = later;
            places = places;
            kept = kept;
          }
      | in-Ok-Missing w ↦
          let is = w.in-Ok-Missing.is ∙ ap Ok w.in-Ok-Missing.field-0-is in
          record {
            callable = called.callable;
            load = (
              load_next (given.C-step g) (F.meaning.keeps start) (F.meaning.faults start < F.meaning.faults mid) (F.meaning.keeps mid) (F.meaning.faults mid < F.meaning.faults after) (F.meaning.faults start < F.meaning.faults after) (F.meaning.files start) (F.meaning.files mid)
                  c.args.dir_path.now c.args.file_name.now c.args.deserialize.now c.loop-shard.deserialize c.load_from_file.new.deserialize c.loop-shard.shard c.loop-shard.loaded_shards c.match-load_from_file.loaded_shards
                  c.loop-shard.missing_shards c.match-load_from_file.missing_shards old.items c.match-load_from_file.failures.items c.load_from_file.result so_far.load.0 turn called.turn.1 called.turn.2 called.turn.3 so_far.kept.0 so_far.files rises rises_then
                  (w.loaded_shards-is ∙ sym (add-zero c.loop-shard.loaded_shards) ∙ ap (λ r. c.loop-shard.loaded_shards + loaded_by r) (sym is)) (w.missing_shards-is ∙ ap (λ r. c.loop-shard.missing_shards + missing_by r) (sym is))
                  (ap (λ v. v.items) w.failures-is ∙ sym (append-nil old.items) ∙ ap (λ r. old.items ++ failures_by r) (sym is)),
              λ k. one_more k (so_far.load.1 k),
            );
            sum = omega (arith, so_far.sum, w.loaded_shards-is, w.missing_shards-is, ap (λ v. length v.items) w.failures-is);
            room = omega (arith, so_far.room, ap vec_capacity w.failures-is);
            files = files;
            later = later;
            places = places;
            kept = kept;
          }
      | in-Err w ↦
          let is = w.in-Err.is in
          let failure = w.in-Err.failure in
          let pushed = ap (λ v. v.items) w.failures-is ∙ w.push.ensures.items ∙ ap (λ r. cond (is_ok r) (old.items ++ failure ∷ []) old.items) w.unwrap.ensures in
          record {
            callable = called.callable;
            load = (
              load_next (given.C-step g) (F.meaning.keeps start) (F.meaning.faults start < F.meaning.faults mid) (F.meaning.keeps mid) (F.meaning.faults mid < F.meaning.faults after) (F.meaning.faults start < F.meaning.faults after) (F.meaning.files start) (F.meaning.files mid)
                  c.args.dir_path.now c.args.file_name.now c.args.deserialize.now c.loop-shard.deserialize c.load_from_file.new.deserialize c.loop-shard.shard c.loop-shard.loaded_shards c.match-load_from_file.loaded_shards
                  c.loop-shard.missing_shards c.match-load_from_file.missing_shards old.items c.match-load_from_file.failures.items c.load_from_file.result so_far.load.0 turn called.turn.1 called.turn.2 called.turn.3 so_far.kept.0 so_far.files rises rises_then
                  (w.loaded_shards-is ∙ sym (add-zero c.loop-shard.loaded_shards) ∙ ap (λ r. c.loop-shard.loaded_shards + loaded_by r) (sym is))
                  (w.missing_shards-is ∙ sym (add-zero c.loop-shard.missing_shards) ∙ ap (λ r. c.loop-shard.missing_shards + missing_by r) (sym is))
                  (pushed ∙ ap (λ r. old.items ++ failures_by r) (sym is)),
              λ k. one_more k (so_far.load.1 k),
            );
            sum = omega (arith, so_far.sum, w.loaded_shards-is, w.missing_shards-is, ap length pushed, length_push old.items failure);
            room = omega (arith, so_far.room, ap vec_capacity w.failures-is, w.push.ensures.capacity);
            files = files;
            later = later;
            places = places;
            kept = kept;
          }
    ]

pub returns-clause-loads : goal.returns-clause-loads
unfolding load_over
returns-clause-loads g c =
    let F = g.F.Folder in
    let m : Meaning _ = F.meaning in
    let so_far = c.loop-shard.invariant in
    let start = c.args.folder.now in
    let mid = c.loop-shard.folder in
    let after = c.remove_temp_files-temp_cleanup.new.folder in
    let dir = c.args.dir_path.now in
    let name = c.args.file_name.now in
    let cleaned = c.remove_temp_files-temp_cleanup.ensures in
    let temps : Files → List (List ℕ) = temp_paths dir name in
    let all = load_over (given.C-step g) (F.meaning.keeps start) (F.meaning.faults start < F.meaning.faults mid) (F.meaning.faults start < F.meaning.faults after)
    (F.meaning.files start) dir name c.args.deserialize.now c.loop-shard.deserialize
    c.loop-shard.shard c.args.shards c.loop-shard.loaded_shards c.loop-shard.missing_shards c.loop-shard.failures.items so_far.load.0 (omega (arith, c.loop-shard-test.false, c.loop-shard.auto.shard-end))
    (λ k rose. omega (arith, cleaned.later (so_far.kept.0 k))) in
    record {
      loads = record {
        load = all;
        errors = search rules;
        sum = omega (arith, so_far.sum, c.loop-shard-test.false, c.loop-shard.auto.shard-end);
        named = load_named (given.C-step g) (F.meaning.keeps start) (F.meaning.faults start < F.meaning.faults mid) (F.meaning.files start) dir name
            c.args.deserialize.now c.loop-shard.deserialize c.loop-shard.shard c.loop-shard.loaded_shards c.loop-shard.missing_shards c.loop-shard.failures.items so_far.load.0;
        loaded = mid;
        in_order = so_far.load.1;
        spares = λ k. spares_then m (temps (F.meaning.files start)) start mid after
            (spares_none m (temps (F.meaning.files start)) start mid
            (all_in_order m (LoadsOne m dir name) (λ n turn old new step. step.kept) (λ n turn old new step. step.spares)
            0 so_far.load.0.turns start mid k (so_far.load.1 k)))
            (subst (λ (f : Files). SparesAllBut m (temps f) mid after) (so_far.files k) (cleaned.spares (so_far.kept.0 k)));
        cleaned = λ k. elim c.remove_temp_files-temp_cleanup.result as (λ (r : Result TempFileCleanupReport AllocError). IfOk r (IsCleanup m dir name mid after) → OnErr r (F.meaning.files after ≡ F.meaning.files mid)
            → MatchResult r (IsCleanup m dir name mid after) (λ _. F.meaning.files after ≡ F.meaning.files mid)) [
              | Ok report ↦ λ ok err. ok
              | Err _ ↦ λ ok err. err
            ] (cleaned.ok (so_far.kept.0 k)) (cleaned.err (so_far.kept.0 k));
      };
      unmoved = tt;
      later = λ k. omega (arith, so_far.later k, cleaned.later (so_far.kept.0 k));
      places = λ k. cleaned.places (so_far.kept.0 k) ∙ so_far.places k;
      kept = (λ k. cleaned.kept.0 (so_far.kept.0 k), λ k. so_far.kept.1 (cleaned.kept.1 k));
    }
