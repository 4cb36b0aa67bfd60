use Rattle.std.proofs.Common.{[], ◌++◌, sym, ◌∙◌, ap, subst, rules, append_assoc}
use Rattle.lru_folder.specs.Sparing.{SparesAllBut}
use Rattle.lru_folder.proofs.SparingLemmas.{spares_started, spares_looked}
use Rattle.lru_shard_files.proofs.loading.read_opened.Goals as goal
use Rattle.lru_shard_files.proofs.loading.read_opened.Goals.{else-loop-folder-test, then-loop-folder-test+in_ok-piece+then-is_empty}

pub returns-in_err-bytes-clause-spares : goal.returns-in_err-bytes-clause-spares
returns-in_err-bytes-clause-spares g c k =
    spares_started g.F.Folder.meaning [] c.args.folder.now k

pub loop-folder-init : goal.loop-folder-init
loop-folder-init g c = record {
  mode = search rules;
  whole = search rules;
  files = search rules;
  quiet = search rules;
  spares = λ k. spares_started g.F.Folder.meaning [] c.args.folder.now k;
  places = search rules;
  kept = search rules;
}

pub returns-in_err-piece-clause-spares : goal.returns-in_err-piece-clause-spares
returns-in_err-piece-clause-spares g c k =
    let so_far = c.loop-folder.invariant in
    spares_looked g.F.Folder.meaning [] c.args.folder.now c.loop-folder.folder c.read.new.self (so_far.spares k) (c.read.ensures.time (so_far.kept.0 k)) (c.read.ensures.loss (so_far.kept.0 k))

pub returns-in_err-extend_from_slice-clause-spares : goal.returns-in_err-extend_from_slice-clause-spares
returns-in_err-extend_from_slice-clause-spares g c k =
    let so_far = c.loop-folder.invariant in
    spares_looked g.F.Folder.meaning [] c.args.folder.now c.loop-folder.folder c.read.new.self (so_far.spares k) (c.read.ensures.time (so_far.kept.0 k)) (c.read.ensures.loss (so_far.kept.0 k))

pub loop-folder-preserved : goal.loop-folder-preserved
loop-folder-preserved g c =
    let so_far = c.loop-folder.invariant in
    record {
      mode = search rules;
      whole = λ k left e.
          let before = so_far.whole k left e in
          let got = (c.in_ok-piece.ensures {u = tt}).done (so_far.kept.0 k) before.0 before.1 in
          let old = c.loop-folder.bytes.items in (
            got.0,
            got.1,
            before.2 ∙ ap (λ r. old ++ r) got.2.parts ∙ sym (append_assoc old c.in_ok-piece.piece.items got.0)
                ∙ ap (λ d. (old ++ d) ++ got.0) (sym c.deref.ensures.value) ∙ ap (λ items. items ++ got.0) (sym (c.in_ok-extend_from_slice.ensures {u = tt}).items),
          );
      files = search rules;
      quiet = search rules;
      spares = λ k. spares_looked g.F.Folder.meaning [] c.args.folder.now c.loop-folder.folder c.read.new.self (so_far.spares k) (c.read.ensures.time (so_far.kept.0 k)) (c.read.ensures.loss (so_far.kept.0 k));
      places = search rules;
      kept = search rules;
    }

pub returns-clause-spares : goal.returns-clause-spares
returns-clause-spares g c k =
    let so_far = c.loop-folder.invariant in
    elim c.loop-folder-test.branch [
      | else-loop-folder-test w ↦ subst (λ f. SparesAllBut g.F.Folder.meaning [] c.args.folder.now f) (sym w.folder-is) (so_far.spares k)
      | then-loop-folder-test+in_ok-piece+then-is_empty w ↦
          subst (λ f. SparesAllBut g.F.Folder.meaning [] c.args.folder.now f) (sym w.folder-is)
          (spares_looked g.F.Folder.meaning [] c.args.folder.now c.loop-folder.folder w.read.new.self (so_far.spares k) (w.read.ensures.time (so_far.kept.0 k)) (w.read.ensures.loss (so_far.kept.0 k)))
    ]
