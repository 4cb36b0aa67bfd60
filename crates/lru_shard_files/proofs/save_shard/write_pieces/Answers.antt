use Rattle.std.proofs.Common.{rules, ◌∙◌, ap, subst, refl}
use Rattle.std.specs.Slice.Iter.{chunks_rest}
use Rattle.lru_folder.specs.Folder.{written_path}
use Rattle.lru_folder.proofs.CauseLemmas.{no_fault}
use Rattle.lru_shard_files.proofs.PieceSteps.{SoFar, pieces_none, pieces_more, piece_passes, piece_loses}
use Rattle.lru_shard_files.proofs.save_shard.write_pieces.Goals as goal

pub loop-piece-init : goal.loop-piece-init
loop-piece-init g c =
    let F = g.F.Folder in
    let start = c.args.folder.now in
    record {
      can = search rules;
      ends = tt;
      written = λ k. pieces_none F.meaning (written_path (F.opened start)) c.args.bytes.now start _ (search rules);
      mode = refl;
      quiet = λ k. refl;
      places = λ k. refl;
      kept = (λ k. k, λ k. k);
    }

pub loop-piece-preserved : goal.loop-piece-preserved
loop-piece-preserved g c =
    let F = g.F.Folder in
    let start = c.args.folder.now in
    let mid = c.loop-piece.folder in
    let new = c.write.new.self in
    let so_far = c.loop-piece.invariant in
    let path = written_path (F.opened start) in
    let at = ap written_path so_far.mode in
    let parts = c.in-Some.ensures.steps.1.0 in
    let piece = c.in-Some.piece.now in
    let rest = chunks_rest c.next.new.self in
    let written = c.in_ok-write.ensures in
    record {
      can = search rules;
      ends = tt;
      written = λ k. pieces_more F.meaning path c.args.bytes.now start mid new (written_path (F.opened mid)) piece rest at
          (subst (SoFar F.meaning path c.args.bytes.now start mid) parts (so_far.written k))
          (c.write.ensures.time (so_far.kept.0 k)) (c.write.ensures.loss (so_far.kept.0 k)) (written.done (so_far.kept.0 k));
      mode = c.write.ensures.mode ∙ so_far.mode;
      quiet = λ k. no_fault (F.meaning.faults mid) (F.meaning.faults new) _ (written.cause (so_far.kept.0 k)) (λ e. let f : ⊥ = cc in f) ∙ so_far.quiet k;
      places = λ k. c.write.ensures.places (so_far.kept.0 k) ∙ so_far.places k;
      kept = (λ k. c.write.ensures.kept.0 (so_far.kept.0 k), λ k. so_far.kept.1 (c.write.ensures.kept.1 k));
    }

pub returns-in_err-write-clause-time : goal.returns-in_err-write-clause-time
returns-in_err-write-clause-time g c k held here =
    let F = g.F.Folder in
    let start = c.args.folder.now in
    let mid = c.loop-piece.folder in
    let so_far = c.loop-piece.invariant in
    let path = written_path (F.opened start) in
    piece_passes F.meaning path c.args.bytes.now start mid c.write.new.self (written_path (F.opened mid)) c.in-Some.piece.now (chunks_rest c.next.new.self) (ap written_path so_far.mode)
    (subst (SoFar F.meaning path c.args.bytes.now start mid) c.in-Some.ensures.steps.1.0 (so_far.written k))
    (c.write.ensures.time (so_far.kept.0 k)) held here

pub returns-in_err-write-clause-loss : goal.returns-in_err-write-clause-loss
returns-in_err-write-clause-loss g c k held here =
    let F = g.F.Folder in
    let start = c.args.folder.now in
    let mid = c.loop-piece.folder in
    let so_far = c.loop-piece.invariant in
    let path = written_path (F.opened start) in
    piece_loses F.meaning path c.args.bytes.now start mid c.write.new.self (written_path (F.opened mid)) c.in-Some.piece.now (chunks_rest c.next.new.self) (ap written_path so_far.mode)
    (subst (SoFar F.meaning path c.args.bytes.now start mid) c.in-Some.ensures.steps.1.0 (so_far.written k))
    (c.write.ensures.loss (so_far.kept.0 k)) held here
