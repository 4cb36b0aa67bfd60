use Rattle.std.proofs.Common.{◌≡◌}
use Rattle.std.specs.Slice.Iter.{chunks_rest}
use Rattle.lru_folder.specs.Folder.{written_path}
use Rattle.lru_shard_files.proofs.PieceSteps.{WritesSoFar}
use Rattle.lru_shard_files.proofs.save_shard.write_pieces.Given as goal

abbrev pub invariant-loop-piece : goal.invariant-loop-piece
invariant-loop-piece g l =
    let F = g.F.Folder in
    record {
      can : (goal.iterator-loop-piece g).can_next l.piece-iterator;
      ends : (goal.iterator-loop-piece g).is_finite l.piece-iterator;
      written : F.meaning.keeps l.fn.folder → WritesSoFar F.meaning (written_path (F.opened l.fn.folder)) l.bytes l.fn.folder l.folder (chunks_rest l.piece-iterator);
      mode : F.opened l.folder ≡ F.opened l.fn.folder;
      quiet : F.meaning.keeps l.fn.folder → F.meaning.faults l.folder ≡ F.meaning.faults l.fn.folder;
      places : F.meaning.keeps l.fn.folder → F.meaning.folders l.folder ≡ F.meaning.folders l.fn.folder;
      kept : (F.meaning.keeps l.fn.folder → F.meaning.keeps l.folder) × (F.meaning.keeps l.folder → F.meaning.keeps l.fn.folder);
    }
