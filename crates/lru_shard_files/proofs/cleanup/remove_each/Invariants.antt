use Rattle.std.proofs.Common.{◌≡◌, ◌+◌, ◌<◌, ◌≤◌, length, map, string_bytes, vec_capacity, vec_len}
use Rattle.std.specs.Vec.Iter.{into_iter_items}
use Rattle.lru_folder.specs.Blames.{blame_of}
use Rattle.lru_folder.specs.Folder.{InOrder}
use Rattle.lru_folder.specs.Meaning.{Meaning}
use Rattle.lru_shard_files.specs.Cleanup.{RemovesOne}
use Rattle.lru_shard_files.proofs.CleanupLemmas.{EachSoFar}
use Rattle.lru_shard_files.proofs.cleanup.remove_each.Given as goal

abbrev pub invariant-loop-path : goal.invariant-loop-path
invariant-loop-path g l =
    let F = g.F.Folder in
    let m : Meaning _ = F.meaning in
    record {
      can : (goal.iterator-loop-path g).can_next l.path-iterator;
      ends : (goal.iterator-loop-path g).is_finite l.path-iterator;
      each : (each : EachSoFar (g.F.Folder.meaning.keeps l.fn.folder) (map string_bytes l.fn.paths.items) (map string_bytes (into_iter_items l.path-iterator))
          (g.F.Folder.meaning.faults l.fn.folder < g.F.Folder.meaning.faults l.folder) (g.F.Folder.meaning.files l.fn.folder) (g.F.Folder.meaning.files l.folder)
          l.removed_files (map blame_of l.fn.failures.items) (map blame_of l.failures.items))
          × (F.meaning.keeps l.fn.folder → InOrder (RemovesOne m) 0 each.done l.fn.folder l.folder);
      counted : l.removed_files + length (into_iter_items l.path-iterator) ≤ vec_len l.fn.paths;
      room : vec_len l.failures + length (into_iter_items l.path-iterator) ≤ vec_len l.fn.failures + vec_len l.fn.paths;
      capacity : vec_capacity l.fn.failures ≤ vec_capacity l.failures;
      later : g.F.Folder.meaning.keeps l.fn.folder → g.F.Folder.meaning.faults l.fn.folder ≤ g.F.Folder.meaning.faults l.folder;
      places : g.F.Folder.meaning.keeps l.fn.folder → g.F.Folder.meaning.folders l.folder ≡ g.F.Folder.meaning.folders l.fn.folder;
      kept : (g.F.Folder.meaning.keeps l.fn.folder → g.F.Folder.meaning.keeps l.folder) × (g.F.Folder.meaning.keeps l.folder → g.F.Folder.meaning.keeps l.fn.folder);
    }
