use Rattle.std.proofs.Common.{◌-◌, List}
use Rattle.lru_folder.specs.Meaning.{Meaning}
use Rattle.lru_shard_files.specs.Saves.{IsMade}
use Rattle.lru_shard_files.specs.Turns.{SaveTurn, RunsTo}
use Rattle.lru_shard_files.proofs.SavesSoFar.{IsSoFar, SavesSoFar}
use Rattle.lru_shard_files.proofs.save_shards.save_shards.Given as goal

-- the turns so far: what they were given, what the saver knows of them, and what they left
abbrev pub invariant-loop-shard : goal.invariant-loop-shard
invariant-loop-shard g l =
    let F = g.F.Folder in
    let m : Meaning _ = F.meaning in
    record {
      callable : goal.S-IsAlwaysCallable g l.serialize;
      kept : (F.meaning.keeps l.fn.folder → F.meaning.keeps l.folder) × (F.meaning.keeps l.folder → F.meaning.keeps l.fn.folder);
      run : (turns : List (SaveTurn _)) × RunsTo (goal.S-step g) 0 l.fn.serialize (g.R.Rng.stream l.fn.rng) turns l.serialize (g.R.Rng.stream l.rng)
          × IsSoFar l.fn.dir_path l.fn.file_name l.fn.shards turns l.saver
          × (made : _) × (F.meaning.keeps l.fn.folder → IsMade m l.fn.dir_path l.fn.folder made × SavesSoFar m l.fn.dir_path l.fn.file_name turns l.fn.folder made l.folder);
    }

abbrev pub decreases-loop-shard : goal.decreases-loop-shard
decreases-loop-shard g l = l.saver.shards - l.saver.next
