use Rattle.std.proofs.Common.{◌≡◌, ◌<◌, ◌^◌, ◌∷◌, [], ◌++◌, length, refl, sym, ◌∙◌, subst, arith}
use denote.Param.Always.{mut_next}
use Rattle.lru_folder.specs.Meaning.{Meaning}
use Rattle.lru_shard_files.proofs.SavesSoFar.{next_some, knows_next, knows_none, knows_one, saves_next, saves_none, saves_one}
use Rattle.lru_shard_files.proofs.SaveEnds.{ends_all, saves_all}
use Rattle.lru_shard_files.proofs.TurnsLemmas.{RunsTo-push}
use Rattle.lru_shard_files.proofs.save_shards.save_shards.Goals as goal
use Rattle.lru_shard_files.proofs.save_shards.save_shards.Given as given

pub loop-shard-init : goal.loop-shard-init
loop-shard-init g c =
    let F = g.F.Folder in
    let m : Meaning _ = F.meaning in
    let start = c.args.folder.now in
    let s = c.in_ok-saver.ensures in
    record {
      callable = c.requires.callable;
      kept = c.start.ensures.kept;
      run = (
        [],
        (refl, refl),
        knows_none c.args.dir_path.now c.args.file_name.now c.args.shards c.in_ok-saver.saver s.begun,
        c.start.new.folder,
        λ k. (
          record { all = s.made k; time = s.time k; loss = s.loss k; faults = s.faults k },
          saves_none m c.args.dir_path.now c.args.file_name.now start c.start.new.folder
              k (s.time k) (s.loss k) (s.made k) c.requires.name (s.faults k),
        ),
      );
    }

pub loop-shard-preserved : goal.loop-shard-preserved
loop-shard-preserved g c =
    let F = g.F.Folder in
    let m : Meaning _ = F.meaning in
    let so_far = c.loop-shard.invariant in
    let turns = so_far.run.0 in
    let put = c.put.ensures.turn in
    let turn = put.0 in
    let known = knows_next c.args.dir_path.now c.args.file_name.now c.args.shards turns c.loop-shard.saver so_far.run.2 in
    let here = next_some c.loop-shard.saver c.in-Some.shard c.in-Some.ensures in
    let at : c.in-Some.shard ≡ length turns = here.0 ∙ known.0 in
    let left : c.loop-shard.saver.next < c.args.shards = omega (arith, here.1, known.1) in
    let small : length turns < 2 ^ 64 = omega (arith, at, here.0, left, c.ranges.shards.fits) in
    let short : turn.word < 2 ^ 32 = omega (arith, put.1) in
    record {
      callable = mut_next g.S.FnMut _ _ _ _ _ c.serialize-given.ensures refl so_far.callable;
      kept = (λ k. c.put.ensures.kept.0 (so_far.kept.0 k), λ k. so_far.kept.1 (c.put.ensures.kept.1 k));
      run = (
        turns ++ turn ∷ [],
        RunsTo-push (given.S-step g) turns 0 c.in-Some.shard c.args.serialize c.loop-shard.serialize c.serialize-given.new.self
            (g.R.Rng.stream c.args.rng.now) (g.R.Rng.stream c.loop-shard.rng) (g.R.Rng.stream c.next_u32-word.new.self) turn (omega (arith, at)) so_far.run.1
            (subst (λ r. given.S-step g c.loop-shard.serialize c.in-Some.shard r c.serialize-given.new.self) (sym put.2) c.serialize-given.ensures)
            ((λ i. (put.1 i, g.R.Rng.stream c.next_u32-word.new.self)) ∙ c.next_u32-word.ensures),
        knows_one c.args.dir_path.now c.args.file_name.now c.args.shards turns turn c.loop-shard.saver c.put.new.self so_far.run.2 left put.3,
        so_far.run.3,
        λ k. (
          (so_far.run.4 k).0,
          saves_one m c.args.dir_path.now c.args.file_name.now c.args.folder.now
              turns turn so_far.run.3 c.loop-shard.folder c.put.new.folder small short (so_far.run.4 k).1
              (saves_next m c.args.dir_path.now c.args.file_name.now c.args.shards
              turns turn c.loop-shard.saver c.loop-shard.folder c.put.new.folder so_far.run.2 (put.4 (so_far.kept.0 k))),
        ),
      );
    }

pub returns-clause-saves : goal.returns-clause-saves
returns-clause-saves g c =
    let F = g.F.Folder in
    let m : Meaning _ = F.meaning in
    let so_far = c.loop-shard.invariant in
    let run = so_far.run in
    saves_all m (given.S-step g) c.args.dir_path.now c.args.file_name.now c.args.shards c.args.serialize (g.R.Rng.stream c.args.rng.now) c.args.folder.now c.finish.result
    (g.R.Rng.stream c.loop-shard.rng) c.loop-shard.folder c.loop-shard.saver.shards c.loop-shard.saver.failures c.finish.ensures (record {
      turns = run.0;
      last = c.loop-shard.serialize;
      run = run.1;
      ends = ends_all c.args.dir_path.now c.args.file_name.now c.args.shards run.0 c.loop-shard.saver c.next.result c.finish.result run.2 c.next.ensures c.in_default.not-Some c.finish.ensures;
      made = run.3;
      makes = λ k. (run.4 k).0;
      in_order = λ k. (run.4 k).1.in_order;
      saves = λ k. (run.4 k).1.each;
    }) so_far.kept
