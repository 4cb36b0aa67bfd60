use Rattle.std.proofs.Common.{◌≡◌, ◌<◌, ◌^◌, inl, inr, refl, ◌∙◌, arith}
use Rattle.lru_folder.specs.Meaning.{Meaning}
use Rattle.lru_generations.specs.Names.{frame_path, manifest_temp_path}
use Rattle.lru_generations.proofs.Touched.{touches_started, touches_then, touches_more}
use Rattle.lru_generations.specs.Saving.{IsUnfinished}
use Rattle.lru_generations.proofs.generation_saving.clear.Goals as goal

pub loop-shard-init : goal.loop-shard-init
loop-shard-init g c = record {
  touches = λ k. touches_started g.F.Folder.meaning _ c.args.folder.now k;
  places = λ k. refl;
  kept = (λ k. k, λ k. k);
}

pub loop-shard-preserved : goal.loop-shard-preserved
loop-shard-preserved g c =
    let m : Meaning _ = g.F.Folder.meaning in
    let so_far = c.loop-shard.invariant in
    let n = c.loop-shard.shard in
    let mid = c.loop-shard.folder in
    let new = c.remove_part.new.folder in
    let all = IsUnfinished c.args.dir.now c.args.file_name.now c.args.generation in
    let small : n < 2 ^ 64 = omega (arith, c.loop-shard-test.true, c.loop-shard.auto.shard-end, c.ranges.count.fits) in
    record {
      touches = λ k. touches_then m all c.args.folder.now mid new (so_far.touches k)
          (touches_more m (λ q. q ≡ frame_path c.args.dir.now c.args.file_name.now c.args.generation n) all (λ q e. inl (n, (small, e))) mid new (c.remove_part.ensures.touches (so_far.kept.0 k)));
      places = λ k. c.remove_part.ensures.places (so_far.kept.0 k) ∙ so_far.places k;
      kept = (λ k. c.remove_part.ensures.kept.0 (so_far.kept.0 k), λ k. so_far.kept.1 (c.remove_part.ensures.kept.1 k));
    }

pub returns-clause-touches : goal.returns-clause-touches
returns-clause-touches g c k =
    let m : Meaning _ = g.F.Folder.meaning in
    let so_far = c.loop-shard.invariant in
    let all = IsUnfinished c.args.dir.now c.args.file_name.now c.args.generation in
    touches_then m all c.args.folder.now c.loop-shard.folder c.remove_part-2.new.folder (so_far.touches k)
    (touches_more m (λ q. q ≡ manifest_temp_path c.args.dir.now c.args.file_name.now c.args.generation) all (λ q e. inr e) c.loop-shard.folder c.remove_part-2.new.folder
    (c.remove_part-2.ensures.touches (so_far.kept.0 k)))
