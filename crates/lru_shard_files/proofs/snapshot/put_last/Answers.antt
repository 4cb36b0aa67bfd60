use Rattle.std.proofs.Common.{◌<◌, ◌++◌, [], length, sym, ap, ◌∙◌, subst, arith}
use Rattle.std.specs.Prelude.{map}
use Rattle.std.proofs.lemmas.List.{append-nil, take_all}
use Rattle.pingora_lru.specs.Core.{list_at, with_list}
use Rattle.pingora_lru.specs.Row.{HasDistinctKeys}
use Rattle.lru_shard_files.specs.SnapshotLoads.{row_of_pair}
use Rattle.lru_shard_files.proofs.SnapshotLoadLemmas.{refused_leaves, held_leaves, with_list-own}
use Rattle.lru_shard_files.proofs.SnapshotJoins.{all_join}
use Rattle.lru_shard_files.proofs.SnapshotPuts.{put_step, twice_step, back_step}
use Rattle.lru_shard_files.proofs.snapshot.put_last.Goals as goal

pub loop-put-init : goal.loop-put-init
loop-put-init g c =
    let held = list_at c.args.core.now c.args.shard in
    let valid = c.requires.valid in
    let there : c.args.shard < length c.args.core.now.lists = omega (arith, valid.count, c.requires.shard) in record {
      put = sym (ap (λ rs. with_list c.args.core.now c.args.shard rs) (append-nil held) ∙ with_list-own c.args.core.now c.args.shard);
      keys = subst (λ rs. HasDistinctKeys rs) (sym (append-nil held)) (valid.valid c.args.shard [] there).keys;
    }

pub loop-put-preserved : goal.loop-put-preserved
loop-put-preserved g c =
    let there : c.args.shard < length c.args.core.now.lists = omega (arith, c.requires.valid.count, c.requires.shard) in
    put_step c.args.core.now c.args.shard there c.args.pairs.now c.requires.homes c.loop-put.put c.loop-put.core c.insert_tail.new.self c.loop-put.invariant _ c.loop-put-test.true
    c.in-Ok-true.field-0 c.in-Ok-true.field-0-test c.in-Ok-true.ensures

pub returns-in-Ok-false : goal.returns-in-Ok-false
returns-in-Ok-false g c =
    let there : c.args.shard < length c.args.core.now.lists = omega (arith, c.requires.valid.count, c.requires.shard) in (
      twice_step c.args.core.now c.args.shard there c.args.pairs.now c.requires.homes c.loop-put.put c.loop-put.core c.insert_tail.new.self c.loop-put.invariant _ c.loop-put-test.true
          c.in-Ok-false.field-0 c.in-Ok-false.field-0-test c.in-Ok-false.ensures,
      back_step c.args.core.now c.args.shard there c.args.pairs.now c.requires.homes c.loop-put.put c.loop-put.core c.insert_tail.new.self c.loop-put.invariant c.take_back.new.core
          (held_leaves c.loop-put.core c.insert_tail.new.self _ _ _ c.in-Ok-false.field-0 c.in-Ok-false.field-0-test c.in-Ok-false.ensures) c.take_back.ensures,
    )

pub returns-in-Err : goal.returns-in-Err
returns-in-Err g c =
    let there : c.args.shard < length c.args.core.now.lists = omega (arith, c.requires.valid.count, c.requires.shard) in
    back_step c.args.core.now c.args.shard there c.args.pairs.now c.requires.homes c.loop-put.put c.loop-put.core c.insert_tail.new.self c.loop-put.invariant c.take_back-in-Err.new.core
    (refused_leaves c.loop-put.core c.insert_tail.new.self _ _ _ c.in-Err.field-0 c.in-Err.ensures) c.take_back-in-Err.ensures

pub returns : goal.returns
returns g c =
    let all = take_all c.loop-put.put c.args.pairs.now c.loop-put-test.false in (
      all_join c.args.core.now c.args.shard c.args.pairs.now c.loop-put.put c.loop-put-test.false c.requires.homes c.loop-put.invariant.keys,
      c.loop-put.invariant.put ∙ ap (λ ps. with_list c.args.core.now c.args.shard (list_at c.args.core.now c.args.shard ++ map row_of_pair ps)) all,
    )
