use Rattle.std.proofs.Common.{rules, string_bytes}
use Rattle.lru_shard_files.specs.Stages.{IsInPlace}
use Rattle.lru_shard_files.proofs.save_shard.save_file.Goals as goal

pub returns-in-Err-clause-any_moment : goal.returns-in-Err-clause-any_moment
returns-in-Err-clause-any_moment g c k = search (c.create_temp.ensures.spares)

pub returns-in-Err-clause-reason : goal.returns-in-Err-clause-reason
returns-in-Err-clause-reason g c k = search (c.in-Err.ensures.reason)

pub returns-in-Err-fill_temp-clause-any_moment : goal.returns-in-Err-fill_temp-clause-any_moment
returns-in-Err-fill_temp-clause-any_moment g c k = search (c.in_default.ensures.step, c.fill_temp.ensures.spares)

pub returns-in-Err-fill_temp-clause-reason : goal.returns-in-Err-fill_temp-clause-reason
returns-in-Err-fill_temp-clause-reason g c k =
    search (c.in_default.ensures.step, c.in-Err-fill_temp.ensures.reason (string_bytes c.args.temp) (string_bytes c.args.path))

pub returns-in-Err-flush_temp-clause-any_moment : goal.returns-in-Err-flush_temp-clause-any_moment
returns-in-Err-flush_temp-clause-any_moment g c k =
    search (c.in_default.ensures.step, c.in_default-fill_temp.ensures.step, c.flush_temp.ensures.spares)

pub returns-in-Err-flush_temp-clause-reason : goal.returns-in-Err-flush_temp-clause-reason
returns-in-Err-flush_temp-clause-reason g c k =
    search (
      c.in_default.ensures.step,
      c.in_default-fill_temp.ensures.step,
      c.in-Err-flush_temp.ensures.reason (string_bytes c.args.temp) (string_bytes c.args.path) c.args.bytes.now,
    )

pub returns-in-Err-sync_temp-clause-any_moment : goal.returns-in-Err-sync_temp-clause-any_moment
returns-in-Err-sync_temp-clause-any_moment g c k =
    search (c.in_default.ensures.step, c.in_default-fill_temp.ensures.step, c.in_default-flush_temp.ensures.step, c.sync_temp.ensures.spares)

pub returns-in-Err-sync_temp-clause-reason : goal.returns-in-Err-sync_temp-clause-reason
returns-in-Err-sync_temp-clause-reason g c k =
    search (
      c.in_default.ensures.step,
      c.in_default-fill_temp.ensures.step,
      c.in_default-flush_temp.ensures.step,
      c.in-Err-sync_temp.ensures.reason (string_bytes c.args.temp) (string_bytes c.args.path) c.args.bytes.now,
    )

pub returns-in-Err-rename_temp-clause-any_moment : goal.returns-in-Err-rename_temp-clause-any_moment
returns-in-Err-rename_temp-clause-any_moment g c k =
    search (c.in_default.ensures.step, c.in_default-fill_temp.ensures.step, c.in_default-flush_temp.ensures.step, c.in_default-sync_temp.ensures.step, c.rename_temp.ensures.spares)

pub returns-in-Err-rename_temp-clause-reason : goal.returns-in-Err-rename_temp-clause-reason
returns-in-Err-rename_temp-clause-reason g c k =
    search (
      c.in_default.ensures.step,
      c.in_default-fill_temp.ensures.step,
      c.in_default-flush_temp.ensures.step,
      c.in_default-sync_temp.ensures.step,
      c.in-Err-rename_temp.ensures.reason (string_bytes c.args.temp) (string_bytes c.args.path) c.args.bytes.now,
    )

pub returns : goal.returns
returns g c =
    let place : g.F.Folder.meaning.keeps c.args.folder.now → IsInPlace g.F.Folder.meaning (string_bytes c.args.temp) (string_bytes c.args.path) c.args.bytes.now c.args.folder.now c.rename_temp.new.folder =
    search (c.in_default.ensures.step, c.in_default-fill_temp.ensures.step, c.in_default-flush_temp.ensures.step, c.in_default-sync_temp.ensures.step, c.in_default-rename_temp.ensures.step) in
    record {
      saved = λ k. (place k).saved;
      any_moment = λ k. (place k).spares;
      firm = λ k. (place k).firm;
      step = search rules;
      named = search rules;
      reason = search rules;
      faults = λ k. (place k).quiet;
      places = search rules;
      kept = search rules;
    }
