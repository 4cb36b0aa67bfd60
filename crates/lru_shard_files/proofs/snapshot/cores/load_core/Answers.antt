use Rattle.std.proofs.Common.{subst, rules, arith}
use Rattle.pingora_lru.specs.Core.{Core}
use Rattle.lru_folder.specs.declared.reports.ShardLoadReport.{ShardLoadReport}
use Rattle.lru_folder.specs.Meaning.{Meaning}
use Rattle.lru_shard_files.specs.declared.snapshot.Keyed.{Keyed}
use Rattle.lru_shard_files.specs.declared.snapshot.LoadError.{LoadError}
use Rattle.lru_shard_files.specs.Loading.{LoadsAll}
use Rattle.lru_shard_files.specs.SnapshotLoads.{LoadsShard}
use Rattle.lru_shard_files.proofs.SnapshotCalls.{if_ok, load_seen, calls_keep}
use Rattle.lru_shard_files.proofs.SnapshotRestores.{restored_all}
use Rattle.lru_shard_files.proofs.RoundTrips.{loads_all}
use Rattle.lru_shard_files.proofs.snapshot.cores.load_core.Goals as goal

-- the closure keeps the reference to the core that it was given
pub returns-clause-loads : goal.returns-clause-loads
unfolding load_seen
returns-clause-loads g c =
    let F = g.F.Folder in
    let m : Meaning _ = F.meaning in
    let loaded = rw c.shards-shards.ensures.value at c.load_shards.ensures.loads in
    let Loaded : Core Keyed → ShardLoadReport LoadError → Type 0 = λ core report.
    LoadsAll m LoadsShard c.args.dir_path.now c.args.file_name.now g.row.N c.args.core.now c.args.folder.now report core c.load_shards.new.folder in
    record {
      loads = if_ok {X = ShardLoadReport LoadError} _ (Loaded _)
          (λ report h.
          subst (λ core. Loaded core report)
          (let same = calls_keep _ (λ f. f.1.ghost_name) (λ before after k shown answer st. st.met.0.1) 0 _ h.load.turns _ h.load.calls in search (same, rules))
          (record {
            load = load_seen _ LoadsShard (λ f. f.1.now) g.row.N
                (λ before after k shown answer lt st. st.met.1 lt)
                _ _ _ _ _ _ _ _ _ _ h.load;
            errors = h.errors;
            sum = h.sum;
            named = h.named;
            loaded = h.loaded;
            in_order = h.in_order;
            cleaned = h.cleaned;
            spares = h.spares;
          }))
          c.load_shards.result loaded.loads;
      unmoved = search rules;
      later = loaded.later;
      places = loaded.places;
      kept = loaded.kept;
    }

pub returns-clause-restores : goal.returns-clause-restores
returns-clause-restores g c = λ kept saved tell empty.
    restored_all _ _ _ _ _ _ saved kept tell c.args.core.now _ _ empty c.shards-shards.ensures.valid.count
    (if_ok _ _ (λ report h. h.load) c.load_shards.result (returns-clause-loads g c).loads)

pub returns-clause-all : goal.returns-clause-all
returns-clause-all g c = λ kept same saved valid hold tell empty.
    loads_all _ _ _ _ _ _ saved kept (λ rose. omega arith) valid hold tell c.args.core.now _ _ empty c.shards-shards.ensures.valid.count
    (if_ok _ _ (λ report h. h.load) c.load_shards.result (returns-clause-loads g c).loads)
