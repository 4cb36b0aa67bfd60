use Rattle.std.proofs.Common.{◌++◌, List, ℕ, map, ◌<◌, cond, sym, ◌∙◌, ap, subst}
use Rattle.std.specs.Prelude.{is_ok, replicate}
use Rattle.std.specs.List.{filter_map}
use Rattle.std.proofs.lemmas.List.{map-append}
use Rattle.lru_folder.specs.declared.fault.FolderFault.TheVariants.{Io}
use Rattle.lru_folder.specs.Blames.{Blame, blame_of, ReadDirEntry}
use Rattle.lru_folder.specs.Sparing.{SparesAllBut}
use Rattle.lru_folder.proofs.SparingLemmas.{spares_started}
use Rattle.lru_shard_files.specs.Cleanup.{AreThere, RemovesEach, removal_blame, temp_paths}
use Rattle.lru_shard_files.proofs.CleanupNames.{AreThere-temp_paths, found_listed, nameless_listed}
use Rattle.lru_shard_files.proofs.cleanup.remove_listed.Goals as goal

pub remove_each-removed_files-requires-clause-there : goal.remove_each-removed_files-requires-clause-there
remove_each-removed_files-requires-clause-there g c k =
    let F = g.F.Folder in
    let files = F.meaning.files c.args.folder.now in
    let dir = c.args.dir_path.now in
    let file_name = c.args.file_name.now in
    subst (AreThere files) (sym ((c.in_ok-paths.ensures {u = tt}).paths ∙ found_listed dir file_name files c.args.listed.now (c.requires k))) (AreThere-temp_paths dir file_name files)

pub returns-clause-ok : goal.returns-clause-ok
returns-clause-ok g c k =
    let F = g.F.Folder in
    let files = F.meaning.files c.args.folder.now in
    let new = F.meaning.files c.remove_each-removed_files.new.folder in
    let rose = F.meaning.faults c.args.folder.now < F.meaning.faults c.remove_each-removed_files.new.folder in
    let dir = c.args.dir_path.now in
    let file_name = c.args.file_name.now in
    let found = (c.in_ok-paths.ensures {u = tt}) in
    let tried = c.remove_each-removed_files.ensures.removals in
    let removals = tried.0 in
    let paths = found.paths ∙ found_listed dir file_name files c.args.listed.now (c.requires k) in
    let blame : Blame = record { call = ReadDirEntry; path = dir; cause = Io } in
    let names = ap (λ n. replicate n blame) (nameless_listed dir files c.args.listed.now (c.requires k)) in
    let reported = c.remove_each-removed_files.new.failures.items in
    let unreadable = c.in_ok-paths.field-0.unreadable.items in
    let appended = c.append.ensures.items ∙ ap (λ r. cond (is_ok r) (reported ++ unreadable) reported) c.unwrap.ensures in
    record {
      removals = removals;
      each = subst (λ (ps : List (List ℕ)). RemovesEach ps rose files new removals) paths (tried.1 k);
      in_order = tried.2 k;
      removed = tried.3;
      blamed = ap (map blame_of) appended ∙ map-append blame_of reported unreadable
          ∙ ap (λ (bs : List Blame). bs ++ map blame_of unreadable) (tried.4 ∙ ap (λ fs. map blame_of fs ++ filter_map removal_blame removals) (c.in_ok-failures.ensures {u = tt}).items)
          ∙ ap (λ (bs : List Blame). filter_map removal_blame removals ++ bs) (found.unreadable ∙ names);
    }

pub returns-clause-spares : goal.returns-clause-spares
returns-clause-spares g c k =
    let F = g.F.Folder in
    let start = c.args.folder.now in
    let paths = (c.in_ok-paths.ensures {u = tt}).paths ∙ found_listed c.args.dir_path.now c.args.file_name.now (F.meaning.files start) c.args.listed.now (c.requires k) in
    subst (λ (ps : List (List ℕ)). SparesAllBut F.meaning ps start c.remove_each-removed_files.new.folder) paths (c.remove_each-removed_files.ensures.spares k)

pub returns-in_err-paths-clause-spares : goal.returns-in_err-paths-clause-spares
returns-in_err-paths-clause-spares g c k =
    let start = c.args.folder.now in
    spares_started g.F.Folder.meaning (temp_paths c.args.dir_path.now c.args.file_name.now (g.F.Folder.meaning.files start)) start k

pub returns-in_err-failures-clause-spares : goal.returns-in_err-failures-clause-spares
returns-in_err-failures-clause-spares g c k =
    let start = c.args.folder.now in
    spares_started g.F.Folder.meaning (temp_paths c.args.dir_path.now c.args.file_name.now (g.F.Folder.meaning.files start)) start k
