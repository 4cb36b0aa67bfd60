use Rattle.std.proofs.Common.{ℕ, List, Some, None, string_bytes, sym, ◌∙◌, subst}
use Rattle.lru_folder.specs.declared.errors.ShardSaveFailure.TheVariants.{Io, Memory, Serialize}
use Rattle.lru_folder.specs.Meaning.{Meaning}
use Rattle.lru_folder.specs.Names.{shard_path, temp_path}
use Rattle.lru_folder.specs.Places.{folder_of, is_there}
use Rattle.lru_folder.specs.Blames.{blame_of}
use Rattle.lru_shard_files.specs.Saving.{IsSaved, HasReason}
use Rattle.lru_shard_files.specs.Turns.{SavesOne}
use Rattle.lru_shard_files.proofs.ShardTurns.{Leaves, at_paths, ends_well, ends_badly, ends_early}
use Rattle.lru_folder.proofs.NamesLemmas.{temp-apart-shard}
use Rattle.lru_shard_files.proofs.save_shard.save_shard.Goals as goal

pub save_file-requires : goal.save_file-requires
save_file-requires g c same =
    let paths = c.in-Ok.ensures in
    let dir = c.args.dir_path.now in
    let name = c.args.file_name.now in
    temp-apart-shard dir dir name name c.args.shard c.args.shard c.args.word c.ranges.shard.fits (sym paths.0 ∙ same ∙ paths.1)

-- the paths of the file that was saved are those of the shard
pub returns-in-Ok-save_file-clause-saves : goal.returns-in-Ok-save_file-clause-saves
returns-in-Ok-save_file-clause-saves g c k =
    let F = g.F.Folder in
    let m : Meaning _ = F.meaning in
    let dir = c.args.dir_path.now in
    let name = c.args.file_name.now in
    let start = c.args.folder.now in
    let end = c.save_file.new.folder in
    let bytes = c.in-Ok-given.bytes in
    let temp = temp_path dir name c.args.shard c.args.word in
    let path = shard_path dir name c.args.shard in
    subst (λ given. SavesOne m dir name c.args.shard (record { word = c.args.word; given = given; failed = None }) start end) (sym c.in-Ok-given.is)
    (ends_well m dir name c.args.shard c.args.word bytes start end
    (at_paths (λ t p b. Leaves m b start end t p) (string_bytes c.in-Ok.temp) temp (string_bytes c.in-Ok.path) path c.deref.result.now bytes.items c.in-Ok.ensures.0 c.in-Ok.ensures.1 c.deref.ensures.value (c.save_file.ensures.any_moment k))
    (at_paths (λ t p b. IsSaved t p b (F.meaning.files start) (F.meaning.files end)) (string_bytes c.in-Ok.temp) temp (string_bytes c.in-Ok.path) path c.deref.result.now bytes.items c.in-Ok.ensures.0 c.in-Ok.ensures.1 c.deref.ensures.value (c.in-Ok-save_file.ensures.saved k))
    (c.in-Ok-save_file.ensures.faults k) (c.save_file.ensures.places k)
    (subst (λ (p : List ℕ). ¬ F.meaning.loose end p) c.in-Ok.ensures.1 (c.in-Ok-save_file.ensures.firm k)))

pub returns-in-Ok-given-clause-saves : goal.returns-in-Ok-given-clause-saves
returns-in-Ok-given-clause-saves g c k =
    let F = g.F.Folder in
    let m : Meaning _ = F.meaning in
    let dir = c.args.dir_path.now in
    let name = c.args.file_name.now in
    let start = c.args.folder.now in
    let end = c.save_file.new.folder in
    let bytes = c.in-Ok-given.bytes in
    let source = c.in-Err-save_file.source in
    let temp = temp_path dir name c.args.shard c.args.word in
    let path = shard_path dir name c.args.shard in
    subst (λ given. SavesOne m dir name c.args.shard (record { word = c.args.word; given = given; failed = Some (Io c.args.shard source) }) start end) (sym c.in-Ok-given.is)
    (ends_badly m dir name c.args.shard c.args.word bytes start end source
    (at_paths (λ t p b. Leaves m b start end t p) (string_bytes c.in-Ok.temp) temp (string_bytes c.in-Ok.path) path c.deref.result.now bytes.items c.in-Ok.ensures.0 c.in-Ok.ensures.1 c.deref.ensures.value (c.save_file.ensures.any_moment k))
    (c.in-Err-save_file.ensures.named k)
    (subst (λ t. HasReason (is_there (F.meaning.folders start) (folder_of t)) (F.meaning.faults start) (F.meaning.faults end) (blame_of source).cause) c.in-Ok.ensures.0 (c.in-Err-save_file.ensures.reason k))
    (c.save_file.ensures.places k))

pub returns-in_default-clause-saves : goal.returns-in_default-clause-saves
returns-in_default-clause-saves g c k =
    let F = g.F.Folder in
    let m : Meaning _ = F.meaning in
    let start = c.args.folder.now in
    ends_early m c.args.dir_path.now c.args.file_name.now c.args.shard c.args.word c.args.given (Memory c.args.shard) start k tt tt

pub returns-clause-saves : goal.returns-clause-saves
returns-clause-saves g c k =
    let F = g.F.Folder in
    let m : Meaning _ = F.meaning in
    let start = c.args.folder.now in
    ends_early m c.args.dir_path.now c.args.file_name.now c.args.shard c.args.word c.args.given (Serialize c.args.shard c.in-Err.source) start k tt tt
