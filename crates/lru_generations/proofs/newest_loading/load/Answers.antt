use Rattle.std.proofs.Common.{List, ℕ, Some, None}
use Rattle.std.specs.Prelude.{Option}
use Rattle.lru_folder.specs.Files.{Files}
use Rattle.lru_folder.specs.Meaning.{Meaning}
use Rattle.lru_generations.specs.declared.newest_loading.Checkpoint.{Checkpoint}
use Rattle.lru_generations.specs.Loaded.{IsLoaded, IsLoadedBelow}
use Rattle.lru_generations.proofs.Passing.{all_below, if_ok}
use Rattle.lru_generations.proofs.newest_loading.load.Goals as goal

-- below no bound is each generation
without : {K V : Type 0} (key_bytes : K → List ℕ) (IsKey : K → Type 0) (data_bytes : V → List ℕ) (IsData : V → Type 0) (dir file_name : List ℕ) (files : Files) (newest : Option (Checkpoint K V))
    → IsLoadedBelow key_bytes IsKey data_bytes IsData dir file_name files None newest → IsLoaded key_bytes IsKey data_bytes IsData dir file_name files newest
without key_bytes IsKey data_bytes IsData dir file_name files None h = λ n there. h n (tt, there)
without key_bytes IsKey data_bytes IsData dir file_name files (Some checkpoint) h = (h.1.0, λ n lt there. h.1.1 n lt (tt, there))

pub returns-clause-loaded : goal.returns-clause-loaded
returns-clause-loaded g c k =
    let K = g.K.Stored in
    let V = g.V.Stored in
    if_ok c.load_below.result _ _
    (λ loaded h. without K.bytes_of K.is_value V.bytes_of V.is_value c.args.dir.now c.args.file_name.now (g.F.Folder.meaning.files c.args.folder.now) loaded.newest h)
    (c.load_below.ensures.loaded k)

pub returns-clause-written : goal.returns-clause-written
returns-clause-written g c k generation shards h highest = c.load_below.ensures.written k generation shards h tt (λ n lt there. highest n lt there.1)

pub returns-clause-passed : goal.returns-clause-passed
returns-clause-passed g c k =
    let m : Meaning _ = g.F.Folder.meaning in
    if_ok c.load_below.result _ _
    (λ loaded h. (h.0, (all_below c.args.dir.now c.args.file_name.now (m.files c.args.folder.now) h.0 h.1.0, h.1.1)))
    (c.load_below.ensures.passed k)
