use Rattle.std.proofs.Common.{◌≡◌, inl, inr, [], sym, ◌∙◌, arith}
use Rattle.lru_folder.specs.Meaning.{Meaning}
use Rattle.lru_shard_files.proofs.RoundTrips.{loads_length, same_list, saves_later, tells}
use Rattle.lru_shard_files.proofs.snapshot.cores.save_and_load.Goals as goal

pub returns-clause-same : goal.returns-clause-same
returns-clause-same g c = λ keeps tell empty saved loaded.
    let F = g.F.Folder in
    let m : Meaning _ = F.meaning in
    let save = c.save_core-saved.ensures in
    let load = c.load_core-loaded.ensures in
    let core = c.args.core.now in
    let still = save.saves.kept.0 keeps in
    let long = loads_length m c.args.dir_path.now c.args.file_name.now g.row.N c.args.back.now c.load_core-loaded.new.core _ _ c.load_core-loaded.result loaded load.loads ∙ load.valid.count ∙ sym save.valid.count in
    same_list [] _ core.lists long
    (λ s lt. load.restores still core (tells _ c.args.dir_path.now c.args.file_name.now g.row.N core tell (save.held keeps saved)) empty loaded s (omega (arith, save.valid.count)))

pub returns-clause-all : goal.returns-clause-all
returns-clause-all g c = λ keeps same tell empty.
    let F = g.F.Folder in
    let m : Meaning _ = F.meaning in
    let save = c.save_core-saved.ensures in
    let load = c.load_core-loaded.ensures in
    let core = c.args.core.now in
    let still = save.saves.kept.0 keeps in
    let first = saves_later m c.args.dir_path.now c.args.file_name.now g.row.N core _ _ c.args.folder.now c.save_core-saved.new.folder c.save_core-saved.result keeps save.saves in
    let second = load.loads.later still in
    let then_same : F.meaning.faults c.save_core-saved.new.folder ≡ F.meaning.faults c.args.folder.now = omega arith in
    let last_same : F.meaning.faults c.load_core-loaded.new.folder ≡ F.meaning.faults c.save_core-saved.new.folder = omega arith in
    elim (save.all keeps then_same) [
      | inl told ↦ inl told
      | inr saved ↦ inr (saved, load.all still last_same core save.valid (save.held keeps saved) tell empty)
    ]
