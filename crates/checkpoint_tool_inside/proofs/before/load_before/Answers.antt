use Rattle.std.proofs.Common.{⊎_elim, inl, inr, ℕ, Some, None, sym, subst}
use Rattle.std.specs.Prelude.{Option}
use Rattle.lru_folder.specs.Files.{Files}
use Rattle.lru_folder.specs.Meaning.{Meaning}
use Rattle.lru_frames.specs.Words.{word}
use Rattle.lru_generations.specs.Loads.{rows_of}
use Rattle.lru_generations.specs.declared.newest_loading.Checkpoint.{Checkpoint}
use Rattle.lru_generations.specs.Loaded.{IsLoaded, IsLoadedBelow}
use Rattle.lru_generations.specs.Newest.{AreGenerationsBelow}
use Rattle.lru_generations.proofs.KeptFrames.{on_err}
use Rattle.lru_generations.proofs.Passing.{below_none, if_ok}
use Rattle.lru_generations.proofs.Refusals.{failed_from, frame_again, unlisted_from}
use Rattle.checkpoint_tool_inside.specs.Before.{IsWord}
use Rattle.checkpoint_tool_inside.proofs.Answered.{both_err, both_ok}
use Rattle.checkpoint_tool_inside.proofs.before.load_before.Goals as goal

pub returns-in-None-clause-shown : goal.returns-in-None-clause-shown
returns-in-None-clause-shown g c k =
    let m : Meaning _ = g.F.Folder.meaning in
    let dir = c.args.dir.now in
    let file_name = c.args.file_name.now in
    let files = m.files c.args.folder.now in
    let none = subst (λ (o : Option (Checkpoint ℕ ℕ)). IsLoaded word IsWord word IsWord dir file_name files o) c.in-None.is (c.in_ok-loaded.ensures.loaded k) in
    let passed = c.in_ok-loaded.ensures.passed k in (
      None,
      (
        none,
        (
          subst (λ (o : Option (Checkpoint ℕ ℕ)). IsLoadedBelow word IsWord word IsWord dir file_name files None o) (sym c.in-None.is) (λ n w. none n w.1),
          (passed.0, (below_none dir file_name files passed.0 passed.1.0, passed.1.1)),
        ),
      ),
    )

pub returns-clause-shown : goal.returns-clause-shown
returns-clause-shown g c k =
    let m : Meaning _ = g.F.Folder.meaning in
    let dir = c.args.dir.now in
    let file_name = c.args.file_name.now in
    let start = c.args.folder.now in
    let mid = c.load.new.folder in
    let new = c.load_below.new.folder in
    let files = m.files start in
    let newest = c.in-Some.newest in
    let same = c.load.ensures.files k in
    let k-1 = c.load.ensures.kept.0 k in
    let loaded = subst (λ (o : Option (Checkpoint ℕ ℕ)). IsLoaded word IsWord word IsWord dir file_name files o) c.in-Some.is (c.in_ok-loaded.ensures.loaded k) in
    if_ok c.load_below.result _ _
    (λ below h. (
      Some newest.generation,
      (
        ((rows_of newest.shards.items, loaded.0), loaded.1),
        (
          subst (λ (f : Files). IsLoadedBelow word IsWord word IsWord dir file_name f (Some newest.generation) below.newest) same h.0,
          (
            h.1.0,
            (
              subst (λ (f : Files). AreGenerationsBelow dir file_name f (Some newest.generation) h.1.0) same h.1.1.0,
              record {
                front = h.1.1.1.front;
                unblamed = h.1.1.1.unblamed;
                reason = λ one at. frame_again m dir file_name mid new start new same word IsWord word IsWord one.generation one.error (h.1.1.1.unblamed one at) (h.1.1.1.reason one at);
              },
            ),
          ),
        ),
      ),
    )) (both_ok c.load_below.result _ _ (c.load_below.ensures.loaded k-1) (c.load_below.ensures.passed k-1))

pub returns-clause-unread : goal.returns-clause-unread
returns-clause-unread g c k =
    let m : Meaning _ = g.F.Folder.meaning in
    let dir = c.args.dir.now in
    let file_name = c.args.file_name.now in
    let start = c.args.folder.now in
    let mid = c.load.new.folder in
    let new = c.load_below.new.folder in
    let faults = c.in_ok-loaded.ensures.faults k in
    let places = c.load.ensures.places k in
    on_err c.load_below.result _ _
    (λ error h. (
      h.0,
      ⊎_elim (λ listing. inl (unlisted_from m dir file_name start mid new faults places error listing)) (λ reading. inr (failed_from m dir file_name start mid new faults error reading)) h.1,
    )) (both_err c.load_below.result _ _ c.load_below.ensures.error (c.load_below.ensures.reason (c.load.ensures.kept.0 k)))
