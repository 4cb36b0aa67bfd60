use Rattle.std.proofs.Common.{◌≡◌, ℕ, List, [], ◌∷◌, ◌++◌, length, get_or, refl, sym, ◌∙◌, ap, subst, arith}
use Rattle.std.specs.Prelude.{Contains, Option, option_copied}
use Rattle.lru_folder.specs.Files.{Files}
use Rattle.lru_folder.specs.Meaning.{Meaning}
use Rattle.lru_generations.specs.declared.manifest.Manifest.{Manifest}
use Rattle.lru_generations.specs.Manifests.{manifest_bytes}
use Rattle.lru_generations.proofs.Touched.{touches_started, touches_then}
use Rattle.lru_generations.specs.Checkpoints.{IsTaken}
use Rattle.lru_generations.specs.Loads.{IsFault, IsRefused, IsRefusedByCheck}
use Rattle.lru_generations.specs.declared.newest.Passed.{Passed}
use Rattle.lru_generations.specs.Newest.{HasAllManifests, IsTakenAt}
use Rattle.lru_generations.proofs.Passing.{each_more, front_all, front_at, map_more, none_at_all, none_higher, none_more, numbers_of}
use Rattle.lru_generations.proofs.Refusals.{check_again}
use Rattle.lru_generations.proofs.Taken.{taken_manifest}
use Rattle.lru_generations.proofs.newest.newest_whole.Goals as goal

-- what is taken for whole has a manifest
among : (dir file_name : List ℕ) (files : Files) (known : Option Manifest) (generations : List ℕ) → HasAllManifests dir file_name files generations → (n : ℕ) → IsTakenAt dir file_name files known n → Contains generations n
among dir file_name files known generations all n w = let at = taken_manifest dir file_name known n w.0 files w.1 in all n at.numbers.generation (manifest_bytes n w.0, at.manifest)

pub loop-generation-init : goal.loop-generation-init
loop-generation-init g c =
    let none = c.new-passed.ensures.items in
    record {
      front = ap (λ (l : List Passed). numbers_of l) none;
      none = λ k n lt. absurd (omega (arith, lt));
      unblamed = λ one h. absurd (omega (arith, h.1, ap (λ (l : List Passed). length l) none));
      refused = λ k one h. absurd (omega (arith, h.1, ap (λ (l : List Passed). length l) none));
      files = λ k. refl;
      touches = λ k. touches_started g.F.Folder.meaning (λ q. ⊥) c.args.folder.now k;
      quiet = λ k. refl;
      places = λ k. refl;
      kept = (λ k. k, λ k. k);
    }

pub returns-in-Ok-clause-newest : goal.returns-in-Ok-clause-newest
returns-in-Ok-clause-newest g c k all =
    let m : Meaning _ = g.F.Folder.meaning in
    let so_far = c.loop-generation.invariant in
    let dir = c.args.dir.now in
    let file_name = c.args.file_name.now in
    let files = m.files c.args.folder.now in
    let numbers = c.args.generations.now in
    let i = c.loop-generation.generation-index in
    let marks = c.in-Ok.field-0.frames.items in
    let known = option_copied c.args.known in
    let told = subst (λ (o : Option Manifest). IsTaken dir file_name o (get_or numbers i 0) marks (m.files c.loop-generation.folder)) c.manifest_of.ensures (c.in-Ok.ensures.found (so_far.kept.0 k)) in (
      (marks, subst (λ (f : Files). IsTaken dir file_name known (get_or numbers i 0) marks f) (so_far.files k) told),
      none_higher (IsTakenAt dir file_name files known) numbers (among dir file_name files known numbers all) c.requires.falling i c.loop-generation-test.true (so_far.none k),
    )

pub returns-in-Ok-clause-passed : goal.returns-in-Ok-clause-passed
returns-in-Ok-clause-passed g c k =
    let m : Meaning _ = g.F.Folder.meaning in
    let so_far = c.loop-generation.invariant in
    let start = c.args.folder.now in
    record {
      front = front_at c.args.generations.now c.loop-generation.generation-index (numbers_of c.loop-generation.passed.items) _ c.loop-generation-test.true so_far.front refl;
      unblamed = so_far.unblamed;
      reason = λ one h. check_again m c.args.dir.now c.args.file_name.now start c.loop-generation.folder start c.check_unless_known.new.folder refl
          one.generation one.error (so_far.unblamed one h) (so_far.refused k one h);
    }

pub returns-in-Ok-clause-touches : goal.returns-in-Ok-clause-touches
returns-in-Ok-clause-touches g c k =
    let so_far = c.loop-generation.invariant in
    touches_then g.F.Folder.meaning (λ q. ⊥) c.args.folder.now c.loop-generation.folder c.check_unless_known.new.folder (so_far.touches k) (c.check_unless_known.ensures.touches (so_far.kept.0 k))

pub returns-in_err-pass_over-in-Err-clause-touches : goal.returns-in_err-pass_over-in-Err-clause-touches
returns-in_err-pass_over-in-Err-clause-touches g c k =
    let so_far = c.loop-generation.invariant in
    touches_then g.F.Folder.meaning (λ q. ⊥) c.args.folder.now c.loop-generation.folder c.check_unless_known.new.folder (so_far.touches k) (c.check_unless_known.ensures.touches (so_far.kept.0 k))

pub loop-generation-preserved : goal.loop-generation-preserved
loop-generation-preserved g c =
    let m : Meaning _ = g.F.Folder.meaning in
    let so_far = c.loop-generation.invariant in
    let dir = c.args.dir.now in
    let file_name = c.args.file_name.now in
    let start = c.args.folder.now in
    let mid = c.loop-generation.folder in
    let new = c.check_unless_known.new.folder in
    let numbers = c.args.generations.now in
    let i = c.loop-generation.generation-index in
    let n = get_or numbers i 0 in
    let known = option_copied c.args.known in
    let error = c.in-Err.error in
    let passed = c.loop-generation.passed.items in
    let last : Passed = record { generation = n; error = error } in
    let is : c.pass_over.new.passed.items ≡ passed ++ last ∷ [] = c.in_ok-pass_over-in-Err.ensures.passed in
    let blames : ¬ IsFault error = c.in_ok-pass_over-in-Err.ensures.unblamed in
    record {
      front = ap (λ (l : List Passed). numbers_of l) is ∙ map_more (λ (one : Passed). one.generation) numbers i passed last c.loop-generation-test.true so_far.front refl;
      none = λ k. none_more (IsTakenAt dir file_name (m.files start) known) numbers i (so_far.none k)
          (λ w. blames (c.in-Err.ensures.whole (so_far.kept.0 k) w.0 (subst (λ (o : Option Manifest). IsTaken dir file_name o n w.0 (m.files mid)) (sym c.manifest_of.ensures)
          (subst (λ (f : Files). IsTaken dir file_name known n w.0 f) (sym (so_far.files k)) w.1))));
      unblamed = λ one h. each_more (λ (p : Passed). ¬ IsFault p.error) passed last so_far.unblamed blames one (subst (λ (l : List Passed). Contains l one) is h);
      refused = λ k one h. each_more (λ (p : Passed). IsRefused m (IsRefusedByCheck m dir file_name) dir file_name p.generation start new p.error) passed last
          (λ p at. check_again m dir file_name start mid start new refl p.generation p.error (so_far.unblamed p at) (so_far.refused k p at))
          (check_again m dir file_name mid new start new (so_far.files k) n error blames (c.in-Err.ensures.refused (so_far.kept.0 k)))
          one (subst (λ (l : List Passed). Contains l one) is h);
      files = λ k. c.check_unless_known.ensures.files (so_far.kept.0 k) ∙ so_far.files k;
      touches = λ k. touches_then m (λ q. ⊥) start mid new (so_far.touches k) (c.check_unless_known.ensures.touches (so_far.kept.0 k));
      quiet = λ k. c.in-Err.ensures.quiet (so_far.kept.0 k) blames ∙ so_far.quiet k;
      places = λ k. c.check_unless_known.ensures.places (so_far.kept.0 k) ∙ so_far.places k;
      kept = (λ k. c.check_unless_known.ensures.kept.0 (so_far.kept.0 k), λ k. so_far.kept.1 (c.check_unless_known.ensures.kept.1 k));
    }

pub returns-clause-newest : goal.returns-clause-newest
returns-clause-newest g c k all =
    let files = g.F.Folder.meaning.files c.args.folder.now in
    let numbers = c.args.generations.now in
    none_at_all (IsTakenAt c.args.dir.now c.args.file_name.now files (option_copied c.args.known)) numbers (among c.args.dir.now c.args.file_name.now files (option_copied c.args.known) numbers all)
    c.loop-generation.generation-index c.loop-generation-test.false (c.loop-generation.invariant.none k)

pub returns-clause-passed : goal.returns-clause-passed
returns-clause-passed g c k =
    let so_far = c.loop-generation.invariant in
    record {
      front = front_all c.args.generations.now c.loop-generation.generation-index (numbers_of c.loop-generation.passed.items) c.loop-generation-test.false so_far.front;
      unblamed = so_far.unblamed;
      reason = so_far.refused k;
    }
