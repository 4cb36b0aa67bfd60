use Rattle.std.proofs.Common.{◌≡◌, inl, inr, ℕ, ◌<◌, ◌≤◌, List, [], ◌∷◌, ◌++◌, length, get_or, refl, sym, ◌∙◌, ap, subst, arith}
use Rattle.std.proofs.lemmas.Bool.{cases_lt}
use Rattle.std.proofs.lemmas.List.Elements.{Contains-get_or}
use Rattle.std.specs.Prelude.{Contains, Option}
use Rattle.lru_folder.specs.Files.{Files}
use Rattle.lru_folder.specs.Meaning.{Meaning}
use Rattle.lru_generations.specs.declared.manifest.Manifest.{Manifest}
use Rattle.lru_generations.specs.Manifests.{manifest_bytes}
use Rattle.lru_generations.proofs.Touched.{touches_started, touches_then}
use Rattle.lru_generations.specs.Checkpoints.{HasCheckpoint, IsWhole}
use Rattle.lru_generations.specs.Loads.{IsFault, IsRefused, IsRefusedFrame, rows_of}
use Rattle.lru_generations.specs.declared.newest.Passed.{Passed}
use Rattle.lru_generations.specs.Loaded.{IsReadable, IsReadableBelow}
use Rattle.lru_generations.specs.Newest.{AreGenerationsBelow, IsBelow}
use Rattle.lru_generations.proofs.Passing.{NoneOf, each_more, front_all, front_at, map_more, none_at_all, none_higher, none_more, numbers_of}
use Rattle.lru_generations.proofs.Refusals.{frame_again}
use Rattle.lru_generations.proofs.newest_loading.load_newest.Goals as goal

module _ {K V : Type 0} (key_bytes : K → List ℕ) (IsKey : K → Type 0) (data_bytes : V → List ℕ) (IsData : V → Type 0) (dir file_name : List ℕ) (files : Files)
    (bound : Option ℕ) (generations : List ℕ) (are : AreGenerationsBelow dir file_name files bound generations) where
  abbrev Readable : ℕ → Type 0
  Readable = IsReadable key_bytes IsKey data_bytes IsData dir file_name files

  abbrev Below : ℕ → Type 0
  Below = IsReadableBelow key_bytes IsKey data_bytes IsData dir file_name files bound

  -- what can be read below the bound has a manifest there
  among : (n : ℕ) → Below n → Contains generations n
  among n w = (are.found n).1 (w.1.1.numbers.generation, ((manifest_bytes n w.1.1.marks, w.1.1.manifest), w.0))

  -- each of these is below the bound
  below_at : (i : ℕ) → i < length generations → IsBelow bound (get_or generations i 0)
  below_at i lt = ((are.found (get_or generations i 0)).0 (Contains-get_or generations i 0 lt)).1.1

  narrow : (i : ℕ) → NoneOf Readable generations i → NoneOf Below generations i
  narrow i none k lt w = none k lt w.1

  top : (i : ℕ) → i < length generations → NoneOf Readable generations i → (n : ℕ) → get_or generations i 0 < n → ¬ Below n
  top i lt none = none_higher Below generations among are.falling i lt (narrow i none)

  at_all : (i : ℕ) → length generations ≤ i → NoneOf Readable generations i → (n : ℕ) → ¬ Below n
  at_all i le none = none_at_all Below generations among i le (narrow i none)

pub loop-generation-init : goal.loop-generation-init
loop-generation-init g c =
    let none = c.new-passed.ensures.items in
    record {
      front = ap (λ (l : List Passed). numbers_of l) none;
      none = λ k n lt. absurd (omega (arith, lt));
      unblamed = λ one h. absurd (omega (arith, h.1, ap (λ (l : List Passed). length l) none));
      refused = λ k one h. absurd (omega (arith, h.1, ap (λ (l : List Passed). length l) none));
      files = λ k. refl;
      touches = λ k. touches_started g.F.Folder.meaning (λ q. ⊥) c.args.folder.now k;
      quiet = λ k. refl;
      places = λ k. refl;
      kept = (λ k. k, λ k. k);
    }

pub returns-in-Ok-clause-loaded : goal.returns-in-Ok-clause-loaded
returns-in-Ok-clause-loaded g c k bound are =
    let m : Meaning _ = g.F.Folder.meaning in
    let K = g.K.Stored in
    let V = g.V.Stored in
    let so_far = c.loop-generation.invariant in
    let dir = c.args.dir.now in
    let file_name = c.args.file_name.now in
    let files = m.files c.args.folder.now in
    let numbers = c.args.generations.now in
    let i = c.loop-generation.generation-index in (
      below_at K.bytes_of K.is_value V.bytes_of V.is_value dir file_name files bound numbers are i c.loop-generation-test.true,
      (
        subst (λ (f : Files). HasCheckpoint K.bytes_of K.is_value V.bytes_of V.is_value dir file_name (get_or numbers i 0) (rows_of c.in-Ok.shards.items) f) (so_far.files k) (c.in-Ok.ensures.found (so_far.kept.0 k)),
        top K.bytes_of K.is_value V.bytes_of V.is_value dir file_name files bound numbers are i c.loop-generation-test.true (so_far.none k),
      ),
    )

pub returns-in-Ok-clause-written : goal.returns-in-Ok-clause-written
returns-in-Ok-clause-written g c k bound are generation shards h low highest =
    let m : Meaning _ = g.F.Folder.meaning in
    let K = g.K.Stored in
    let V = g.V.Stored in
    let so_far = c.loop-generation.invariant in
    let dir = c.args.dir.now in
    let file_name = c.args.file_name.now in
    let files = m.files c.args.folder.now in
    let numbers = c.args.generations.now in
    let i = c.loop-generation.generation-index in
    let n = get_or numbers i 0 in
    let k-1 = so_far.kept.0 k in
    let found = subst (λ (f : Files). HasCheckpoint K.bytes_of K.is_value V.bytes_of V.is_value dir file_name n (rows_of c.in-Ok.shards.items) f) (so_far.files k) (c.in-Ok.ensures.found k-1) in
    let higher = top K.bytes_of K.is_value V.bytes_of V.is_value dir file_name files bound numbers are i c.loop-generation-test.true (so_far.none k) in
    let here = below_at K.bytes_of K.is_value V.bytes_of V.is_value dir file_name files bound numbers are i c.loop-generation-test.true in
    let same : n ≡ generation = elim (cases_lt n generation) [
      | inl lt ↦ absurd (higher generation lt (low, (shards, h)))
      | inr le ↦ elim (cases_lt generation n) [
        | inl lt ↦ absurd (highest n lt (here, (rows_of c.in-Ok.shards.items, found)))
        | inr ge ↦ omega (arith, le, ge)
      ]
    ] in (
      same,
      c.in-Ok.ensures.written k-1 shards (subst (λ (f : Files). HasCheckpoint K.bytes_of K.is_value V.bytes_of V.is_value dir file_name n shards f) (sym (so_far.files k))
          (subst (λ (x : ℕ). HasCheckpoint K.bytes_of K.is_value V.bytes_of V.is_value dir file_name x shards files) (sym same) h)),
    )

pub returns-in-Ok-clause-passed : goal.returns-in-Ok-clause-passed
returns-in-Ok-clause-passed g c k =
    let m : Meaning _ = g.F.Folder.meaning in
    let K = g.K.Stored in
    let V = g.V.Stored in
    let so_far = c.loop-generation.invariant in
    let start = c.args.folder.now in
    record {
      front = front_at c.args.generations.now c.loop-generation.generation-index (numbers_of c.loop-generation.passed.items) _ c.loop-generation-test.true so_far.front refl;
      unblamed = so_far.unblamed;
      reason = λ one h. frame_again m c.args.dir.now c.args.file_name.now start c.loop-generation.folder start c.load_generation.new.folder refl
          K.bytes_of K.is_value V.bytes_of V.is_value one.generation one.error (so_far.unblamed one h) (so_far.refused k one h);
    }

pub returns-in-Ok-clause-touches : goal.returns-in-Ok-clause-touches
returns-in-Ok-clause-touches g c k =
    let so_far = c.loop-generation.invariant in
    touches_then g.F.Folder.meaning (λ q. ⊥) c.args.folder.now c.loop-generation.folder c.load_generation.new.folder (so_far.touches k) (c.load_generation.ensures.touches (so_far.kept.0 k))

pub returns-in_err-pass_over-in-Err-clause-touches : goal.returns-in_err-pass_over-in-Err-clause-touches
returns-in_err-pass_over-in-Err-clause-touches g c k =
    let so_far = c.loop-generation.invariant in
    touches_then g.F.Folder.meaning (λ q. ⊥) c.args.folder.now c.loop-generation.folder c.load_generation.new.folder (so_far.touches k) (c.load_generation.ensures.touches (so_far.kept.0 k))

pub loop-generation-preserved : goal.loop-generation-preserved
loop-generation-preserved g c =
    let m : Meaning _ = g.F.Folder.meaning in
    let K = g.K.Stored in
    let V = g.V.Stored in
    let so_far = c.loop-generation.invariant in
    let dir = c.args.dir.now in
    let file_name = c.args.file_name.now in
    let start = c.args.folder.now in
    let mid = c.loop-generation.folder in
    let new = c.load_generation.new.folder in
    let numbers = c.args.generations.now in
    let i = c.loop-generation.generation-index in
    let n = get_or numbers i 0 in
    let error = c.in-Err.error in
    let passed = c.loop-generation.passed.items in
    let last : Passed = record { generation = n; error = error } in
    let is : c.pass_over.new.passed.items ≡ passed ++ last ∷ [] = c.in_ok-pass_over-in-Err.ensures.passed in
    let blames : ¬ IsFault error = c.in_ok-pass_over-in-Err.ensures.unblamed in
    record {
      front = ap (λ (l : List Passed). numbers_of l) is ∙ map_more (λ (one : Passed). one.generation) numbers i passed last c.loop-generation-test.true so_far.front refl;
      none = λ k. none_more (IsReadable K.bytes_of K.is_value V.bytes_of V.is_value dir file_name (m.files start)) numbers i (so_far.none k)
          (λ w. blames (c.in-Err.ensures.written (so_far.kept.0 k) w.0 (subst (λ (f : Files). HasCheckpoint K.bytes_of K.is_value V.bytes_of V.is_value dir file_name n w.0 f) (sym (so_far.files k)) w.1)));
      unblamed = λ one h. each_more (λ (p : Passed). ¬ IsFault p.error) passed last so_far.unblamed blames one (subst (λ (l : List Passed). Contains l one) is h);
      refused = λ k one h. each_more (λ (p : Passed). IsRefused m (IsRefusedFrame m K.bytes_of K.is_value V.bytes_of V.is_value dir file_name) dir file_name p.generation start new p.error) passed last
          (λ p at. frame_again m dir file_name start mid start new refl K.bytes_of K.is_value V.bytes_of V.is_value p.generation p.error (so_far.unblamed p at) (so_far.refused k p at))
          (frame_again m dir file_name mid new start new (so_far.files k) K.bytes_of K.is_value V.bytes_of V.is_value n error blames (c.in-Err.ensures.refused (so_far.kept.0 k)))
          one (subst (λ (l : List Passed). Contains l one) is h);
      files = λ k. c.load_generation.ensures.files (so_far.kept.0 k) ∙ so_far.files k;
      touches = λ k. touches_then m (λ q. ⊥) start mid new (so_far.touches k) (c.load_generation.ensures.touches (so_far.kept.0 k));
      quiet = λ k. c.in-Err.ensures.quiet (so_far.kept.0 k) blames ∙ so_far.quiet k;
      places = λ k. c.load_generation.ensures.places (so_far.kept.0 k) ∙ so_far.places k;
      kept = (λ k. c.load_generation.ensures.kept.0 (so_far.kept.0 k), λ k. so_far.kept.1 (c.load_generation.ensures.kept.1 k));
    }

pub returns-clause-loaded : goal.returns-clause-loaded
returns-clause-loaded g c k bound are =
    let K = g.K.Stored in
    let V = g.V.Stored in
    at_all K.bytes_of K.is_value V.bytes_of V.is_value c.args.dir.now c.args.file_name.now (g.F.Folder.meaning.files c.args.folder.now) bound c.args.generations.now are
    c.loop-generation.generation-index c.loop-generation-test.false (c.loop-generation.invariant.none k)

pub returns-clause-written : goal.returns-clause-written
returns-clause-written g c k bound are generation shards h low highest =
    let K = g.K.Stored in
    let V = g.V.Stored in
    at_all K.bytes_of K.is_value V.bytes_of V.is_value c.args.dir.now c.args.file_name.now (g.F.Folder.meaning.files c.args.folder.now) bound c.args.generations.now are
    c.loop-generation.generation-index c.loop-generation-test.false (c.loop-generation.invariant.none k) generation (low, (shards, h))

pub returns-clause-passed : goal.returns-clause-passed
returns-clause-passed g c k =
    let so_far = c.loop-generation.invariant in
    record {
      front = front_all c.args.generations.now c.loop-generation.generation-index (numbers_of c.loop-generation.passed.items) c.loop-generation-test.false so_far.front;
      unblamed = so_far.unblamed;
      reason = so_far.refused k;
    }

pub returns-in-Ok-clause-known : goal.returns-in-Ok-clause-known
returns-in-Ok-clause-known g c k =
    let so_far = c.loop-generation.invariant in
    let told = c.in-Ok.ensures.told (so_far.kept.0 k) in
    let n = get_or c.args.generations.now c.loop-generation.generation-index 0 in
    let manifest = c.in-Ok.manifest in
    let files = g.F.Folder.meaning.files c.args.folder.now in
    subst (λ (x : Manifest). (x.generation ≡ n) × IsWhole c.args.dir.now c.args.file_name.now x.generation x.frames.items files) (sym c.new-known.ensures) (
      told.0,
      subst (λ (x : ℕ). IsWhole c.args.dir.now c.args.file_name.now x manifest.frames.items files) (sym told.0)
          (subst (λ (f : Files). IsWhole c.args.dir.now c.args.file_name.now n manifest.frames.items f) (so_far.files k) told.1),
    )
