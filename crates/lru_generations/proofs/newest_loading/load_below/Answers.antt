use Rattle.std.proofs.Common.{◌≡◌, ◌<◌, ℕ, List, Some, sym, subst}
use Rattle.std.specs.Prelude.{◌↔◌, Contains, IfOk, IfSome, Option}
use Rattle.lru_folder.specs.Files.{Files}
use Rattle.lru_folder.specs.Meaning.{Meaning}
use Rattle.lru_generations.specs.declared.names.PartName.{PartName}
use Rattle.lru_generations.specs.declared.names.PartName.TheVariants.{Manifest}
use Rattle.lru_generations.proofs.Touched.{touches_then}
use Rattle.lru_generations.specs.Checkpoints.{Shards, HasCheckpoint}
use Rattle.lru_generations.specs.Loaded.{IsLoadedBelow, IsReadableBelow, IsSameCheckpoint}
use Rattle.lru_generations.specs.Newest.{AreGenerationsBelow, IsAsKnown, IsBelow}
use Rattle.lru_generations.proofs.Passing.{below_so, if_ok}
use Rattle.lru_generations.proofs.Refusals.{frame_again}
use Rattle.lru_generations.proofs.newest_loading.load_below.Goals as goal

pub returns-clause-loaded : goal.returns-clause-loaded
returns-clause-loaded g c k =
    let m : Meaning _ = g.F.Folder.meaning in
    let K = g.K.Stored in
    let V = g.V.Stored in
    let dir = c.args.dir.now in
    let file_name = c.args.file_name.now in
    let start = c.args.folder.now in
    let bound = c.args.bound in
    let are = below_so dir file_name (m.files start) bound c.in_ok-listed.listed.items c.in_ok-parts.parts.items c.in_ok-generations.generations.items (c.in_ok-listed.ensures.parts k) c.in_ok-parts.ensures
    (subst (λ (l : List PartName). (n : ℕ) → Contains c.in_ok-generations.generations.items n ↔ Contains l (Manifest n)) c.deref.ensures.value c.in_ok-generations.ensures.found) c.in_ok-generations.ensures.falling in
    let given = subst (λ (l : List ℕ). AreGenerationsBelow dir file_name (m.files start) bound l) (sym c.deref-2.ensures.value) are in
    subst (λ (f : Files). (b : Option ℕ) → AreGenerationsBelow dir file_name f b c.deref-2.result.now
    → IfOk c.load_newest.result (λ loaded. IsLoadedBelow K.bytes_of K.is_value V.bytes_of V.is_value dir file_name f b loaded.newest)) (c.parts_of.ensures.files k)
    (c.load_newest.ensures.loaded (c.parts_of.ensures.kept.0 k)) bound given

pub returns-clause-written : goal.returns-clause-written
returns-clause-written g c k =
    let m : Meaning _ = g.F.Folder.meaning in
    let K = g.K.Stored in
    let V = g.V.Stored in
    let dir = c.args.dir.now in
    let file_name = c.args.file_name.now in
    let start = c.args.folder.now in
    let bound = c.args.bound in
    let are = below_so dir file_name (m.files start) bound c.in_ok-listed.listed.items c.in_ok-parts.parts.items c.in_ok-generations.generations.items (c.in_ok-listed.ensures.parts k) c.in_ok-parts.ensures
    (subst (λ (l : List PartName). (n : ℕ) → Contains c.in_ok-generations.generations.items n ↔ Contains l (Manifest n)) c.deref.ensures.value c.in_ok-generations.ensures.found) c.in_ok-generations.ensures.falling in
    let given = subst (λ (l : List ℕ). AreGenerationsBelow dir file_name (m.files start) bound l) (sym c.deref-2.ensures.value) are in
    subst (λ (f : Files). (b : Option ℕ) → AreGenerationsBelow dir file_name f b c.deref-2.result.now → (generation : ℕ) (shards : Shards g.row.K.Denot g.row.V.Denot)
    → HasCheckpoint K.bytes_of K.is_value V.bytes_of V.is_value dir file_name generation shards f → IsBelow b generation
    → ((higher : ℕ) → generation < higher → ¬ IsReadableBelow K.bytes_of K.is_value V.bytes_of V.is_value dir file_name f b higher)
    → IfOk c.load_newest.result (λ loaded. IsSameCheckpoint K.is_same V.is_same generation shards loaded.newest)) (c.parts_of.ensures.files k)
    (c.load_newest.ensures.written (c.parts_of.ensures.kept.0 k)) bound given

pub returns-clause-passed : goal.returns-clause-passed
returns-clause-passed g c k =
    let m : Meaning _ = g.F.Folder.meaning in
    let K = g.K.Stored in
    let V = g.V.Stored in
    let dir = c.args.dir.now in
    let file_name = c.args.file_name.now in
    let start = c.args.folder.now in
    let bound = c.args.bound in
    let are = below_so dir file_name (m.files start) bound c.in_ok-listed.listed.items c.in_ok-parts.parts.items c.in_ok-generations.generations.items (c.in_ok-listed.ensures.parts k) c.in_ok-parts.ensures
    (subst (λ (l : List PartName). (n : ℕ) → Contains c.in_ok-generations.generations.items n ↔ Contains l (Manifest n)) c.deref.ensures.value c.in_ok-generations.ensures.found) c.in_ok-generations.ensures.falling in
    let given = subst (λ (l : List ℕ). AreGenerationsBelow dir file_name (m.files start) bound l) (sym c.deref-2.ensures.value) are in
    let mid = c.parts_of.new.folder in
    let new = c.load_newest.new.folder in
    if_ok c.load_newest.result _ _
    (λ loaded p. (
      c.deref-2.result.now,
      (
        given,
        record {
          front = p.front;
          unblamed = p.unblamed;
          reason = λ one h. frame_again m dir file_name mid new start new (c.parts_of.ensures.files k) K.bytes_of K.is_value V.bytes_of V.is_value
              one.generation one.error (p.unblamed one h) (p.reason one h);
        },
      ),
    )) (c.load_newest.ensures.passed (c.parts_of.ensures.kept.0 k))

pub returns-clause-touches : goal.returns-clause-touches
returns-clause-touches g c k =
    touches_then g.F.Folder.meaning (λ q. ⊥) c.args.folder.now c.parts_of.new.folder c.load_newest.new.folder (c.parts_of.ensures.touches k) (c.load_newest.ensures.touches (c.parts_of.ensures.kept.0 k))

pub returns-clause-known : goal.returns-clause-known
returns-clause-known g c k =
    subst (λ (f : Files). IfOk c.load_newest.result (λ loaded. IfSome loaded.newest (λ checkpoint. (checkpoint.known.generation ≡ checkpoint.generation)
    × IsAsKnown c.args.dir.now c.args.file_name.now f (Some checkpoint.known)))) (c.parts_of.ensures.files k) (c.load_newest.ensures.known (c.parts_of.ensures.kept.0 k))
