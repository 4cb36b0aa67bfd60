-- A save of a shard's file is the shard's turn.
use Rattle.std.proofs.Common.{◌≡◌, ℕ, List, Option, Some, None, Ok, inl, inr, refl, ap, subst, arith}
use Rattle.std.specs.Prelude.{Vec}
use Rattle.std.specs.FinMap.{get}
use Rattle.std.specs.declared.alloc.Global.{Global}
use Rattle.lru_folder.specs.declared.errors.ShardFileError.{ShardFileError}
use Rattle.lru_folder.specs.declared.errors.ShardSaveFailure.{ShardSaveFailure}
use Rattle.lru_folder.specs.declared.errors.ShardSaveFailure.TheVariants.{Io}
use Rattle.lru_folder.specs.Blames.{failed_call, blame_of}
use Rattle.lru_folder.specs.Files.{Files}
use Rattle.lru_folder.specs.Folder.{LeavesOnly}
use Rattle.lru_folder.specs.Losses.{IsFromStart, LosesOnly}
use Rattle.lru_folder.proofs.LossLemmas.{loss_started}
use Rattle.lru_folder.proofs.Moments.{started}
use Rattle.lru_folder.specs.Meaning.{Meaning}
use Rattle.lru_folder.specs.Names.{shard_path, temp_path}
use Rattle.lru_folder.specs.Places.{folder_of, is_there}
use Rattle.lru_shard_files.specs.Saving.{IsOldOrNew, IsOldOrWhole, IsSaved, HasReason, SparesFile}
use Rattle.lru_shard_files.specs.Turns.{Given, IfIo, IsOldOrGiven, IsOldOrGivenWhole, SaveTurn, SavesOne}

-- what was safe at every moment
abbrev pub Leaves : {F : Type 0} → Meaning F → List ℕ → F → F → List ℕ → List ℕ → Type 0
Leaves m bytes old new temp path = SparesFile m temp path bytes old new

-- what holds of two paths and of bytes holds of the same ones
pub at_paths : (P : List ℕ → List ℕ → List ℕ → Type 0) (temp temp' path path' bytes bytes' : List ℕ) → temp ≡ temp' → path ≡ path' → bytes ≡ bytes' → P temp path bytes → P temp' path' bytes'
at_paths P temp temp' path path' bytes bytes' temp_is path_is bytes_is h =
    subst (λ (p : List ℕ × List ℕ × List ℕ). P p.0 p.1 p.2) (λ i. (temp_is i, path_is i, bytes_is i)) h

module _ {F E : Type 0} (m : Meaning F) (dir file_name : List ℕ) (shard word : ℕ) (bytes : Vec ℕ Global) (old new : F) where
  abbrev turn : Option (ShardSaveFailure E) → SaveTurn E
  turn failed = record { word = word; given = Ok bytes; failed = failed }

  given_so : (failed : Option (ShardSaveFailure E)) (f : Files) → IsOldOrNew (temp_path dir file_name shard word) (shard_path dir file_name shard) bytes.items (m.files old) f → IsOldOrGiven dir file_name shard (turn failed) (m.files old) f
  given_so failed f h = record { file = h.file; remnant = h.remnant; others = h.others }

  any_moment : (failed : Option (ShardSaveFailure E)) → LeavesOnly m (IsOldOrNew (temp_path dir file_name shard word) (shard_path dir file_name shard) bytes.items (m.files old)) old new
      → LeavesOnly m (IsOldOrGiven dir file_name shard (turn failed) (m.files old)) old new
  any_moment failed h = record {
    later = h.later;
    each = λ f s. given_so failed f (h.each f s);
    now = given_so failed (m.files new) h.now;
    before = λ t f le s. elim (h.before t f le s) [
      | inl was ↦ inl was
      | inr so ↦ inr (given_so failed f so)
    ];
  }

  whole_so : (failed : Option (ShardSaveFailure E)) (f : Files) → IsFromStart m (IsOldOrWhole (temp_path dir file_name shard word) (shard_path dir file_name shard) bytes.items) old f
      → IsFromStart m (IsOldOrGivenWhole dir file_name shard (turn failed)) old f
  whole_so failed f h = (h.0, (h.1.0, record { file = h.1.1.file; others = h.1.1.others }))

  any_loss : (failed : Option (ShardSaveFailure E)) → LosesOnly m (IsOldOrWhole (temp_path dir file_name shard word) (shard_path dir file_name shard) bytes.items) old new
      → LosesOnly m (IsOldOrGivenWhole dir file_name shard (turn failed)) old new
  any_loss failed h = record {
    later = h.later;
    each = λ f s. whole_so failed f (h.each f s);
    now = λ f s. whole_so failed f (h.now f s);
    before = λ t f le s. elim (h.before t f le s) [
      | inl was ↦ inl was
      | inr so ↦ inr (whole_so failed f so)
    ];
  }

  pub ends_well : Leaves m bytes.items old new (temp_path dir file_name shard word) (shard_path dir file_name shard) → IsSaved (temp_path dir file_name shard word) (shard_path dir file_name shard) bytes.items (m.files old) (m.files new) → m.faults new ≡ m.faults old → m.folders new ≡ m.folders old
      → ¬ m.loose new (shard_path dir file_name shard) → SavesOne m dir file_name shard (turn None) old new
  ends_well leaves saved same places firm = record {
    any_moment = any_moment None leaves.any_moment;
    any_loss = any_loss None leaves.any_loss;
    kept = saved.file;
    firm = firm;
    gone = saved.gone;
    named = tt;
    reason = tt;
    later = omega (arith, same);
    told = λ rose. absurd (omega (arith, same, rose));
    places = places;
    loosens = leaves.loosens;
  }

  pub ends_badly : (source : ShardFileError) → Leaves m bytes.items old new (temp_path dir file_name shard word) (shard_path dir file_name shard) → m.last_call new ≡ failed_call source
      → HasReason (is_there (m.folders old) (folder_of (temp_path dir file_name shard word))) (m.faults old) (m.faults new) (blame_of source).cause → m.folders new ≡ m.folders old
      → SavesOne m dir file_name shard (turn (Some (Io shard source))) old new
  ends_badly source leaves named reason places = record {
    any_moment = any_moment (Some (Io shard source)) leaves.any_moment;
    any_loss = any_loss (Some (Io shard source)) leaves.any_loss;
    kept = tt;
    firm = tt;
    gone = tt;
    named = named;
    reason = reason;
    later = reason.later;
    told = reason.told;
    places = places;
    loosens = leaves.loosens;
  }

-- a turn that was refused before the folder was asked
module _ {F E : Type 0} (m : Meaning F) (dir file_name : List ℕ) (shard word : ℕ) (given : Given E) (failure : ShardSaveFailure E) (old : F) where
  abbrev refused : SaveTurn E
  refused = record { word = word; given = given; failed = Some failure }

  unchanged : (f : Files) → f ≡ m.files old → IsOldOrGiven dir file_name shard refused (m.files old) f
  unchanged f e = record {
    file = inl (ap (λ (g : Files). get g (shard_path dir file_name shard)) e);
    remnant = inl (ap (λ (g : Files). get g (temp_path dir file_name shard word)) e);
    others = λ q p t. ap (λ (g : Files). get g q) e;
  }

  pub ends_early : m.keeps old → IfIo failure (λ e. m.last_call old ≡ failed_call e)
      → IfIo failure (λ e. HasReason (is_there (m.folders old) (folder_of (temp_path dir file_name shard word))) (m.faults old) (m.faults old) (blame_of e).cause)
      → SavesOne m dir file_name shard refused old old
  ends_early kept named reason = record {
    any_moment = started m (IsOldOrGiven dir file_name shard refused (m.files old)) old kept unchanged (unchanged (m.files old) refl);
    any_loss = loss_started m (IsOldOrGivenWhole dir file_name shard refused) old (λ f. record { file = inl refl; others = λ q p t. refl });
    kept = tt;
    firm = tt;
    gone = tt;
    named = named;
    reason = reason;
    later = omega arith;
    told = λ rose. absurd (omega (arith, rose));
    places = refl;
    loosens = λ q l. inr l;
  }
