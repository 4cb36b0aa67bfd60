-- A save of one file, step by step: the stage that a step leads to, what is safe where it fails, and why it fails.
use Rattle.std.proofs.Common.{◌≡◌, ◌≢◌, ℕ, List, [], Some, None, Result, Ok, Err, IfErr, IsErrOf, OnOk, refl, ◌∙◌, ap, arith}
use Rattle.std.specs.Prelude.{Bool, IsTrue}
use Rattle.std.specs.FinMap.{get}
use Rattle.lru_folder.specs.declared.fault.FolderFault.{FolderFault}
use Rattle.lru_folder.specs.declared.fault.FolderFault.TheVariants.{NotFound}
use Rattle.lru_folder.specs.Files.{AllOrNone, SomeFront, Same, appended, created, renamed}
use Rattle.lru_folder.specs.Folder.{HasCause, Opened, Passes, Writing, written_path}
use Rattle.lru_folder.specs.Losses.{IsSynced, Loses, creating, handed_on, looking, renaming, writing}
use Rattle.lru_folder.specs.Meaning.{Meaning}
use Rattle.lru_folder.specs.Places.{folder_of, is_there}
use Rattle.lru_folder.proofs.CauseLemmas.{no_fault}
use Rattle.lru_shard_files.specs.Saving.{HasReason, SparesFile}
use Rattle.lru_shard_files.specs.Stages.{Holds, HoldsFirm, HoldsOpen, IsInPlace}
use Rattle.lru_shard_files.proofs.SaveSteps.{empty_at, is_saved, open_at, whole}
use Rattle.lru_shard_files.proofs.LossSteps.{apart_created, apart_written, apart_same, so_created, so_written, so_looked, firm_then, so_renamed, firm_last}

-- what a step answers
abbrev pub Answer : Type 0
Answer = Result (Unit {0}) FolderFault

-- what holds of the number of failures where a call answered Ok
quiet_on : (before mid now : ℕ) (done : Unit {0}) → mid ≡ before → HasCause mid now (Ok done) → now ≡ before
quiet_on before mid now done same cause = no_fault mid now (Ok done) cause (λ e. let f : ⊥ = cc in f) ∙ same

-- why a step failed before which none had
pub has_reason : (answer : Answer) (there : Bool) (before mid now : ℕ) → mid ≡ before → HasCause mid now answer
    → (IsErrOf answer NotFound → ¬ IsTrue there) → IfErr answer (HasReason there before now)
has_reason (Ok done) there before mid now same cause missing = tt
has_reason (Err source) there before mid now same cause missing = record {
  later = omega (arith, same, cause.later);
  failed = λ io. let rose = cause.failed (ap Err io) in omega (arith, same, rose);
  told = λ rose. let io = cause.told (omega (arith, same, rose)) in cc;
  missing = λ is. missing (ap Err is);
}

-- The file is created,
pub created_to : {F : Type 0} (m : Meaning F) (opened : F → Opened) (temp path bytes : List ℕ) (start one : F) (at : List ℕ) (answer : Answer)
    → temp ≢ path → m.keeps start → at ≡ temp → Passes m (AllOrNone (created at)) start one → Loses m (creating at) start one
    → OnOk answer (IsTrue (is_there (m.folders start) (folder_of at)) × (m.files one ≡ created at (m.files start)) × (opened one ≡ Writing at))
    → HasCause (m.faults start) (m.faults one) answer → m.keeps one → OnOk answer (HoldsOpen m opened temp path bytes [] start one)
created_to m opened temp path bytes start one at (Ok done) distinct begun is time loss wrote cause kept = record {
  so = record {
    distinct = distinct;
    begun = begun;
    kept = kept;
    spares = so_created m temp path bytes distinct start begun one at is time loss;
    apart = apart_created m temp path bytes distinct start begun one at is wrote.1;
    holds = empty_at m temp path bytes distinct start one at is wrote.1;
    quiet = quiet_on (m.faults start) (m.faults start) (m.faults one) done refl cause;
  };
  writes = wrote.2 ∙ ap Writing is;
}
created_to m opened temp path bytes start one at (Err source) distinct begun is time loss wrote cause kept = tt

-- why a later step failed, which cannot find a file missing
pub later_reason : {F : Type 0} {m : Meaning F} {temp path bytes held : List ℕ} {start mid : F} → Holds m temp path bytes held start mid → (now : F) (answer : Answer)
    → HasCause (m.faults mid) (m.faults now) answer → (IsErrOf answer NotFound → ⊥)
    → IfErr answer (HasReason (is_there (m.folders start) (folder_of temp)) (m.faults start) (m.faults now))
later_reason {F} {m} {temp} {path} {bytes} {held} {start} {mid} was now answer cause found =
    has_reason answer (is_there (m.folders start) (folder_of temp)) (m.faults start) (m.faults mid) (m.faults now) was.quiet cause (λ missing. absurd (found missing))

module _ {F : Type 0} {m : Meaning F} {opened : F → Opened} {temp path bytes : List ℕ} {start : F} where
  -- the bytes are written,
  empty : {one : F} → HoldsOpen m opened temp path bytes [] start one → get (m.files one) (written_path (opened one)) ≡ Some []
  empty {one} was = open_at m temp path bytes was.so.distinct start one (opened one) was.writes was.so.holds

  module _ {one two : F} (was : HoldsOpen m opened temp path bytes [] start one) where
    pub filling_spares : ((held : List ℕ) → get (m.files one) (written_path (opened one)) ≡ Some held → Passes m (SomeFront (written_path (opened one)) bytes) one two)
        → ((held : List ℕ) → get (m.files one) (written_path (opened one)) ≡ Some held → Loses m (writing (written_path (opened one)) bytes) one two)
        → SparesFile m temp path bytes start two
    filling_spares time loss =
        so_written m temp path bytes was.so.distinct start was.so.begun one two (opened one) was.so.spares was.so.apart was.so.holds was.writes (time [] (empty was)) (loss [] (empty was))

    pub filled_to : (answer : Answer) → SparesFile m temp path bytes start two
        → ((held : List ℕ) → get (m.files one) (written_path (opened one)) ≡ Some held → OnOk answer (m.files two ≡ appended (written_path (opened one)) bytes (m.files one)))
        → HasCause (m.faults one) (m.faults two) answer → opened two ≡ opened one → m.keeps two → OnOk answer (HoldsOpen m opened temp path bytes bytes start two)
    filled_to (Ok done) spares wrote cause same kept = record {
      so = record {
        distinct = was.so.distinct;
        begun = was.so.begun;
        kept = kept;
        spares = spares;
        apart = apart_written m temp path bytes was.so.distinct start was.so.begun one two (opened one) was.writes (wrote [] (empty was)) was.so.apart;
        holds = whole m temp path bytes was.so.distinct start one two (opened one) was.so.holds was.writes (wrote [] (empty was));
        quiet = quiet_on (m.faults start) (m.faults one) (m.faults two) done was.so.quiet cause;
      };
      writes = same ∙ was.writes;
    }
    filled_to (Err source) spares wrote cause same kept = tt

  -- flushed, and synced, by calls that change no file,
  module _ {two three : F} (was : HoldsOpen m opened temp path bytes bytes start two) (time : Passes m Same two three) (loss : Loses m looking two three) where
    pub looking_spares : SparesFile m temp path bytes start three
    looking_spares = so_looked m temp path bytes was.so.distinct start was.so.begun two three was.so.spares time loss

    looked : (done : Unit {0}) → HasCause (m.faults two) (m.faults three) (Ok done) → m.keeps three → Holds m temp path bytes bytes start three
    looked done cause kept = record {
      distinct = was.so.distinct;
      begun = was.so.begun;
      kept = kept;
      spares = looking_spares;
      apart = apart_same m temp path bytes was.so.distinct start was.so.begun two three time.leaves was.so.apart;
      holds = ap (λ f. get f temp) time.leaves ∙ was.so.holds;
      quiet = quiet_on (m.faults start) (m.faults two) (m.faults three) done was.so.quiet cause;
    }

    pub flushed_to : (answer : Answer) → HasCause (m.faults two) (m.faults three) answer → opened three ≡ opened two → m.keeps three
        → OnOk answer (HoldsOpen m opened temp path bytes bytes start three)
    flushed_to (Ok done) cause same kept = record { so = looked done cause kept; writes = same ∙ was.writes }
    flushed_to (Err source) cause same kept = tt

    pub synced_to : (answer : Answer) → HasCause (m.faults two) (m.faults three) answer → OnOk answer (IsSynced m (written_path (opened two)) two three) → m.keeps three
        → OnOk answer (HoldsFirm m temp path bytes start three)
    synced_to (Ok done) cause synced kept = record {
      so = looked done cause kept;
      firm = firm_then m temp path bytes was.so.distinct start was.so.begun two three (opened two) was.so.spares was.writes synced;
    }
    synced_to (Err source) cause synced kept = tt

-- and the temporary file becomes the file.
module _ {F : Type 0} {m : Meaning F} {temp path bytes : List ℕ} {start four five : F} (was : HoldsFirm m temp path bytes start four) (from to : List ℕ) (from_is : from ≡ temp) (to_is : to ≡ path) where
  pub renaming_spares : Passes m (AllOrNone (renamed from to)) four five → Loses m (renaming from to) four five → SparesFile m temp path bytes start five
  renaming_spares time loss =
      so_renamed m temp path bytes was.so.distinct start was.so.begun four five from to from_is to_is was.so.spares was.so.apart was.so.holds was.firm time loss

  pub renamed_to : (answer : Answer) → SparesFile m temp path bytes start five
      → OnOk answer ((get (m.files four) from ≢ None) × (m.files five ≡ renamed from to (m.files four)))
      → OnOk answer ((q : List ℕ) → m.loose five q → handed_on from to (m.loose four) q)
      → HasCause (m.faults four) (m.faults five) answer → OnOk answer (IsInPlace m temp path bytes start five)
  renamed_to (Ok done) spares is settled cause = record {
    saved = is_saved m temp path bytes was.so.distinct start four five from to from_is to_is was.so.spares.any_moment was.so.holds is.1;
    spares = spares;
    firm = firm_last m temp path bytes was.so.distinct start was.so.begun four five from to from_is to_is was.so.apart was.so.holds was.firm settled;
    quiet = quiet_on (m.faults start) (m.faults four) (m.faults five) done was.so.quiet cause;
  }
  renamed_to (Err source) spares is settled cause = tt
