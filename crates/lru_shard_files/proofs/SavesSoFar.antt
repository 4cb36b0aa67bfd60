-- A save between two turns.
use Rattle.std.proofs.Common.{◌≡◌, ◌≤◌, ◌<◌, ◌^◌, ℕ, suc, Bool, true, false, cond, nat_lt, Option, Some, None, IfSome, List, [], ◌∷◌, ◌++◌, length, refl, sym, ◌∙◌, ap, subst, arith}
use Rattle.lru_folder.specs.declared.fault.FolderFault.{FolderFault}
use Rattle.lru_folder.specs.declared.fault.FolderFault.TheVariants.{NotFound, Memory, Io}
use Rattle.lru_folder.specs.declared.errors.ShardSaveFailure.{ShardSaveFailure}
use Rattle.lru_folder.specs.declared.errors.ShardSaveFailure.TheVariants as failure
use Rattle.lru_folder.specs.Files.{Same}
use Rattle.lru_folder.specs.Folder.{InOrder, Passes}
use Rattle.lru_folder.proofs.InOrderLemmas.{in_order-push}
use Rattle.lru_folder.proofs.Moments.{started, goes_on, then_run}
use Rattle.lru_folder.specs.Losses.{Loses, looking}
use Rattle.lru_folder.proofs.LossLemmas.{loss_started, loses_on, then_loses}
use Rattle.lru_folder.specs.Meaning.{Meaning}
use Rattle.lru_folder.specs.Names.{has_slash, temp_path}
use Rattle.lru_folder.specs.Places.{Folders, folder_of, is_there, MakesAll}
use Rattle.lru_folder.specs.Blames.{blame_of}
use Rattle.lru_shard_files.specs.Saving.{HasReason}
use Rattle.lru_shard_files.specs.Progress.{Progress, TakesTurn, next_of}
use Rattle.std.proofs.lemmas.Bool.{ltb-true}
use Rattle.lru_shard_files.specs.Turns.{SaveTurn, EachTurn, Ends, EachOldOrGiven, IsOldOrGivenWhole, IsFirm, IsKept, IsRefused, IfIo, SavesOne, SavesEach, failures_of}
use Rattle.lru_folder.proofs.NamesLemmas.{has_slash-temp_text}
use Rattle.lru_folder.proofs.PlacesLemmas.{there}
use Rattle.lru_shard_files.proofs.Putting.{same_progress}
use Rattle.lru_shard_files.proofs.TurnsLemmas.{EachTurn-push, failures-push, get-below, length-push, none_yet, one_more, its_own, still_firm, still_kept, whole_of}

-- what the saver knows
pub record IsSoFar {E : Type 0} (dir file_name : List ℕ) (shards : ℕ) (turns : List (SaveTurn E)) (saver : Progress E) : Type 0 where
  pub saver_is : saver ≡ record { dir = dir; file_name = file_name; shards = shards; next = length turns; failures = failures_of turns }
  pub some : length turns ≤ shards
  pub ends : EachTurn (Ends dir file_name) turns

-- what the folder holds
pub record SavesSoFar {F E : Type 0} (m : Meaning F) (dir file_name : List ℕ) (turns : List (SaveTurn E)) (old made new : F) : Type 0 where
  pub each : SavesEach m dir file_name turns old new
  pub in_order : InOrder (SavesOne m dir file_name) 0 turns made new
  pub later : m.faults old ≤ m.faults new
  pub is_there_now : (shard word : ℕ) → shard < 2 ^ 64 → word < 2 ^ 32 → is_there (m.folders new) (folder_of (temp_path dir file_name shard word)) ≡ true

-- a fault that is neither the device's nor a missing folder's is one of memory
of_memory : (is : Bool) (before now : ℕ) (source : FolderFault) → is ≡ true → now ≡ before → HasReason is before now source → source ≡ Memory
of_memory is before now NotFound here same reason = absurd (reason.missing refl here)
of_memory is before now Memory here same reason = refl
of_memory is before now Io here same reason = let rose = reason.failed refl in absurd (omega arith)

refused_by : {E : Type 0} (is : Bool) (before now : ℕ) (failed : Option (ShardSaveFailure E)) → is ≡ true → now ≡ before
    → IfSome failed (λ f. IfIo f (λ e. HasReason is before now (blame_of e).cause)) → IfSome failed IsRefused
refused_by is before now None here same reason = tt
refused_by is before now (Some (failure.Serialize at source)) here same reason = tt
refused_by is before now (Some (failure.Io at source)) here same reason = of_memory is before now (blame_of source).cause here same reason
refused_by is before now (Some (failure.Memory at)) here same reason = tt

-- the shard whose turn it is
pub next_some : {E : Type 0} (p : Progress E) (shard : ℕ) → Some shard ≡ next_of p → (shard ≡ p.next) × (p.next < p.shards)
next_some p shard e = go (nat_lt p.next p.shards) refl e
  where
    go : (b : Bool) → nat_lt p.next p.shards ≡ b → Some shard ≡ cond b (Some p.next) None → (shard ≡ p.next) × (p.next < p.shards)
    go true is some = (cc, ltb-true p.next p.shards is)
    go false is none = absurd (let f : ⊥ = cc in f)

-- the saver is at the turn after these
pub knows_next : {E : Type 0} (dir file_name : List ℕ) (shards : ℕ) (turns : List (SaveTurn E)) (saver : Progress E) → IsSoFar dir file_name shards turns saver
    → (saver.next ≡ length turns) × (saver.shards ≡ shards)
knows_next dir file_name shards turns saver so_far = (ap (λ p. p.next) so_far.saver_is, ap (λ p. p.shards) so_far.saver_is)

-- what its turn does is what that turn does
pub saves_next : {F E : Type 0} (m : Meaning F) (dir file_name : List ℕ) (shards : ℕ) (turns : List (SaveTurn E)) (turn : SaveTurn E) (saver : Progress E) (old new : F) → IsSoFar dir file_name shards turns saver
    → SavesOne m saver.dir saver.file_name saver.next turn old new
    → SavesOne m dir file_name (length turns) turn old new
saves_next {E = E} m dir file_name shards turns turn saver old new so_far saves =
    subst (λ (p : Progress E). SavesOne m p.dir p.file_name p.next turn old new) so_far.saver_is saves

-- no turn yet
pub knows_none : {E : Type 0} (dir file_name : List ℕ) (shards : ℕ) (saver : Progress E)
    → saver ≡ record { dir = dir; file_name = file_name; shards = shards; next = 0; failures = [] } → IsSoFar dir file_name shards [] saver
knows_none dir file_name shards saver is = record { saver_is = is; some = omega arith; ends = λ i t e. absurd (let below = get-below [] i t e in omega arith) }

-- and one more
pub knows_one : {E : Type 0} (dir file_name : List ℕ) (shards : ℕ) (turns : List (SaveTurn E)) (turn : SaveTurn E) (old new : Progress E) → IsSoFar dir file_name shards turns old
    → old.next < shards → TakesTurn old new turn → IsSoFar dir file_name shards (turns ++ turn ∷ []) new
knows_one {E} dir file_name shards turns turn old new so_far left takes =
    let is = so_far.saver_is in
    let next_is = ap (λ p. p.next) is in
    record {
      saver_is = takes.new_is ∙ same_progress _ _ (ap (λ p. p.dir) is) (ap (λ p. p.file_name) is) (ap (λ p. p.shards) is)
          (ap suc next_is ∙ sym (length-push turns turn)) (ap (λ p. p.failures ++ failures_of (turn ∷ [])) is ∙ sym (failures-push turns turn));
      some = omega (arith, next_is, length-push turns turn);
      ends = EachTurn-push (Ends dir file_name) turns turn so_far.ends
          (subst (λ (p : Progress E). Ends p.dir p.file_name p.next turn) is takes.ends);
    }

module _ {F E : Type 0} (m : Meaning F) (dir file_name : List ℕ) (old : F) where
  -- once the folder is made, before the first turn
  pub saves_none : (new : F) → m.keeps old → Passes m Same old new
      → Loses m looking old new → MakesAll dir (m.folders old) (m.folders new) → has_slash file_name ≡ false → m.faults new ≡ m.faults old
      → SavesSoFar {E = E} m dir file_name [] old new new
  saves_none new kept call loss made none same =
      let P = EachOldOrGiven {E = E} dir file_name [] (m.files old) in
      let at_start = started m P old kept (none_yet dir file_name (m.files old)) (none_yet dir file_name (m.files old) (m.files old) refl) in
      record {
        each = record {
          any_moment = goes_on m P Same old old new at_start call (none_yet dir file_name (m.files old));
          any_loss = loses_on m (EachOldOrGiven {E = E} dir file_name []) looking old old new call.later
              (loss_started m (EachOldOrGiven {E = E} dir file_name []) old (λ f. none_yet dir file_name f f refl)) loss (λ f s. absurd s);
          kept = λ i t e. absurd (let below = get-below [] i t e in omega arith);
          firm = λ i t e. absurd (let below = get-below [] i t e in omega arith);
          refused = λ same i t e. absurd (let below = get-below [] i t e in omega arith);
        };
        in_order = refl;
        later = omega (arith, same);
        is_there_now = λ shard word small short. there dir _ (m.folders old) (m.folders new) made (has_slash-temp_text file_name shard word small short ∙ none);
      }

  -- one turn more
  pub saves_one : (turns : List (SaveTurn E)) (turn : SaveTurn E) (made mid new : F) → length turns < 2 ^ 64 → turn.word < 2 ^ 32
      → SavesSoFar m dir file_name turns old made mid
      → SavesOne m dir file_name (length turns) turn mid new
      → SavesSoFar m dir file_name (turns ++ turn ∷ []) old made new
  saves_one turns turn made mid new small short so_far one = record {
    each = record {
      any_moment = then_run m _ _ (EachOldOrGiven dir file_name (turns ++ turn ∷ []) (m.files old)) old mid new so_far.each.any_moment one.any_moment
          (one_more dir file_name turns turn small (m.files old))
          (λ f h. its_own dir file_name turns turn small (m.files old) (m.files mid) f so_far.each.any_moment.now (whole_of dir file_name (length turns) turn (m.files mid) f h));
      any_loss = then_loses m (EachOldOrGiven dir file_name turns) (IsOldOrGivenWhole dir file_name (length turns) turn) (EachOldOrGiven dir file_name (turns ++ turn ∷ []))
          old mid new so_far.each.any_loss one.any_loss (one_more dir file_name turns turn small) (its_own dir file_name turns turn small);
      kept = EachTurn-push (IsKept dir file_name (m.files new)) turns turn
          (still_kept dir file_name turns turn small (m.files mid) (m.files new) (whole_of dir file_name (length turns) turn (m.files mid) (m.files new) one.any_moment.now) so_far.each.kept) one.kept;
      firm = EachTurn-push (IsFirm dir file_name (m.loose new)) turns turn (still_firm dir file_name turns turn small (m.loose mid) (m.loose new) one.loosens so_far.each.firm) one.firm;
      refused = λ same.
          let then_same : m.faults mid ≡ m.faults old = omega (arith, so_far.later, one.later, same) in
          let now_same : m.faults new ≡ m.faults mid = omega (arith, same, then_same) in
          EachTurn-push (λ i t. IfSome t.failed IsRefused) turns turn (so_far.each.refused then_same)
          (refused_by _ (m.faults mid) (m.faults new) turn.failed (so_far.is_there_now (length turns) turn.word small short) now_same one.reason);
    };
    in_order = in_order-push (SavesOne m dir file_name) 0 (length turns) turns turn made mid new (omega arith) so_far.in_order one;
    later = omega (arith, so_far.later, one.later);
    is_there_now = λ shard word a b. ap (λ (f : Folders). is_there f (folder_of (temp_path dir file_name shard word))) one.places ∙ so_far.is_there_now shard word a b;
  }
