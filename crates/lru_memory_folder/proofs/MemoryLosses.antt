-- One call more of a folder in memory, and what a loss of power may leave.
use Rattle.std.proofs.Common.{◌≡◌, ◌≢◌, inl, inr, ⊎_elim, ℕ, Bool, true, List, [], ◌∷◌, ◌++◌, length, Option, Some, None, Result, Ok, Err, refl, sym, ◌∙◌, ap, subst, arith}
use Rattle.std.specs.Prelude.{OnOk}
use Rattle.std.specs.FinMap.{from_entries}
use Rattle.lru_folder.specs.declared.fault.FolderFault.{FolderFault}
use Rattle.lru_folder.specs.Files.{Files}
use Rattle.lru_folder.specs.SyncedNames.{AreSynced, HasNames}
use Rattle.lru_folder.specs.Losses.{IsSpread, IsSynced, Loses, at_opening, firmed, handed_on, loss_of}
use Rattle.lru_memory_folder.specs.declared.calls.End.{End}
use Rattle.lru_memory_folder.specs.declared.calls.End.TheVariants.{Done}
use Rattle.lru_memory_folder.specs.Calls.{Deed, Syncs, SyncsNames, Noted}
use Rattle.lru_memory_folder.specs.Losing.{step_of, loose_moved, loose_done, loose_after, maps_after, loss_left, LostSince}
use Rattle.lru_memory_folder.specs.History.{History, with_call, end_of, Goes}
use Rattle.lru_memory_folder.specs.Memory.{Memory, files_of, clock_of, lost_since_of, loose_of, loss_now}
use Rattle.lru_memory_folder.specs.MemoryLaws.{memory_meaning}
use Rattle.lru_memory_folder.specs.LosingLaws.{opened_own, own_left, left-files, LostSince-now}
use Rattle.lru_memory_folder.proofs.LosingLemmas.{LostSince-only, left-push, loose-push, split, loosens, LostSince-stays, LostSince-push, step-carry, step-loose, still_loose}
use Rattle.lru_memory_folder.proofs.MemoryLemmas.{history, ended_well}

module _ (old new : Memory) (deed : Deed) (end : End) (is : history new ≡ with_call (history old) deed end) where
  abbrev n : Noted
  n = record { deed = deed; end = end }

  lost : (t : ℕ) (m : Files) → lost_since_of new t m ≡ LostSince (old.calls ++ n ∷ []) t (at_opening (from_entries old.begun)) m
  lost t m = λ i. LostSince ((is i).calls) t (at_opening (from_entries ((is i).begun))) m

  -- the maps and the loose paths after the call
  maps_now : (m : Files) → lost_since_of new (clock_of new) m → maps_after deed end (loss_now old) m
  maps_now m s =
      let left : (loss_now new).maps m = LostSince-only new.calls (at_opening (from_entries new.begun)) m s in
      let pushed : (loss_now new).maps m ≡ (loss_left (old.calls ++ n ∷ []) (at_opening (from_entries old.begun))).maps m =
      λ i. (loss_left ((is i).calls) (at_opening (from_entries ((is i).begun)))).maps m in
      left-push old.calls n (at_opening (from_entries old.begun)) m (subst (λ (A : Type 0). A) pushed left)

  loose_now : (q : List ℕ) → loose_of new q → loose_after deed end (loss_now old).files (loose_of old) q
  loose_now q h =
      let pushed : loose_of new q ≡ (loss_left (old.calls ++ n ∷ []) (at_opening (from_entries old.begun))).loose q =
      λ i. (loss_left ((is i).calls) (at_opening (from_entries ((is i).begun)))).loose q in
      loose-push old.calls n (at_opening (from_entries old.begun)) q (subst (λ (A : Type 0). A) pushed h)

  carry : (m : Files) → (step_of deed).maps (loss_now old) m → (step_of deed).maps (loss_of memory_meaning old) m
  carry m s =
      step-carry deed (loss_now old).files (files_of old) (loose_of old) (loss_now old).maps (lost_since_of old (clock_of old)) m (left-files old.calls (at_opening (from_entries old.begun)))
      (λ f h. LostSince-now old.calls (length old.calls) (at_opening (from_entries old.begun)) f (omega arith) h) s

  -- time has gone on by that call
  noted_loses : Loses memory_meaning (step_of deed) old new
  noted_loses =
      let start = at_opening (from_entries old.begun) in
      let own = opened_own (from_entries old.begun) in
      record {
        nothing_else = λ t m le s. ⊎_elim inl (λ p. inr (carry m p)) (LostSince-push old.calls n t start m own le (subst (λ (A : Type 0). A) (lost t m) s));
        stays = λ t m le s. subst (λ (A : Type 0). A) (sym (lost t m)) (LostSince-stays old.calls n t start m le s);
        now = λ m s. ⊎_elim (λ h. inl (LostSince-now old.calls (length old.calls) start m (omega arith) h)) (λ p. inr (carry m p))
            (split deed end (loss_now old) (own_left old.calls start own) m (maps_now m s));
        loosens = λ q h. step-loose deed (loss_now old).files (files_of old) (loose_of old) (loss_now old).maps (lost_since_of old (clock_of old)) q (loosens deed end (loss_now old) q (loose_now q h));
      }

still_loses : (old new : Memory) (deed : Deed) → history new ≡ history old → Loses memory_meaning (step_of deed) old new
still_loses old new deed is =
    let lost : (t : ℕ) (m : Files) → lost_since_of new t m ≡ lost_since_of old t m = λ t m i. LostSince ((is i).calls) t (at_opening (from_entries ((is i).begun))) m in
    let now : (m : Files) → lost_since_of new (clock_of new) m ≡ lost_since_of old (clock_of old) m =
    λ m i. LostSince ((is i).calls) (length ((is i).calls)) (at_opening (from_entries ((is i).begun))) m in
    let loose : (q : List ℕ) → loose_of new q ≡ loose_of old q = λ q i. (loss_left ((is i).calls) (at_opening (from_entries ((is i).begun)))).loose q in
    record {
      nothing_else = λ t m le s. inl (subst (λ (A : Type 0). A) (lost t m) s);
      stays = λ t m le s. subst (λ (A : Type 0). A) (sym (lost t m)) s;
      now = λ m s. inl (subst (λ (A : Type 0). A) (now m) s);
      loosens = λ q h. still_loose deed (loss_of memory_meaning old) q (subst (λ (A : Type 0). A) (loose q) h);
    }

goes_loses : {T : Type 0} (deed : Deed) (end : End) (old new : Memory) (result : Result T FolderFault) → Goes deed end (history old) (history new) result
    → Loses memory_meaning (step_of deed) old new
goes_loses deed end old new result (inl noted) = noted_loses old new deed end noted.0
goes_loses deed end old new result (inr refused) = still_loses old new deed refused.0

-- a call loses no more than its step, however it goes
pub loses : {T : Type 0} (deed : Memory → Deed) (end : End) (was old new : Memory) (result : Result T FolderFault) → was ≡ old
    → Goes (deed was) end (history was) (history new) result → Loses memory_meaning (step_of (deed old)) old new
loses deed end was old new result is goes =
    subst (λ (m : Memory). Loses memory_meaning (step_of (deed m)) m new) is (goes_loses (deed was) end was new result goes)

-- after the whole of a call
whole_call : {T : Type 0} (deed : Deed) (found : Bool) (fate : Option ℕ) (old new : Memory) (result : Result T FolderFault)
    → Goes deed (end_of fate found) (history old) (history new) result → OnOk result (history new ≡ with_call (history old) deed Done)
whole_call deed found fate old new (Err e) goes = tt
whole_call deed found fate old new (Ok x) (inr refused) = absurd (let f : ⊥ = let e = refused.1 in cc in f)
whole_call deed found fate old new (Ok x) (inl noted) =
    let result : Result _ FolderFault = Ok x in
    noted.0 ∙ ap (with_call (history old) deed) (ended_well fate found result refl noted.1)

settled_at : {T : Type 0} (deed : Deed) (old new : Memory) (result : Result T FolderFault) → OnOk result (history new ≡ with_call (history old) deed Done)
    → OnOk result ((q : List ℕ) → loose_of new q → loose_done deed (files_of old) (loose_of old) q)
settled_at deed old new (Err e) h = tt
settled_at deed old new (Ok x) h =
    λ q l. subst (λ (files : Files). loose_done deed files (loose_of old) q) (left-files old.calls (at_opening (from_entries old.begun))) (loose_now old new deed Done h q l)

-- the paths that are loose then
pub settled : {T : Type 0} (deed : Memory → Deed) (found : Bool) (fate : Option ℕ) (was old : Memory) (new : History) (result : Result T FolderFault) → was ≡ old
    → Goes (deed was) (end_of fate found) (history was) new result
    → OnOk result ((q : List ℕ) → (loss_left new.calls (at_opening (from_entries new.begun))).loose q → loose_done (deed old) (files_of old) (loose_of old) q)
settled deed found fate was old new result is goes =
    let later : Memory = record { begun = new.begun; calls = new.calls; made = was.made; opened = was.opened; plan = was.plan; last = was.last; elsewhere = was.elsewhere } in
    subst (λ (m : Memory). OnOk result ((q : List ℕ) → loose_of later q → loose_done (deed m) (files_of m) (loose_of m) q)) is
    (settled_at (deed was) was later result (whole_call (deed was) found fate was later result goes))

-- a rename that was done has handed on
pub handed : {T : Type 0} (from to : List ℕ) (there : Option (List ℕ)) (loose now : List ℕ → Type 0) (result : Result T FolderFault) → OnOk result (there ≢ None)
    → OnOk result ((q : List ℕ) → now q → loose_moved there from to loose q) → OnOk result ((q : List ℕ) → now q → handed_on from to loose q)
handed from to there loose now (Err e) here h = tt
handed from to None loose now (Ok x) here h = absurd (here refl)
handed from to (Some bytes) loose now (Ok x) here h = h

synced_at : {T : Type 0} (path : List ℕ) (old new : Memory) (result : Result T FolderFault) → OnOk result (history new ≡ with_call (history old) (Syncs path) Done)
    → OnOk result (IsSynced memory_meaning path old new)
synced_at path old new (Err e) h = tt
synced_at path old new (Ok x) h = record {
  only = λ m s. subst (λ (f : Files). IsSpread (firmed path (loose_of old)) f m) (left-files old.calls (at_opening (from_entries old.begun))) (maps_now old new (Syncs path) Done h m s);
  firm = λ q l. loose_now old new (Syncs path) Done h q l;
}

-- what a sync has left
pub synced : {T : Type 0} (path : Memory → List ℕ) (fate : Option ℕ) (was old new : Memory) (result : Result T FolderFault) → was ≡ old
    → Goes (Syncs (path was)) (end_of fate true) (history was) (history new) result → OnOk result (IsSynced memory_meaning (path old) old new)
synced path fate was old new result is goes =
    subst (λ (m : Memory). OnOk result (IsSynced memory_meaning (path m) m new)) is
    (synced_at (path was) was new result (whole_call (Syncs (path was)) true fate was new result goes))

names_at : {T : Type 0} (dir : List ℕ) (old new : Memory) (result : Result T FolderFault) → OnOk result (history new ≡ with_call (history old) (SyncsNames dir) Done)
    → OnOk result (AreSynced memory_meaning dir old new)
names_at dir old new (Err e) h = tt
names_at dir old new (Ok x) h = λ m s.
    let now = maps_now old new (SyncsNames dir) Done h m s in
    let start = at_opening (from_entries old.begun) in (
      LostSince-now old.calls (length old.calls) start m (omega arith) now.0,
      subst (λ (f : Files). HasNames dir (loose_of old) f m) (left-files old.calls start) now.1,
    )

-- what a sync of a folder's names has left
pub names_synced : {T : Type 0} (dir : List ℕ) (found : Bool) (fate : Option ℕ) (was old new : Memory) (result : Result T FolderFault) → was ≡ old
    → Goes (SyncsNames dir) (end_of fate found) (history was) (history new) result → OnOk result (AreSynced memory_meaning dir old new)
names_synced dir found fate was old new result is goes =
    subst (λ (m : Memory). OnOk result (AreSynced memory_meaning dir m new)) is
    (names_at dir was new result (whole_call (SyncsNames dir) found fate was new result goes))
