-- One call more of a folder in memory.
use Rattle.std.proofs.Common.{◌≡◌, ◌≢◌, inl, inr, ◌<◌, ◌≤◌, ℕ, zero, suc, Bool, true, false, List, [], ◌∷◌, ◌++◌, length, take, drop, Option, Some, None, Result, Ok, Err, is_some, is_ok, MatchOption, refl, sym, ◌∙◌, ap, subst, arith, length-append, Vec, Global}
use Rattle.std.specs.Prelude.{IsErrOf, IfOk, OnOk, MatchResult, unwrap_or}
use Rattle.std.specs.FinMap.{get, from_entries}
use Rattle.std.specs.FinSet.{from_list}
use Rattle.lru_memory_folder.specs.declared.calls.End.{End}
use Rattle.lru_memory_folder.specs.declared.calls.End.TheVariants.{Done, NotFound, Failed}
use Rattle.lru_memory_folder.specs.declared.open.Open.{Open}
use Rattle.lru_memory_folder.specs.declared.open.Open.TheVariants as shut
use Rattle.lru_folder.specs.declared.fault.FolderFault.{FolderFault}
use Rattle.lru_folder.specs.declared.fault.FolderFault.TheVariants as fault
use Rattle.lru_folder.specs.Files.{Files, bytes_at}
use Rattle.lru_folder.specs.Folder.{Passes, Reads, Reading}
use Rattle.lru_memory_folder.specs.Calls.{Deed, Looks, Noted, whole, begun, ended, effect, PartOf, StoppedSince}
use Rattle.lru_memory_folder.specs.History.{History, files_left, with_call, end_of, Tells, Goes}
use Rattle.lru_memory_folder.specs.OpenInside.{opened_in}
use Rattle.lru_memory_folder.specs.Plans.{fate, MovesOn, IsMadeToFail, GoesAsPlanned}
use Rattle.lru_memory_folder.proofs.CallsLemmas.{after-push, no_part, PartOf-ended, StoppedSince-push, StoppedSince-stays}
use Rattle.lru_memory_folder.specs.Memory.{Memory, files_of, stopped_since_of}
use Rattle.lru_memory_folder.specs.MemoryLaws.{memory_meaning}

-- the files after a call
pub files_after : (h : History) (deed : Deed) (end : End) → files_left (with_call h deed end) ≡ effect (record { deed = deed; end = end }) (files_left h)
files_after h deed end = after-push h.calls (record { deed = deed; end = end }) (from_entries h.begun)

-- the history of a folder in memory
abbrev pub history : Memory → History
history m = record { begun = m.begun; calls = m.calls }

-- time has gone on by that call
noted_passes : (old new : Memory) (deed : Deed) (end : End) → history new ≡ with_call (history old) deed end
    → Passes memory_meaning (PartOf deed) old new
noted_passes old new deed end is =
    let start = from_entries old.begun in
    let n : Noted = record { deed = deed; end = end } in
    let pushed : new.calls ≡ old.calls ++ n ∷ [] = ap (λ (h : History). h.calls) is in
    let stops : (t : ℕ) (m : Files) → stopped_since_of new t m ≡ StoppedSince (old.calls ++ n ∷ []) t start m = λ t m i. StoppedSince ((is i).calls) t (from_entries ((is i).begun)) m in
    record {
      later = omega (arith, ap length pushed, length-append old.calls (n ∷ []));
      nothing_else = λ t m le s. StoppedSince-push old.calls n t start m le (subst (λ (A : Type 0). A) (stops t m) s);
      stays = λ t m le s. subst (λ (A : Type 0). A) (sym (stops t m)) (StoppedSince-stays old.calls n t start m le s);
      leaves = subst (PartOf deed (files_of old)) (sym (ap files_left is ∙ files_after (history old) deed end)) (PartOf-ended deed end (files_of old));
    }

still_passes : (old new : Memory) (deed : Deed) → history new ≡ history old → Passes memory_meaning (PartOf deed) old new
still_passes old new deed is =
    let stops : (t : ℕ) (m : Files) → stopped_since_of new t m ≡ stopped_since_of old t m = λ t m i. StoppedSince ((is i).calls) t (from_entries ((is i).begun)) m in
    record {
      later = omega (arith, ap (λ (h : History). length h.calls) is);
      nothing_else = λ t m le s. inl (subst (λ (A : Type 0). A) (stops t m) s);
      stays = λ t m le s. subst (λ (A : Type 0). A) (sym (stops t m)) s;
      leaves = subst (PartOf deed (files_of old)) (sym (ap files_left is)) (no_part deed (files_of old));
    }

goes_passes : {T : Type 0} (deed : Deed) (end : End) (old new : Memory) (result : Result T FolderFault) → Goes deed end (history old) (history new) result
    → Passes memory_meaning (PartOf deed) old new
goes_passes deed end old new result (inl noted) = noted_passes old new deed end noted.0
goes_passes deed end old new result (inr refused) = still_passes old new deed refused.0

-- a call passes, however it goes
pub passes : {T : Type 0} (deed : Memory → Deed) (end : End) (was old new : Memory) (result : Result T FolderFault) → was ≡ old
    → Goes (deed was) end (history was) (history new) result → Passes memory_meaning (PartOf (deed old)) old new
passes deed end was old new result is goes =
    subst (λ (m : Memory). Passes memory_meaning (PartOf (deed m)) m new) is (goes_passes (deed was) end was new result goes)

-- an answer tells how the call ended
not_io : {T : Type 0} (found : Bool) (result : Result T FolderFault) → Tells (end_of None found) result → result ≡ Err fault.Io → ⊥
not_io true (Ok x) tells e = cc
not_io true (Err x) tells e = cc
not_io false result tells e = cc

pub ended_well : {T : Type 0} (fate : Option ℕ) (found : Bool) (result : Result T FolderFault) → is_ok result ≡ true → Tells (end_of fate found) result → end_of fate found ≡ Done
ended_well None true result ok tells = refl
ended_well None false result ok tells = absurd (let e = ap is_ok tells in let f : ⊥ = cc in f)
ended_well (Some part) found result ok tells = absurd (let e = ap is_ok tells in let f : ⊥ = cc in f)

was_found : (fate : Option ℕ) (found : Bool) → end_of fate found ≡ Done → found ≡ true
was_found None true e = refl
was_found None false e = absurd (let f : ⊥ = cc in f)
was_found (Some part) found e = absurd (let f : ⊥ = cc in f)

did_all : {T : Type 0} (deed : Deed) (found : Bool) (fate : Option ℕ) (old : Memory) (new : History) (result : Result T FolderFault)
    → Goes deed (end_of fate found) (history old) new result → OnOk result ((found ≡ true) × (files_left new ≡ whole deed (files_of old)))
did_all deed found fate old new (Err e) goes = tt
did_all deed found fate old new (Ok x) (inr refused) = absurd (let f : ⊥ = let e = refused.1 in cc in f)
did_all deed found fate old new (Ok x) (inl noted) =
    let result : Result _ FolderFault = Ok x in
    let done = ended_well fate found result refl noted.1 in
    (was_found fate found done, ap files_left noted.0 ∙ files_after (history old) deed (end_of fate found) ∙ ap (λ (end : End). ended deed end (files_of old)) done)

-- where a call was answered, what it asks for was there, and all of it was done
pub did : {T : Type 0} (deed : Memory → Deed) (found : Memory → Bool) (fate : Option ℕ) (was old : Memory) (new : History) (result : Result T FolderFault) → was ≡ old
    → Goes (deed was) (end_of fate (found was)) (history was) new result → OnOk result ((found old ≡ true) × (files_left new ≡ whole (deed old) (files_of old)))
did deed found fate was old new result is goes =
    subst (λ (m : Memory). OnOk result ((found m ≡ true) × (files_left new ≡ whole (deed m) (files_of m)))) is (did_all (deed was) (found was) fate was new result goes)

not_looked : (end : End) (m : Files) → ended Looks end m ≡ m
not_looked Done m = refl
not_looked NotFound m = refl
not_looked (Failed part) m = refl

-- a look leaves the files
pub looked : {T : Type 0} (end : End) (old new : History) (result : Result T FolderFault) → Goes Looks end old new result → files_left new ≡ files_left old
looked end old new result (inl noted) = ap files_left noted.0 ∙ files_after old Looks end ∙ not_looked end (files_left old)
looked end old new result (inr refused) = ap files_left refused.0

planned_at : {T : Type 0} (front : ℕ → Files → Files) (deed : Deed) (found : Bool) (fated : Option ℕ) (old new : Memory) (result : Result T FolderFault)
    → ((part : ℕ) (m : Files) → begun deed part m ≡ front part m) → (is_some fated ≡ true → new.made ≡ old.made)
    → Goes deed (end_of fated found) (history old) (history new) result
    → MatchOption fated (¬ IsErrOf result fault.Io) (λ part. IsMadeToFail (front part (files_of old)) old new result)
planned_at front deed found None old new result fronts spared (inl noted) = not_io found result noted.1
planned_at front deed found None old new result fronts spared (inr refused) = λ io. let e = refused.1 in cc
planned_at front deed found (Some part) old new result fronts spared (inl noted) = record {
  answer = inl (noted.1, ap files_left noted.0 ∙ files_after (history old) deed (Failed part) ∙ fronts part (files_of old));
  folders = ap from_list (spared refl);
}
planned_at front deed found (Some part) old new result fronts spared (inr refused) = record {
  answer = inr (refused.1, ap files_left refused.0);
  folders = ap from_list (spared refl);
}

-- a call goes as planned
pub planned : {T : Type 0} (front : Memory → ℕ → Files → Files) (deed : Memory → Deed) (found : Bool) (fated : Option ℕ) (was old new : Memory) (result : Result T FolderFault)
    → was ≡ old → ((part : ℕ) (m : Files) → begun (deed was) part m ≡ front was part m) → (is_some fated ≡ true → new.made ≡ was.made)
    → fated ≡ fate was.plan 0 → MovesOn was.plan new.plan → Goes (deed was) (end_of fated found) (history was) (history new) result → GoesAsPlanned (front old) old new result
planned front deed found fated was old new result is fronts spared here moved goes =
    let P = ¬ IsErrOf result fault.Io in
    let Q : ℕ → Type 0 = λ part. IsMadeToFail (front was part (files_of was)) was new result in
    subst (λ (m : Memory). GoesAsPlanned (front m) m new result) is (record {
      counted = moved;
      fails = subst (λ (o : Option ℕ). MatchOption o P Q) here (planned_at (front was) (deed was) found fated was new result fronts spared goes);
    })

-- a path that has bytes is there
pub is_here : (m : Files) (path : List ℕ) → is_some (get m path) ≡ true → get m path ≢ None
is_here m path here none = let e = ap is_some none in cc

bytes_are : (bytes : Option (List ℕ)) → is_some bytes ≡ true → bytes ≡ Some (unwrap_or bytes [])
bytes_are None here = absurd (let f : ⊥ = cc in f)
bytes_are (Some bytes) here = refl

-- of what was answered, and of the file that is open then
pub with_mode : {T : Type 0} (P Q R S : Type 0) (result : Result T FolderFault) → OnOk result (P × Q) → MatchResult result (λ _. R) (λ _. S) → OnOk result (P × Q × R)
with_mode P Q R S (Ok x) both mode = (both.0, both.1, mode)
with_mode P Q R S (Err e) both mode = tt

pub on_ok : {T : Type 0} (P Q : Type 0) (result : Result T FolderFault) → (P → Q) → OnOk result P → OnOk result Q
on_ok P Q (Ok x) f p = f p
on_ok P Q (Err e) f p = tt

opens_at : (found : Bool) (fated : Option ℕ) (path : List ℕ) (old : Memory) (new : History) (open_file : Open) (result : Result ℕ FolderFault) → found ≡ is_some (get (files_of old) path)
    → Goes Looks (end_of fated found) (history old) new result → IfOk result (λ len. len ≡ length (bytes_at (files_of old) path))
    → MatchResult result (λ _. opened_in (files_of old) open_file ≡ Reading (bytes_at (files_of old) path)) (λ _. open_file ≡ shut.Closed)
    → IfOk result (λ len. (bytes : List ℕ) × (get (files_of old) path ≡ Some bytes) × (len ≡ length bytes) × (opened_in (files_left new) open_file ≡ Reading bytes))
opens_at found fated path old new open_file (Err e) is goes len mode = tt
opens_at found fated path old new open_file (Ok n) is goes len mode =
    let result : Result ℕ FolderFault = Ok n in
    let here = did_all Looks found fated old new result goes in
    (bytes_at (files_of old) path, bytes_are (get (files_of old) path) (sym is ∙ here.0), len, ap (λ (f : Files). opened_in f open_file) here.1 ∙ mode)

-- the file that a call opened
pub opens : (fated : Option ℕ) (path : List ℕ) (was old : Memory) (new : History) (open_file : Open) (result : Result ℕ FolderFault) → was ≡ old
    → Goes Looks (end_of fated (is_some (get (files_of was) path))) (history was) new result → IfOk result (λ len. len ≡ length (bytes_at (files_of was) path))
    → MatchResult result (λ _. opened_in (files_of was) open_file ≡ Reading (bytes_at (files_of was) path)) (λ _. open_file ≡ shut.Closed)
    → IfOk result (λ len. (bytes : List ℕ) × (get (files_of old) path ≡ Some bytes) × (len ≡ length bytes) × (opened_in (files_left new) open_file ≡ Reading bytes))
opens fated path was old new open_file result is goes len mode =
    subst (λ (m : Memory). IfOk result (λ len. (bytes : List ℕ) × (get (files_of m) path ≡ Some bytes) × (len ≡ length bytes) × (opened_in (files_left new) open_file ≡ Reading bytes))) is
    (opens_at (is_some (get (files_of was) path)) fated path was new open_file result refl goes len mode)

cut_again : (max : ℕ) (xs : List ℕ) → xs ≡ take max xs ++ drop (length (take max xs)) xs
cut_again zero xs = refl
cut_again (suc max) [] = refl
cut_again (suc max) (x ∷ xs) = ap (λ l. x ∷ l) (cut_again max xs)

short : (max : ℕ) (xs : List ℕ) → length (take max xs) ≤ max
short zero xs = omega arith
short (suc max) [] = omega arith
short (suc max) (x ∷ xs) = omega (arith, short max xs)

at_end : (max : ℕ) (xs : List ℕ) → 0 < max → take max xs ≡ [] → xs ≡ []
at_end zero xs pos none = absurd (omega arith)
at_end (suc max) [] pos none = refl
at_end (suc max) (x ∷ xs) pos none = absurd (let f : ⊥ = cc in f)

-- the next bytes, and what is left behind them
reads_on : (max : ℕ) (left piece : List ℕ) → piece ≡ take max left → Reads max left piece (drop (length piece) left)
reads_on max left piece is = record {
  parts = subst (λ p. left ≡ p ++ drop (length p) left) (sym is) (cut_again max left);
  fits = subst (λ p. length p ≤ max) (sym is) (short max left);
  end = λ pos none. at_end max left pos (sym is ∙ none);
}

-- the bytes that were read
pub reads : (max : ℕ) (left : List ℕ) (old new : Files) (open_file : Open) (result : Result (Vec ℕ Global) FolderFault) → new ≡ old
    → IfOk result (λ piece. piece.items ≡ take max left) → IfOk result (λ piece. opened_in old open_file ≡ Reading (drop (length piece.items) left))
    → IfOk result (λ piece. (rest : List ℕ) × (opened_in new open_file ≡ Reading rest) × Reads max left piece.items rest)
reads max left old new open_file (Err e) same is rest = tt
reads max left old new open_file (Ok piece) same is rest =
    (drop (length piece.items) left, ap (λ (f : Files). opened_in f open_file) same ∙ rest, reads_on max left piece.items is)
