-- The events of steps that were done.
use Rattle.std.proofs.Common.{◌≡◌, ◌+◌, ℕ, zero, suc, inl, inr, Bool, true, false, cond, take, drop, subst, arith, Result, Ok, Err, List, [], ◌∷◌, ◌++◌, refl, sym, ◌∙◌, ap}
use Rattle.std.specs.Prelude.{MatchBool, MatchResult, OnOk}
use Rattle.std.specs.IoError.{error_kind}
use Rattle.std.specs.declared.io.Error.{Error}
use Rattle.std.specs.declared.io.ErrorKind.TheVariants as kind
use Rattle.lru_folder.specs.declared.fault.FolderFault.{FolderFault}
use Rattle.lru_host_folder.specs.Calls.{Book, Event, Done, Failed, Fails, after, SeesFile, Opens, Locks, Matches, Removes, Closes, Creates, MakesFolder, SeesFolder, SyncsFolder}
use Rattle.lru_host_folder.specs.Steps.{ends_name, fault_of, interrupted, place_of, way_to, AreMade, IsCleared, IsCreation, IsMade}
use Rattle.lru_host_folder.proofs.FailsLemmas.{after-append}

-- these events lead there
abbrev pub Trail : {F T : Type 0} → (book : Book F T) → book.Noted → book.Noted → Type 0
Trail book old new = (xs : List (Event book.Place)) × (new ≡ after book.note old xs)

pub joined : {F T : Type 0} (book : Book F T) (old mid new : book.Noted) → Trail book old mid → Trail book mid new → Trail book old new
joined book old mid new a b = (a.0 ++ b.0, b.1 ∙ ap (λ m. after book.note m b.0) a.1 ∙ sym (after-append book.note old a.0 b.0))

failing_trail : {F T : Type 0} (book : Book F T) (old new : book.Noted) → Fails book.note kind.NotFound old new → Trail book old new
failing_trail book old new f =
    joined book old (after book.note old f.before) new (f.before, refl) (f.event ∷ f.behind, f.trail)

pub cleared_trail : {F T : Type 0} (book : Book F T) (path : List ℕ) (old new : book.Noted) → IsCleared book path old new → Trail book old new
cleared_trail book path old new (inl (inl e)) = (Done (SeesFile path false) ∷ Done (Removes path) ∷ [], e)
cleared_trail book path old new (inl (inr e)) = (
  Done (SeesFile path true) ∷ Done (Opens path) ∷ Done (Locks (book.at_path path) true) ∷ Done (Matches (book.at_path path) path true) ∷ Done (Removes path) ∷ Done (Closes (book.at_path path)) ∷ [],
  e,
)
cleared_trail book path old new (inr f) = failing_trail book old new f

pub creation_trail : {F T : Type 0} (book : Book F T) (path : List ℕ) (old new : book.Noted) → IsCreation book path old new → Trail book old new
creation_trail book path old new (inl e) = (Done (Creates path) ∷ [], e)
creation_trail book path old new (inr (mid, (cleared, e))) =
    joined book old (book.note old (Failed kind.AlreadyExists)) new (Failed kind.AlreadyExists ∷ [], refl)
    (joined book (book.note old (Failed kind.AlreadyExists)) mid new (cleared_trail book path (book.note old (Failed kind.AlreadyExists)) mid cleared) (Done (Creates path) ∷ [], e))

-- what was answered Ok was so by the system
pub answered : {T : Type 0} (P : Type 0) (result : Result T Error) (told : Result T FolderFault) (value : T)
    → MatchResult result (λ x. told ≡ Ok x) (λ e. told ≡ Err (fault_of (error_kind e))) → told ≡ Ok value → OnOk result P → P
answered P (Ok x) told value is ok done = done
answered P (Err e) told value is ok done = absurd (let f : ⊥ = cc in f)

-- reads that were interrupted
pub interrupted_trail : {F T : Type 0} (book : Book F T) (n : ℕ) (old new : book.Noted) → new ≡ interrupted book.note n old → Trail book old new
interrupted_trail book zero old new e = ([], e)
interrupted_trail book (suc n) old new e =
    joined book old (interrupted book.note n old) new (interrupted_trail book n old (interrupted book.note n old) refl) (Failed kind.Interrupted ∷ [], e)

made_trail : {F T : Type 0} (book : Book F T) (dir : List ℕ) (old new : book.Noted) → IsMade book dir old new → Trail book old new
made_trail book dir old new (inl e) = (Done (MakesFolder dir) ∷ Done (SyncsFolder (place_of dir)) ∷ [], e)
made_trail book dir old new (inr e) = (Failed kind.AlreadyExists ∷ Done (SeesFolder dir true) ∷ [], e)

pub are_made_trail : {F T : Type 0} (book : Book F T) (dirs : List (List ℕ)) (old new : book.Noted) → AreMade book dirs old new → Trail book old new
are_made_trail book [] old new e = ([], e)
are_made_trail book (dir ∷ dirs) old new (mid, (made, rest)) = joined book old mid new (made_trail book dir old mid made) (are_made_trail book dirs mid new rest)

AreMade-append : {F T : Type 0} (book : Book F T) (xs ys : List (List ℕ)) (old mid new : book.Noted) → AreMade book xs old mid → AreMade book ys mid new → AreMade book (xs ++ ys) old new
AreMade-append book [] ys old mid new e made = subst (λ (m : book.Noted). AreMade book ys m new) e made
AreMade-append book (x ∷ xs) ys old mid new (next, (one, rest)) made = (next, (one, AreMade-append book xs ys next mid new rest made))

at_place : {F T : Type 0} (book : Book F T) (ends : Bool) (dir : List ℕ) (old new : book.Noted) → MatchBool ends (IsMade book dir old new) (new ≡ old)
    → AreMade book (cond ends (dir ∷ []) []) old new
at_place book true dir old new made = (new, (made, refl))
at_place book false dir old new same = same

-- the folders whose names end up to the next place
pub made_further : {F T : Type 0} (book : Book F T) (dir : List ℕ) (at : ℕ) (old mid new : book.Noted) → AreMade book (way_to dir at) old mid
    → MatchBool (ends_name (take (at + 1) dir) (drop (at + 1) dir)) (IsMade book (take (at + 1) dir) mid new) (new ≡ mid) → AreMade book (way_to dir (at + 1)) old new
made_further book dir at old mid new made one =
    let next : suc at ≡ at + 1 = omega arith in
    let here = subst (λ (n : ℕ). MatchBool (ends_name (take n dir) (drop n dir)) (IsMade book (take n dir) mid new) (new ≡ mid)) (sym next) one in
    subst (λ (n : ℕ). AreMade book (way_to dir n) old new) next
    (AreMade-append book (way_to dir at) _ old mid new made (at_place book (ends_name (take (suc at) dir) (drop (suc at) dir)) (take (suc at) dir) mid new here))
