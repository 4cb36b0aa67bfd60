-- Why a folder's calls fail.
use Rattle.std.proofs.Common.{◌≡◌, ◌⊎◌, inl, inr, [], ◌∷◌, ◌++◌, Option, Some, None, Result, Ok, Err, refl, sym, ◌∙◌, ap, subst}
use Rattle.std.specs.Prelude.{IfErr, IsErrAnd, MatchResult}
use Rattle.std.specs.IoError.{error_kind}
use Rattle.std.specs.declared.io.Error.{Error}
use Rattle.std.specs.declared.io.ErrorKind.{ErrorKind}
use Rattle.lru_folder.specs.declared.fault.FolderFault.{FolderFault}
use Rattle.lru_host_folder.specs.declared.host_open.HostOpen.{HostOpen}
use Rattle.lru_host_folder.specs.declared.host_open.HostOpen.TheVariants.{Closed, Writing, Reading}
use Rattle.lru_host_folder.specs.Calls.{Book, Done, Fails, after, Closes}
use Rattle.lru_host_folder.specs.Steps.{fault_of, let_go, shut, HasReason}
use Rattle.lru_host_folder.proofs.FailsLemmas.{after-append, before}
use Rattle.lru_host_folder.proofs.TrailLemmas.{Trail}

module _ {F T : Type 0} (book : Book F T) where
  pub shut_trail : (file : HostOpen T) (old new : book.Noted) → new ≡ shut book file old → Trail book old new
  shut_trail Closed old new e = ([], e)
  shut_trail (Writing file path) old new e = (Done (Closes (book.file_of file)) ∷ [], e)
  shut_trail (Reading file path) old new e = (Done (Closes (book.file_of file)) ∷ [], e)

  pub let_go_trail : (claimed : Option T) (old new : book.Noted) → new ≡ let_go book claimed old → Trail book old new
  let_go_trail None old new e = ([], e)
  let_go_trail (Some folder) old new e = (Done (Closes (book.file_of folder)) ∷ [], e)

  fails_behind : (kind : ErrorKind) (old mid new : book.Noted) → Fails book.note kind old mid → Trail book mid new → Fails book.note kind old new
  fails_behind kind old mid new f trail = record {
    before = f.before;
    event = f.event;
    behind = f.behind ++ trail.0;
    refused = f.refused;
    trail = trail.1 ∙ ap (λ m. after book.note m trail.0) f.trail ∙ sym (after-append book.note (book.note (after book.note old f.before) f.event) f.behind trail.0);
  }

  pub reason_before : (old mid new : book.Noted) (told : FolderFault) → Trail book old mid → HasReason book.note mid new told → HasReason book.note old new told
  reason_before old mid new told trail (inl memory) = inl memory
  reason_before old mid new told trail (inr (kind, (f, is))) = inr (kind, (before book.note kind old mid new trail.0 trail.1 f, is))

  reason_behind : (old mid new : book.Noted) (told : FolderFault) → HasReason book.note old mid told → Trail book mid new → HasReason book.note old new told
  reason_behind old mid new told (inl memory) trail = inl memory
  reason_behind old mid new told (inr (kind, (f, is))) trail = inr (kind, (fails_behind kind old mid new f trail, is))

  -- of a result
  pub reasons_before : {A : Type 0} (result : Result A FolderFault) (old mid new : book.Noted) → Trail book old mid → IfErr result (HasReason book.note mid new) → IfErr result (HasReason book.note old new)
  reasons_before (Ok x) old mid new trail r = tt
  reasons_before (Err e) old mid new trail r = reason_before old mid new e trail r

  pub reasons_behind : {A : Type 0} (result : Result A FolderFault) (old mid new : book.Noted) → IfErr result (HasReason book.note old mid) → Trail book mid new → IfErr result (HasReason book.note old new)
  reasons_behind (Ok x) old mid new r trail = tt
  reasons_behind (Err e) old mid new r trail = reason_behind old mid new e r trail

  -- what the system answered is told
  pub answered_reason : {A : Type 0} (opened : Result A Error) (told : Result A FolderFault) (old new : book.Noted)
      → MatchResult opened (λ x. told ≡ Ok x) (λ e. told ≡ Err (fault_of (error_kind e)))
      → IfErr opened (λ e. Fails book.note (error_kind e) old new) → IfErr told (HasReason book.note old new)
  answered_reason (Ok x) told old new is f = subst (λ (r : Result _ FolderFault). IfErr r (HasReason book.note old new)) (sym is) tt
  answered_reason (Err e) told old new is f = subst (λ (r : Result _ FolderFault). IfErr r (HasReason book.note old new)) (sym is) (inr (error_kind e, (f, inl refl)))

  -- what a step told is told
  pub reason_passed : {A B : Type 0} (step : Result A FolderFault) (result : Result B FolderFault) (told : FolderFault) (old new : book.Noted)
      → IsErrAnd result (λ e. e ≡ told) → step ≡ Err told → IfErr step (HasReason book.note old new) → IfErr result (HasReason book.note old new)
  reason_passed step (Ok x) told old new is was r = tt
  reason_passed step (Err e) told old new is was r =
      let here : HasReason book.note old new told = subst (λ (s : Result _ FolderFault). IfErr s (HasReason book.note old new)) was r in
      subst (λ (f : FolderFault). HasReason book.note old new f) (sym is) here

  pub reason_or : {A : Type 0} (P : FolderFault → Type 0) (result : Result A FolderFault) (old new : book.Noted) → IfErr result (HasReason book.note old new)
      → IfErr result (λ told. HasReason book.note old new told ⊎ P told)
  reason_or P (Ok x) old new r = tt
  reason_or P (Err e) old new r = inl r
