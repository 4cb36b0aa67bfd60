-- Calls of the system that fail.
use Rattle.std.proofs.Common.{◌≡◌, List, [], ◌∷◌, ◌++◌, Some, Result, Ok, Err, refl, sym, ◌∙◌, ap, subst}
use Rattle.std.specs.Prelude.{IsErrAnd, IfErr, MatchResult}
use Rattle.std.specs.IoError.{error_kind}
use Rattle.std.specs.declared.io.Error.{Error}
use Rattle.std.specs.declared.io.ErrorKind.{ErrorKind}
use Rattle.lru_host_folder.specs.Calls.{Event, Failed, Fails, after, refusal}

module _ {N M : Type 0} (note : M → Event N → M) where
  pub after-append : (m : M) (xs ys : List (Event N)) → after note m (xs ++ ys) ≡ after note (after note m xs) ys
  after-append m [] ys = refl
  after-append m (x ∷ xs) ys = after-append (note m x) xs ys

  -- an event that is a refusal
  pub refuses : (event : Event N) (kind : ErrorKind) (old new : M) → refusal event ≡ Some kind → new ≡ note old event → Fails note kind old new
  refuses event kind old new is e = record { before = []; event = event; behind = []; refused = is; trail = e }

  -- a call that failed
  pub failed : (kind : ErrorKind) (old new : M) → new ≡ note old (Failed kind) → Fails note kind old new
  failed kind old new e = refuses (Failed kind) kind old new refl e

  -- an answer that is a refusal, told by an error of the same kind
  pub refuses_as : (event : Event N) (kind : ErrorKind) (error : Error) (old new : M) → error_kind error ≡ kind → refusal event ≡ Some kind → new ≡ note old event
      → Fails note (error_kind error) old new
  refuses_as event kind error old new told is e = subst (λ (k : ErrorKind). Fails note k old new) (sym told) (refuses event kind old new is e)

  -- events before, and one behind
  pub before : (kind : ErrorKind) (old mid new : M) (xs : List (Event N)) → mid ≡ after note old xs → Fails note kind mid new → Fails note kind old new
  before kind old mid new xs e f = record {
    before = xs ++ f.before;
    event = f.event;
    behind = f.behind;
    refused = f.refused;
    trail = f.trail ∙ ap (λ m. after note (note m f.event) f.behind) (ap (λ m. after note m f.before) e ∙ sym (after-append old xs f.before));
  }

  pub behind : (kind : ErrorKind) (old mid new : M) (x : Event N) → Fails note kind old mid → new ≡ note mid x → Fails note kind old new
  behind kind old mid new x f e = record {
    before = f.before;
    event = f.event;
    behind = f.behind ++ x ∷ [];
    refused = f.refused;
    trail = e ∙ ap (λ m. note m x) f.trail ∙ sym (after-append (note (after note old f.before) f.event) f.behind (x ∷ []));
  }

  -- an error that is passed on
  pub passed_on : {T : Type 0} (result : Result T Error) (error : Error) (old new : M) → IsErrAnd result (λ e. e ≡ error) → Fails note (error_kind error) old new
      → IfErr result (λ e. Fails note (error_kind e) old new)
  passed_on (Ok x) error old new is f = tt
  passed_on (Err e) error old new is f = subst (λ (x : Error). Fails note (error_kind x) old new) (sym is) f

  -- the answer of a last call
  pub last : {T : Type 0} (P : T → Type 0) (result : Result T Error) (old mid new : M) (xs : List (Event N)) → mid ≡ after note old xs
      → MatchResult result P (λ e. new ≡ note mid (Failed (error_kind e))) → IfErr result (λ e. Fails note (error_kind e) old new)
  last P (Ok x) old mid new xs was is = tt
  last P (Err e) old mid new xs was is = before (error_kind e) old mid new xs was (failed (error_kind e) mid new is)

  -- the answer of steps at the end
  pub last_steps : {T : Type 0} (result : Result T Error) (old mid new : M) (xs : List (Event N)) → mid ≡ after note old xs
      → IfErr result (λ e. Fails note (error_kind e) mid new) → IfErr result (λ e. Fails note (error_kind e) old new)
  last_steps (Ok x) old mid new xs was is = tt
  last_steps (Err e) old mid new xs was is = before (error_kind e) old mid new xs was is

  -- the same with an event behind
  pub last_behind : {T : Type 0} (result : Result T Error) (old mid new : M) (x : Event N) → IfErr result (λ e. Fails note (error_kind e) old mid) → new ≡ note mid x
      → IfErr result (λ e. Fails note (error_kind e) old new)
  last_behind (Ok y) old mid new x f e = tt
  last_behind (Err error) old mid new x f e = behind (error_kind error) old mid new x f e

  -- the answer of a last call behind two rows of events
  pub last_after : {T : Type 0} (P : T → Type 0) (result : Result T Error) (old one mid new : M) (xs ys : List (Event N)) → one ≡ after note old xs → mid ≡ after note one ys
      → MatchResult result P (λ e. new ≡ note mid (Failed (error_kind e))) → IfErr result (λ e. Fails note (error_kind e) old new)
  last_after P result old one mid new xs ys a b is =
      last P result old mid new (xs ++ ys) (b ∙ ap (λ m. after note m ys) a ∙ sym (after-append old xs ys)) is
