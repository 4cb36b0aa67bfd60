-- The slips of what a batch evicts.
use Rattle.std.proofs.Common.{◌≡◌, ℕ, true, false, cond, Bool, List, [], ◌∷◌, ◌++◌, map, Some, None, refl, sym, ap, ◌∙◌, subst, arith, append-nil}
use Rattle.std.specs.Prelude.{All, Option, option_to_list}
use Rattle.std.proofs.lemmas.List.{map-append}
use Rattle.std.proofs.lemmas.List.Elements.{All-head, All-tail}
use Rattle.std.specs.Option.{ForSome}
use Rattle.lru_short_locks.proofs.Hands.{none_some, some_same}
use Rattle.lru_boxes.specs.declared.seats.PutSeat.{PutSeat}
use Rattle.lru_boxes.specs.declared.tie.BoxRegistry.{Ghosts}
use Rattle.lru_workers.specs.Seats.{slips_at}
use Rattle.lru_shard.specs.Row.{Row}
use Rattle.lru_mailbox.specs.declared.slip.Slip.{Slip}
use Rattle.lru_mailbox.specs.Ledger.{Book, slip_put}
use Rattle.lru_mailbox.specs.Dispatching.{IsPut}
use Rattle.lru_actors.specs.declared.message.LruMsg.{LruMsg}
use Rattle.lru_actors.specs.declared.message.LruMsg.TheVariants.{Admit, IncrementWeight, Promote, Remove, InsertTail, Evict, PeekLru, Snapshot, QueryWeight}
use Rattle.lru_actors.specs.declared.effect.Effect.{Effect}
use Rattle.lru_actors.specs.Turns.{turn, sent, rows_after}
use Rattle.lru_inbox.proofs.Steps.{turns_by}
use Rattle.lru_workers.specs.Accounts.{evicted_row, row_leaving, rows_evicted, row_of_slip}
use Rattle.lru_workers.specs.Batch.{evicts_none, AddsSlips}

same_cond : {A : Type 0} (b : Bool) → cond {A = List A} b [] [] ≡ []
same_cond true = refl
same_cond false = refl

module _ {K : Type 0} where
  none_leaves : (rows : List (Row K)) (m : LruMsg K) → evicts_none m ≡ true → evicted_row rows m ≡ None
  none_leaves rows (Admit _ _ _) e = refl
  none_leaves rows (IncrementWeight _ _ _ _) e = refl
  none_leaves rows (Promote _) e = refl
  none_leaves rows (Remove _) e = refl
  none_leaves rows (InsertTail _ _ _) e = refl
  none_leaves rows Evict e = cc
  none_leaves rows PeekLru e = refl
  none_leaves rows Snapshot e = refl
  none_leaves rows QueryWeight e = refl

  none_evicted : (rows : List (Row K)) (msgs : List (LruMsg K)) (es : List (Effect K)) → All (λ m. evicts_none m ≡ true) msgs → rows_evicted rows (turns_by msgs es) ≡ []
  none_evicted rows [] es h = refl
  none_evicted rows (m ∷ ms) [] h = refl
  none_evicted rows (m ∷ ms) (e ∷ es) h =
      ap (λ o. cond e.refused [] (option_to_list o) ++ rows_evicted (rows_after rows (turn (sent None m) e)) (turns_by ms es)) (none_leaves rows m (h 0 m (omega arith)))
      ∙ ap (λ l. l ++ rows_evicted (rows_after rows (turn (sent None m) e)) (turns_by ms es)) (same_cond e.refused)
      ∙ none_evicted (rows_after rows (turn (sent None m) e)) ms es (All-tail (λ x. evicts_none x ≡ true) m ms h)

  -- a batch that evicts none leaves the slips as they are
  pub none_added : (rows : List (Row K)) (msgs : List (LruMsg K)) (es : List (Effect K)) (slips : Option (List Slip)) → All (λ m. evicts_none m ≡ true) msgs → AddsSlips rows msgs es slips slips
  none_added rows msgs es slips h = λ ss e. (ss, e, sym (append-nil (map row_of_slip ss)) ∙ ap (λ l. map row_of_slip ss ++ l) (sym (none_evicted rows msgs es h)))

-- a pair that is put has its slip
pub put_slip : {K : Type 0} (old : Book K) (share : List Slip) (hash : ℕ) (key : K) (weight : ℕ) (new : Book K) (share' : List Slip) → IsPut old share hash key weight new share' → map row_of_slip share' ≡ map row_of_slip share ++ (hash, weight) ∷ []
put_slip old share hash key weight new share' p = ap (map row_of_slip) p.slips ∙ map-append row_of_slip share (slip_put old hash weight ∷ [])

-- the first of these, if there is one, and the rest
module _ {A : Type 0} (P : A → Type 0) where
  pub first_of : (xs ys : List A) (o : Option A) → xs ≡ option_to_list o ++ ys → All P xs → ForSome o P
  first_of xs ys None is h = λ x e. absurd (none_some x e)
  first_of xs ys (Some s) is h = λ x e. subst P (some_same s x e) (All-head P s ys (subst (All P) is h))

  pub rest_of : (xs ys : List A) (o : Option A) → xs ≡ option_to_list o ++ ys → All P xs → All P ys
  rest_of xs ys None is h = subst (All P) is h
  rest_of xs ys (Some s) is h = All-tail P s ys (subst (All P) is h)

pub slips_of_first : {B : Type 0} {R : Ghosts B} (seat : Option (PutSeat B R)) → ForSome seat (λ s. s.share.slips ≡ []) → ForSome (slips_at seat) (λ slips. slips ≡ [])
slips_of_first None h = λ x e. absurd (none_some x e)
slips_of_first (Some s) h = λ x e. sym (some_same s.share.slips x e) ∙ h s refl
