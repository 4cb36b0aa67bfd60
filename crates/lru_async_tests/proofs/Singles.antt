-- A box with one share of each kind stays tied to them.
use Rattle.std.proofs.Common.{◌≡◌, ℕ, List, [], ◌∷◌, ◌++◌, Some, None, Ok, Err, refl, sym, subst}
use Rattle.std.specs.Prelude.{Option, Result}
use Rattle.std.specs.declared.alloc.AllocError.{AllocError}
use Rattle.lru_mailbox.specs.declared.mail_error.MailError.{MailError}
use Rattle.lru_mailbox.specs.declared.mail_error.MailError.TheVariants.{Memory, Closed, Waiting}
use Rattle.lru_mailbox.specs.declared.slip.Slip.{Slip}
use Rattle.lru_mailbox.specs.Slips.{Share}
use Rattle.lru_mailbox.specs.Ledger.{Book, Stock, Puts, Takes, IsTied, book_of, put}
use Rattle.lru_mailbox.proofs.TieLaws.{put_tied, take_tied}

tied_by : (b c : Book ℕ) (xs ys us vs : List Slip) → c ≡ b → ys ≡ xs → vs ≡ us → IsTied b (xs ∷ []) (us ∷ []) → IsTied c (ys ∷ []) (vs ∷ [])
tied_by b c xs ys us vs e f h t = subst (λ z. IsTied z (ys ∷ []) (vs ∷ [])) (sym e) (subst (λ z. IsTied b (z ∷ []) (vs ∷ [])) (sym f) (subst (λ z. IsTied b (xs ∷ []) (z ∷ [])) (sym h) t))

pub put_single : (old new : Stock ℕ) (share after taker : Share) (hash key weight : ℕ) (answer : Result (Unit {0}) (MailError ℕ)) → Puts old share hash key weight answer new after
    → IsTied old.book (share.slips ∷ []) (taker.slips ∷ []) → IsTied new.book (after.slips ∷ []) (taker.slips ∷ [])
put_single old new share after taker hash key weight (Ok _) p t =
    tied_by (put old.book hash key weight) new.book _ after.slips taker.slips taker.slips p.0 p.1 refl
    (put_tied old.book hash key weight (share.slips ∷ []) (taker.slips ∷ []) 0 share.slips refl t)
put_single old new share after taker hash key weight (Err (Memory held)) p t = tied_by old.book new.book share.slips after.slips taker.slips taker.slips p.2 p.3 refl t
put_single old new share after taker hash key weight (Err (Closed held)) p t = absurd p
put_single old new share after taker hash key weight (Err (Waiting held)) p t = absurd p

pub take_single : (old new : Book ℕ) (putter share after : Share) (answer : Result (Option (Slip × ℕ)) AllocError) → Takes old share answer new after
    → IsTied old (putter.slips ∷ []) (share.slips ∷ []) → IsTied new (putter.slips ∷ []) (after.slips ∷ [])
take_single old new putter share after (Ok None) p t = tied_by old new putter.slips putter.slips share.slips after.slips p.1 refl p.2 t
take_single old new putter share after (Ok (Some pair)) p t =
    tied_by (book_of new.waiting old.lost old.next old.closed) new putter.slips putter.slips _ after.slips p.1 refl p.2
    (take_tied old pair new.waiting p.0 (putter.slips ∷ []) (share.slips ∷ []) 0 share.slips refl t)
take_single old new putter share after (Err e) p t = tied_by old new putter.slips putter.slips share.slips after.slips p.1 refl p.2 t
