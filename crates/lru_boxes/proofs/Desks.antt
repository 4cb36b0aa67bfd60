-- The calls of a desk keep it and its seats together; and what the seats tell in the end is what the desk knew.
use Rattle.std.proofs.Common.{◌≡◌, ◌⊎◌, ℕ, zero, suc, ◌+◌, ◌<◌, ◌≤◌, List, [], ◌∷◌, ◌++◌, length, map, refl, sym, ap, ◌∙◌, subst, inl, inr, arith, append-nil}
use Rattle.std.specs.Prelude.{slice_get, slice_set, Option, Some, Ok}
use Rattle.atomic_table.specs.Table.{Me}
use Rattle.lru_mailbox.specs.declared.slip.Slip.{Slip}
use Rattle.lru_mailbox.specs.Slips.{Every, Share}
use Rattle.lru_mailbox.specs.Ledger.{Book, Stock, book_of, seats_of, slip_put, put, shut, left, empty, Takes, IsTied}
use Rattle.lru_mailbox.proofs.TieLaws.{put_tied, take_tied, shut_tied, left_tied, fresh_tied}
use Rattle.lru_boxes.specs.declared.hand.SeatSlips.{SeatSlips}
use Rattle.lru_boxes.specs.declared.hand.DeskHand.{DeskHand}
use Rattle.lru_short_locks.specs.Hands.{up, Among}
use Rattle.lru_boxes.specs.Ties.{kept, hand, of_desk, of_seat, known, blank_lists, joined, Agrees, Shows}
use Rattle.lru_boxes.specs.Desks.{IsDesk}
use Rattle.lru_short_locks.proofs.Hands.{some_same, none_some, as_many}

set_length : {A : Type 0} (xs : List A) (k : ℕ) (y : A) → length (slice_set xs k y) ≡ length xs
set_length [] k y = refl
set_length (x ∷ xs) zero y = refl
set_length (x ∷ xs) (suc k) y = let ih = set_length xs k y in omega (arith, ih)

blank_length : (count : ℕ) → length (blank_lists count) ≡ count
blank_length zero = refl
blank_length (suc count) = let ih = blank_length count in omega (arith, ih)

blank_none : (count : ℕ) → Every (λ (l : List Slip). l ≡ []) (blank_lists count)
blank_none zero = tt
blank_none (suc count) = (refl, blank_none count)

module _ {K : Type 0} where
  -- a desk that is the same but for what its book was closed to
  pub desk_ended : (p t : ℕ) (old new : Stock K) (putting taking : Me (Unit {0}) DeskHand) → new.seats ≡ old.seats
      → IsTied new.book (known putting.0) (known taking.0) → IsDesk p t old putting taking → IsDesk p t new putting taking
  desk_ended p t old new putting taking seats tied d = record {
    putting_is = d.putting_is;
    taking_is = d.taking_is;
    putters_are = d.putters_are;
    takers_are = d.takers_are;
    seats = seats ∙ d.seats;
    tied = tied;
  }

  pub desk_shut : (p t : ℕ) (old new : Stock K) (putting taking : Me (Unit {0}) DeskHand) → new.seats ≡ old.seats → new.book ≡ shut old.book
      → IsDesk p t old putting taking → IsDesk p t new putting taking
  desk_shut p t old new putting taking seats book d =
      desk_ended p t old new putting taking seats (subst (λ (b : Book K). IsTied b (known putting.0) (known taking.0)) (sym book) (shut_tied _ _ _ d.tied)) d

  pub desk_left : (p t : ℕ) (old new : Stock K) (putting taking : Me (Unit {0}) DeskHand) → new.seats ≡ old.seats → new.book ≡ left old.book
      → IsDesk p t old putting taking → IsDesk p t new putting taking
  desk_left p t old new putting taking seats book d =
      desk_ended p t old new putting taking seats (subst (λ (b : Book K). IsTied b (known putting.0) (known taking.0)) (sym book) (left_tied _ _ _ d.tied)) d

  pub desk_put : (p t : ℕ) (old new : Stock K) (putting putting' taking : Me (Unit {0}) DeskHand) (hash : ℕ) (key : K) (weight n : ℕ) (slips : List Slip) (x : Slip)
      → new.seats ≡ old.seats → new.book ≡ put old.book hash key weight → x ≡ slip_put old.book hash weight → slice_get (known putting.0) n ≡ Some slips
      → putting' ≡ (of_desk (slice_set (known putting.0) n (slips ++ x ∷ [])), []) → IsDesk p t old putting taking → IsDesk p t new putting' taking
  desk_put p t old new putting putting' taking hash key weight n slips x seats book is at after d =
      let said : Slip = slip_put old.book hash weight in
      let lists : List (List Slip) = slice_set (known putting.0) n (slips ++ said ∷ []) in
      let e : putting' ≡ (of_desk lists, []) = after ∙ ap (λ (s : Slip). (of_desk (slice_set (known putting.0) n (slips ++ s ∷ [])), [])) is in
      subst (λ (m : Me (Unit {0}) DeskHand). IsDesk p t new m taking) (sym e) (record {
        putting_is = refl;
        taking_is = d.taking_is;
        putters_are = set_length (known putting.0) n (slips ++ said ∷ []) ∙ d.putters_are;
        takers_are = d.takers_are;
        seats = seats ∙ d.seats;
        tied = subst (λ (b : Book K). IsTied b lists (known taking.0)) (sym book) (put_tied old.book hash key weight (known putting.0) (known taking.0) n slips at d.tied);
      })

  pub desk_take : (p t : ℕ) (old new : Stock K) (putting taking taking' : Me (Unit {0}) DeskHand) (pair : Slip × K) (n : ℕ) (slips : List Slip)
      → new.seats ≡ old.seats → old.book.waiting ≡ pair ∷ new.book.waiting → new.book ≡ book_of new.book.waiting old.book.lost old.book.next old.book.closed
      → slice_get (known taking.0) n ≡ Some slips
      → taking' ≡ (of_desk (slice_set (known taking.0) n (slips ++ pair.0 ∷ [])), []) → IsDesk p t old putting taking → IsDesk p t new putting taking'
  desk_take p t old new putting taking taking' pair n slips seats first book at after d =
      let lists : List (List Slip) = slice_set (known taking.0) n (slips ++ pair.0 ∷ []) in
      subst (λ (m : Me (Unit {0}) DeskHand). IsDesk p t new putting m) (sym after) (record {
        putting_is = d.putting_is;
        taking_is = refl;
        putters_are = d.putters_are;
        takers_are = set_length (known taking.0) n (slips ++ pair.0 ∷ []) ∙ d.takers_are;
        seats = seats ∙ d.seats;
        tied = subst (λ (b : Book K). IsTied b (known putting.0) lists) (sym book) (take_tied old.book pair new.book.waiting first (known putting.0) (known taking.0) n slips at d.tied);
      })

  -- the same, from what a take answers
  pub desk_taking : (p t : ℕ) (old new : Stock K) (share share' : Share) (answer : Option (Slip × K)) (putting taking taking' : Me (Unit {0}) DeskHand) (pair : Slip × K) (n : ℕ) (slips : List Slip)
      → answer ≡ Some pair → Takes old.book share (Ok answer) new.book share' → new.seats ≡ old.seats → slice_get (known taking.0) n ≡ Some slips
      → taking' ≡ (of_desk (slice_set (known taking.0) n (slips ++ pair.0 ∷ [])), []) → IsDesk p t old putting taking → IsDesk p t new putting taking'
  desk_taking p t old new share share' answer putting taking taking' pair n slips is takes seats at after d =
      let taken = subst (λ (r : Option (Slip × K)). Takes old.book share (Ok r) new.book share') is takes in
      desk_take p t old new putting taking taking' pair n slips seats taken.0 taken.1 at after d

  pub desk_new : (p t putters takers : ℕ) (stock : Stock K) (putting taking : Me (Unit {0}) DeskHand) → p ≡ putters → t ≡ takers → stock.book ≡ empty → stock.seats ≡ seats_of putters takers
      → putting ≡ (of_desk (blank_lists putters), []) → taking ≡ (of_desk (blank_lists takers), []) → IsDesk p t stock putting taking
  desk_new p t putters takers stock putting taking ps ts book seats putting_is taking_is =
      subst (λ (m : Me (Unit {0}) DeskHand). IsDesk p t stock m taking) (sym putting_is)
      (subst (λ (m : Me (Unit {0}) DeskHand). IsDesk p t stock (of_desk (blank_lists putters), []) m) (sym taking_is)
      (record {
        putting_is = refl;
        taking_is = refl;
        putters_are = blank_length putters ∙ sym ps;
        takers_are = blank_length takers ∙ sym ts;
        seats = seats ∙ (λ i. seats_of (sym ps i) (sym ts i));
        tied = subst (λ (b : Book K). IsTied b (blank_lists putters) (blank_lists takers)) (sym book) (fresh_tied (blank_lists putters) (blank_lists takers) (blank_none putters) (blank_none takers));
      }))

map_twice : {A B C : Type 0} (f : A → B) (g : B → C) (xs : List A) → map g (map f xs) ≡ map (λ x. g (f x)) xs
map_twice f g [] = refl
map_twice f g (x ∷ xs) = ap (λ l. g (f x) ∷ l) (map_twice f g xs)

-- seats numbered in order, of which the desk knows what each has: so it knows nothing else
known_from : (from n : ℕ) (lists : List (List Slip)) (seats : List SeatSlips) → length lists ≡ n → map (λ (s : SeatSlips). s.number) seats ≡ up from n
    → ((s : SeatSlips) → Among s seats → (k : ℕ) → s.number ≡ from + k → slice_get lists k ≡ Some s.slips) → lists ≡ map (λ (s : SeatSlips). s.slips) seats
known_from from zero [] [] l e h = refl
known_from from zero [] (s ∷ ss) l e h = absurd (cc)
known_from from zero (x ∷ xs) seats l e h = absurd (omega (arith, l))
known_from from (suc n) [] seats l e h = absurd (omega (arith, l))
known_from from (suc n) (x ∷ xs) [] l e h = absurd (cc)
known_from from (suc n) (x ∷ xs) (s ∷ ss) l e h =
    let head : s.number ≡ from = cc in
    let rest : map (λ (z : SeatSlips). z.number) ss ≡ up (suc from) n = cc in
    let one : x ≡ s.slips = some_same x s.slips (h s (inl refl) 0 (omega (arith, head))) in
    let more = known_from (suc from) n xs ss (omega (arith, l)) rest (λ t a k d. h t (inr a) (suc k) (omega (arith, d))) in
    λ i. one i ∷ more i

pub all_known : (n : ℕ) (lists : List (List Slip)) (seats : List SeatSlips) → length lists ≡ n → map (λ (s : SeatSlips). s.number) seats ≡ up 0 n
    → Shows (hand (lists ∷ []) seats) → lists ≡ map (λ (s : SeatSlips). s.slips) seats
all_known n lists seats l e shows = known_from 0 n lists seats l e (λ s a k d. ap (slice_get lists) (let z : k ≡ s.number = omega (arith, d) in z) ∙ shows.agree lists s (inl refl) a)

-- so many seats in order, whose tokens the desk's was joined with
pub all_told : {S : Type 0} (number : S → ℕ) (slips : S → List Slip) (n : ℕ) (lists : List (List Slip)) (seats : List S) → length lists ≡ n → map number seats ≡ up 0 n
    → Shows (hand (lists ∷ []) (map (λ s. kept (number s) (slips s)) seats)) → lists ≡ map slips seats
all_told number slips n lists seats l e shows =
    all_known n lists (map (λ s. kept (number s) (slips s)) seats) l (map_twice (λ s. kept (number s) (slips s)) (λ (z : SeatSlips). z.number) seats ∙ e) shows
    ∙ map_twice (λ s. kept (number s) (slips s)) (λ (z : SeatSlips). z.slips) seats

-- a token more is joined with the desk's
pub one_more : (lists : List (List Slip)) (seats : List SeatSlips) (n : ℕ) (slips : List Slip) (desk seat both : Me (Unit {0}) DeskHand) → desk ≡ (hand (lists ∷ []) seats, []) → seat ≡ (of_seat n slips, [])
    → both ≡ (joined desk.0 seat.0, []) → both ≡ (hand (lists ∷ []) (seats ++ kept n slips ∷ []), [])
one_more lists seats n slips desk seat both of_desk of_seat of_both = of_both ∙ (λ i. (joined (of_desk i).0 (of_seat i).0, []))

-- the lists of the desk are those of its seats
pub tied_told : {K : Type 0} (b : Book K) (puts takes puts' takes' : List (List Slip)) → puts ≡ puts' → takes ≡ takes' → IsTied b puts takes → IsTied b puts' takes'
tied_told b puts takes puts' takes' p t tied = subst (λ l. IsTied b puts' l) t (subst (λ l. IsTied b l takes) p tied)

pub map_same : {A : Type 0} (xs : List A) → map (λ (x : A). x) xs ≡ xs
map_same [] = refl
map_same (x ∷ xs) = ap (λ l. x ∷ l) (map_same xs)
