-- A box of pairs that were put and wait to be taken, with the slips of those that are lost.
use Rattle.std.specs.Prelude.{◌≡◌, ℕ, ◌+◌, ◌≤◌, ◌==◌, Bool, true, false, List, [], ◌∷◌, ◌++◌, length, map, slice_get, slice_set, count_by, min, Option, Some, None, Result, Ok, Err, if◌then◌else◌, nat_lt, refl}
use Rattle.std.specs.Coded.{Coded, code_by, coded×, coded_ℕ, coded_bool, coded_list}
use Rattle.std.specs.declared.alloc.AllocError.{AllocError}
use Rattle.lru_mailbox.specs.declared.mail_error.MailError.{MailError}
use Rattle.lru_mailbox.specs.declared.mail_error.MailError.TheVariants.{Memory, Closed, Waiting}
use Rattle.lru_mailbox.specs.declared.slip.Slip.{Slip}
use Rattle.lru_mailbox.specs.Slips.{slip_of, slip_code, is_same, Share, Every, slips_in, count_in, IsRising, IsRun, IsBelow}

-- `next` is the number of the next slip
pub record Book (K : Type 0) : Type 0 where
  pub waiting : List (Slip × K)
  pub lost : List Slip
  pub next : ℕ
  pub closed : Bool

-- there is room for the slips of all that wait, and nothing is gathered yet
pub record IsStocked (slips room : ℕ) (puts takes : List (List Slip)) : Type 0 where
  pub fits : slips ≤ room
  pub no_puts : puts ≡ []
  pub no_takes : takes ≡ []

-- for how many shares there is room once all is settled
pub record Seats : Type 0 where
  pub putters : ℕ
  pub takers : ℕ

abbrev pub seats_of : ℕ → ℕ → Seats
seats_of putters takers = record { putters = putters; takers = takers }

-- with the room that was made for more pairs
pub record Stock (K : Type 0) : Type 0 where
  pub book : Book K
  pub room : ℕ
  pub seats : Seats

-- how many numbers there are
abbrev pub most_numbers : ℕ
most_numbers = 18446744073709551615

module _ {K : Type 0} where
  abbrev pub book_of : List (Slip × K) → List Slip → ℕ → Bool → Book K
  book_of waiting lost next closed = record { waiting = waiting; lost = lost; next = next; closed = closed }

  abbrev pub stock_of : Book K → ℕ → Seats → Stock K
  stock_of book room seats = record { book = book; room = room; seats = seats }

  abbrev pub slips_of : List (Slip × K) → List Slip
  slips_of pairs = map (λ p. p.0) pairs

  abbrev pub empty : Book K
  empty = book_of [] [] 0 false

  -- a pair is put: its slip has the next number, and it waits last, or where the box is closed its slip is lost
  abbrev pub slip_put : Book K → ℕ → ℕ → Slip
  slip_put b hash weight = slip_of b.next hash weight

  abbrev pub put : Book K → ℕ → K → ℕ → Book K
  put b hash key weight =
      if b.closed then book_of b.waiting (b.lost ++ slip_put b hash weight ∷ []) (b.next + 1) b.closed
      else book_of (b.waiting ++ (slip_put b hash weight, key) ∷ []) b.lost (b.next + 1) b.closed

  abbrev pub shut : Book K → Book K
  shut b = book_of b.waiting b.lost b.next true

  -- what waits is lost
  abbrev pub left : Book K → Book K
  left b = book_of [] (slips_of b.waiting ++ b.lost) b.next true

  -- a put is answered by the slip in the share, or for want of memory, where there was no room, it hands the key back and changes nothing
  abbrev pub Puts : Stock K → Share → ℕ → K → ℕ → Result (Unit {0}) (MailError K) → Stock K → Share → Type 0
  Puts old share hash key weight (Ok _) new share' = (new.book ≡ put old.book hash key weight) × (share'.slips ≡ share.slips ++ slip_put old.book hash weight ∷ [])
  Puts old share hash key weight (Err (Memory held)) new share' = (held ≡ key) × (min old.room share.room ≡ 0) × (new.book ≡ old.book) × (share'.slips ≡ share.slips)
  Puts old share hash key weight (Err (Closed held)) new share' = ⊥
  Puts old share hash key weight (Err (Waiting held)) new share' = ⊥

  -- a take answers the first pair that waits, its slip in the share, or that none waits; for want of memory, where the share had no room, the pair waits on
  abbrev pub Takes : Book K → Share → Result (Option (Slip × K)) AllocError → Book K → Share → Type 0
  Takes old share (Ok None) new share' = (old.waiting ≡ []) × (new ≡ old) × (share'.slips ≡ share.slips)
  Takes old share (Ok (Some pair)) new share' =
      (old.waiting ≡ pair ∷ new.waiting) × (new ≡ book_of new.waiting old.lost old.next old.closed) × (share'.slips ≡ share.slips ++ pair.0 ∷ [])
  Takes old share (Err _) new share' = (share.room ≡ 0) × (new ≡ old) × (share'.slips ≡ share.slips)

  -- these are the shares of the box, by what they have: what was put is told in `puts`, what was taken in `takes`, and the rest waits or is lost in the box
  pub record IsTied (b : Book K) (puts takes : List (List Slip)) : Type 0 where
    pub first : ℕ
    pub run : IsRun first (slips_of b.waiting ++ b.lost)
    pub ends : first + length (slips_of b.waiting ++ b.lost) ≡ b.next
    pub numbers : (n : ℕ) → count_in (λ s. s.number == n) puts ≡ (if nat_lt n b.next then 1 else 0)
    pub stands : (s : Slip) → count_in (is_same s) puts ≡ count_in (is_same s) takes + count_by (is_same s) (slips_of b.waiting ++ b.lost)
    pub open_lost : b.closed ≡ false → b.lost ≡ []
    pub puts_rise : Every IsRising puts
    pub puts_below : Every (Every (IsBelow b.next)) puts
    pub takes_rise : Every IsRising takes
    pub takes_below : Every (Every (IsBelow first)) takes

  -- a box as it is made, with its shares
  pub record Makes (putters takers : ℕ) (stock : Stock K) (puts takes : List Share) : Type 0 where
    pub book : stock.book ≡ empty
    pub seats : stock.seats ≡ seats_of putters takers
    pub tied : IsTied stock.book (slips_in puts) (slips_in takes)
    pub putters_are : length puts ≡ putters
    pub takers_are : length takes ≡ takers

-- the shares of a box stay its shares where one of them, at any place among them, puts a pair,
abbrev pub PutsKeepTies : (K : Type 0) → Type 0
PutsKeepTies K =
    (b : Book K) (hash : ℕ) (key : K) (weight : ℕ) (puts takes : List (List Slip)) (i : ℕ) (slips : List Slip)
    → slice_get puts i ≡ Some slips → IsTied b puts takes → IsTied (put b hash key weight) (slice_set puts i (slips ++ slip_put b hash weight ∷ [])) takes

-- where one of them takes the first pair,
abbrev pub TakesKeepTies : (K : Type 0) → Type 0
TakesKeepTies K =
    (b : Book K) (pair : Slip × K) (rest : List (Slip × K)) (puts takes : List (List Slip)) (i : ℕ) (slips : List Slip)
    → b.waiting ≡ pair ∷ rest → slice_get takes i ≡ Some slips → IsTied b puts takes
    → IsTied (book_of rest b.lost b.next b.closed) puts (slice_set takes i (slips ++ pair.0 ∷ []))

-- and where the box is closed, or left
abbrev pub EndsKeepTies : (K : Type 0) → Type 0
EndsKeepTies K = (b : Book K) (puts takes : List (List Slip)) → IsTied b puts takes → IsTied (shut b) puts takes × IsTied (left b) puts takes

abbrev pub book_code : {K : Type 0} → Coded K → Coded (Book K)
book_code {K} code =
    code_by (List (Slip × K) × (List Slip × (ℕ × Bool)))
    (coded× (coded_list (coded× slip_code code)) (coded× (coded_list slip_code) (coded× coded_ℕ coded_bool)))
    (λ b. (b.waiting, (b.lost, (b.next, b.closed)))) (λ t. book_of t.0 t.1.0 t.1.1.0 t.1.1.1) (λ _. refl)

abbrev pub seats_code : Coded Seats
seats_code = code_by (ℕ × ℕ) (coded× coded_ℕ coded_ℕ) (λ s. (s.putters, s.takers)) (λ t. seats_of t.0 t.1) (λ _. refl)

abbrev pub stock_code : {K : Type 0} → Coded K → Coded (Stock K)
stock_code {K} code =
    code_by (Book K × (ℕ × Seats)) (coded× (book_code code) (coded× coded_ℕ seats_code)) (λ s. (s.book, (s.room, s.seats))) (λ t. stock_of t.0 t.1.0 t.1.1) (λ _. refl)
