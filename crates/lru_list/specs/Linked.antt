-- A linked list: its live items in order, and the stack of its freed slots. Each pair is an index with its item.
use Rattle.std.specs.Prelude.{◌≡◌, ℕ, ◌+◌, ◌-◌, ◌<◌, ◌==◌, ◌&&◌, not, List, [], ◌∷◌, ◌++◌, length, drop, map, filter, find, count_by, reverse, slice_get, slice_index_or, Option, Some, None, IsSome, option_map, Result, Ok, Err, refl, nat_le, nat_lt, if◌then◌else◌}
use Rattle.std.specs.Option.{option_map_or}
use Rattle.std.specs.Coded.{Coded, code_by, coded×, coded_ℕ, coded_list}
use Rattle.std.specs.Borrow.{Bor}
use Rattle.lru_list.specs.declared.linked_list.PushError.{PushError}
use Rattle.lru_list.specs.declared.linked_list.PushError.TheVariants.{Memory, Full}

-- the items in order, from head to tail, and the freed slots, the one freed last first
pub record Linked (K : Type 0) : Type 0 where
  pub live : List (ℕ × K)
  pub freed : List (ℕ × K)

abbrev pub linked_code : {K : Type 0} → Coded K → Coded (Linked K)
linked_code {K} code =
    code_by (List (ℕ × K) × List (ℕ × K)) (coded× (coded_list (coded× coded_ℕ code)) (coded_list (coded× coded_ℕ code)))
    (λ l. (l.live, l.freed)) (λ p. record { live = p.0; freed = p.1 }) (λ _. refl)

-- the index that stands for no slot
abbrev pub no_slot : ℕ
no_slot = 4294967295

-- how many items a list can hold
abbrev pub most_items : ℕ
most_items = 4294967293

-- what an index that is given shows
abbrev pub itself : ℕ → ℕ
itself i = i

-- what an index with a reference to its item shows
abbrev pub with_its_item : {K : Type 0} → ℕ × Bor K → ℕ × K
with_its_item p = (p.0, p.1.now)

-- how often a number stands in a list
abbrev pub times : ℕ → List ℕ → ℕ
times i xs = count_by (λ x. x == i) xs

-- the number behind i in a list, or no slot
abbrev pub follower : List ℕ → ℕ → ℕ
follower [] i = no_slot
follower (x ∷ xs) i = if x == i then slice_index_or xs 0 no_slot else follower xs i

module _ {K : Type 0} where
  abbrev pub linked : List (ℕ × K) → List (ℕ × K) → Linked K
  linked live freed = record { live = live; freed = freed }

  abbrev pub indices_of : List (ℕ × K) → List ℕ
  indices_of xs = map (λ p. p.0) xs

  abbrev pub items_of : List (ℕ × K) → List K
  items_of xs = map (λ p. p.1) xs

  -- the item of an index
  abbrev pub item_of : List (ℕ × K) → ℕ → Option K
  item_of xs i = option_map (λ p. p.1) (find (λ p. p.0 == i) xs)

  -- the pairs without that index's
  abbrev pub without : List (ℕ × K) → ℕ → List (ℕ × K)
  without xs i = filter (λ p. not (p.0 == i)) xs

  -- the pairs, with x as that index's item
  abbrev pub written : List (ℕ × K) → ℕ → K → List (ℕ × K)
  written xs i x = map (λ p. (p.0, if p.0 == i then x else p.1)) xs

  -- how many slots were ever made
  abbrev pub made : Linked K → ℕ
  made l = length l.live + length l.freed

  -- the indices of both are 2 to the count of all pairs plus 1, each once
  abbrev pub IsNumbered : Linked K → Type 0
  IsNumbered l = (i : ℕ) → times i (indices_of l.live ++ indices_of l.freed) ≡ (if nat_le 2 i && nat_lt i (made l + 2) then 1 else 0)

  -- the index has a live item
  abbrev pub IsLive : Linked K → ℕ → Type 0
  IsLive l i = IsSome (item_of l.live i)

  -- the index is a sentinel's, or of a slot that was made
  abbrev pub IsPlace : Linked K → ℕ → Type 0
  IsPlace l i = i < made l + 2

  -- the index of the first live item, and of the last
  abbrev pub head_of : Linked K → Option ℕ
  head_of l = slice_get (indices_of l.live) 0

  abbrev pub tail_of : Linked K → Option ℕ
  tail_of l = slice_get (indices_of l.live) (length l.live - 1)

  -- the live indices between the sentinels
  abbrev pub ring : Linked K → List ℕ
  ring l = 0 ∷ indices_of l.live ++ 1 ∷ []

  -- the place behind a place, and the one before it
  abbrev pub next_of : Linked K → ℕ → ℕ
  next_of l i = follower (ring l) i

  abbrev pub prev_of : Linked K → ℕ → ℕ
  prev_of l i = follower (reverse (ring l)) i

  -- the item of an index, live or freed
  abbrev pub item_at : Linked K → ℕ → Option K
  item_at l i = item_of (l.live ++ l.freed) i

  abbrev pub with_item : Linked K → ℕ → K → Linked K
  with_item l i x = linked (written l.live i x) (written l.freed i x)

  -- the index that the next push takes: the one freed last, or a new one
  abbrev pub next_slot : Linked K → ℕ
  next_slot l = slice_index_or (indices_of l.freed) 0 (made l + 2)

  -- an item put first, or last
  abbrev pub pushed_head : Linked K → K → Linked K
  pushed_head l x = linked ((next_slot l, x) ∷ l.live) (drop 1 l.freed)

  abbrev pub pushed_tail : Linked K → K → Linked K
  pushed_tail l x = linked (l.live ++ (next_slot l, x) ∷ []) (drop 1 l.freed)

  -- an index freed, with the blank left in its slot
  abbrev pub removed : Linked K → ℕ → K → Linked K
  removed l i blank = linked (without l.live i) ((i, blank) ∷ l.freed)

  -- an index goes first
  abbrev pub promoted : Linked K → ℕ → Linked K
  promoted l i = linked (option_map_or (λ x. (i, x) ∷ without l.live i) (item_of l.live i) l.live) l.freed

  -- an index goes last
  abbrev pub demoted : Linked K → ℕ → Linked K
  demoted l i = linked (option_map_or (λ x. without l.live i ++ (i, x) ∷ []) (item_of l.live i) l.live) l.freed

  -- what a push may answer, and leave: `pushed` is the list with the item in it. A full list refuses, and so does want of memory, where no slot is freed
  abbrev pub Pushes : Linked K → Linked K → K → Result ℕ (PushError K) → Linked K → Type 0
  Pushes old pushed x (Ok i) new = (length old.live < most_items) × (i ≡ next_slot old) × (new ≡ pushed)
  Pushes old pushed x (Err (Memory y)) new = (length old.live < most_items) × (old.freed ≡ []) × (y ≡ x) × (new ≡ old)
  Pushes old pushed x (Err (Full y)) new = (length old.live ≡ most_items) × (y ≡ x) × (new ≡ old)

  module _ (IsBlank : K → Type 0) where
    -- the item x leaves its index, and a blank stands there
    abbrev pub Removes : Linked K → ℕ → K → Linked K → Type 0
    Removes old i x new = (item_of old.live i ≡ Some x) × ((blank : K) × IsBlank blank × (new ≡ removed old i blank))

    -- the last item leaves its index, if there is one
    abbrev pub PopsTail : Linked K → Option K → Linked K → Type 0
    PopsTail old None new = (old.live ≡ []) × (new ≡ old)
    PopsTail old (Some x) new = (rest : List (ℕ × K)) × (i : ℕ) × (old.live ≡ rest ++ (i, x) ∷ []) × ((blank : K) × IsBlank blank × (new ≡ linked rest ((i, blank) ∷ old.freed)))

-- the number of a refusal
abbrev pub number_of : {K : Type 0} → PushError K → ℕ
number_of (Memory _) = 1
number_of (Full _) = 2
