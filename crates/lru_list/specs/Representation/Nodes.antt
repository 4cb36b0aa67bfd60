-- What the nodes of a list stand for. Node 0 stands before the first item and node 1 behind the last.
use Rattle.std.specs.Prelude.{◌≡◌, ℕ, ◌+◌, ◌-◌, ◌<◌, ◌≤◌, ◌&&◌, nat_le, nat_lt, List, [], ◌∷◌, ◌++◌, length, map, get_or, slice_get, flat_map, option_map, option_to_list, if◌then◌else◌, zero, suc}
use Rattle.lru_list.specs.declared.linked_list.Node.{Node}
use Rattle.std.specs.Prelude.{◌≢◌, ◌⊎◌, Result, Ok, Err, set}
use Rattle.lru_list.specs.declared.linked_list.PushError.{PushError}
use Rattle.lru_list.specs.declared.linked_list.PushError.TheVariants.{Memory, Full}
use Rattle.lru_list.specs.Linked.{Linked, linked, times, no_slot}

abbrev pub nexts : {K : Type 0} → List (Node K) → List ℕ
nexts ns = map (λ n. n.next) ns

abbrev pub prevs : {K : Type 0} → List (Node K) → List ℕ
prevs ns = map (λ n. n.prev) ns

abbrev pub items : {K : Type 0} → List (Node K) → List K
items ns = map (λ n. n.item) ns

-- a node with x for its item
abbrev pub with_item : {K : Type 0} → Node K → K → Node K
with_item n x = record { prev = n.prev; next = n.next; item = x }

-- where the link of a place leads
abbrev pub at : List ℕ → ℕ → ℕ
at links i = get_or links i no_slot

-- n places along the links, from i on
abbrev pub path : List ℕ → ℕ → ℕ → List ℕ
path links zero i = []
path links (suc n) i = i ∷ path links n (at links i)

-- each place with its item
abbrev pub pairs : {K : Type 0} → List K → List ℕ → List (ℕ × K)
pairs xs places = flat_map (λ i. option_to_list (option_map (λ x. (i, x)) (slice_get xs i))) places

-- from a on, each next link leads to the next of these places, and its prev link back
abbrev pub Follow : List ℕ → List ℕ → ℕ → List ℕ → Type 0
Follow ns ps a [] = Unit {0}
Follow ns ps a (b ∷ bs) = (at ns a ≡ b) × (at ps b ≡ a) × Follow ns ps b bs

abbrev pub Chain : List ℕ → List ℕ → List ℕ → Type 0
Chain ns ps [] = Unit {0}
Chain ns ps (a ∷ bs) = Follow ns ps a bs

-- from `top` on, the links lead along these places and end there
abbrev pub IsStack : List ℕ → ℕ → List ℕ → Type 0
IsStack links top [] = top ≡ no_slot
IsStack links top (i ∷ is) = (top ≡ i) × IsStack links (at links i) is

-- the links join the places of `order` from one sentinel to the other, and the others are free
pub record IsLinked (ns ps free order : List ℕ) : Type 0 where
  pub chain : Chain ns ps (0 ∷ order ++ 1 ∷ [])
  pub once : (i : ℕ) → times i (order ++ free) ≡ (if nat_le 2 i && nat_lt i (length ns) then 1 else 0)
  pub long : length order + length free + 2 ≡ length ns
  pub same : length ps ≡ length ns
  pub loose : (i : ℕ) → 1 ≤ times i free → at ns i ≡ no_slot
  pub ends : (at ps 0 ≡ no_slot) × (at ns 1 ≡ no_slot)
  pub few : length ns ≤ no_slot

module _ {K : Type 0} where
  -- the live places in order, and the free ones, the one freed last first
  abbrev pub order_of : List (Node K) → ℕ → List ℕ
  order_of ns len = path (nexts ns) len (at (nexts ns) 0)

  abbrev pub stack_of : List (Node K) → ℕ → ℕ → List ℕ
  stack_of ns top len = path (prevs ns) (length ns - 2 - len) top

  abbrev pub linked_of : List (Node K) → ℕ → ℕ → Linked K
  linked_of ns top len = linked (pairs (items ns) (order_of ns len)) (pairs (items ns) (stack_of ns top len))

  -- what a list keeps of its nodes: its items are joined by next and prev links, its free slots by prev links alone
  pub record IsList (ns : List (Node K)) (top len : ℕ) : Type 0 where
    pub linked : IsLinked (nexts ns) (prevs ns) (stack_of ns top len) (order_of ns len)
    pub stack : IsStack (prevs ns) top (stack_of ns top len)
    pub room : len + 2 ≤ length ns

  -- the items that an iterator has left
  abbrev pub rest_of : List (Node K) → ℕ → ℕ → List K
  rest_of ns head len = map (λ (p : ℕ × K). p.1) (pairs (items ns) (path (nexts ns) len head))

  -- the same with their places
  abbrev pub pairs_of : List (Node K) → ℕ → ℕ → List (ℕ × K)
  pairs_of ns head len = pairs (items ns) (path (nexts ns) len head)

  -- the places that an iterator has left
  abbrev pub places_of : List (Node K) → ℕ → ℕ → List ℕ
  places_of ns head len = path (nexts ns) len head

  -- what an iterator keeps: its places are joined, and are nodes, from `head` to `tail`
  pub record IsSpan (ns : List (Node K)) (head tail len : ℕ) : Type 0 where
    pub chain : Chain (nexts ns) (prevs ns) (path (nexts ns) len head)
    pub within : (i : ℕ) → 1 ≤ times i (path (nexts ns) len head) → i < length ns
    pub last : 0 < len → (front : List ℕ) × (path (nexts ns) len head ≡ front ++ tail ∷ [])

  -- the slot freed last is taken for an item
  pub record ReusesSlot (ns : List (Node K)) (top : ℕ) (x : K) (i : ℕ) (ns' : List (Node K)) (top' : ℕ) : Type 0 where
    pub free : top ≢ no_slot
    pub place : i ≡ top
    pub top_is : top' ≡ at (prevs ns) top
    pub nexts_are : nexts ns' ≡ nexts ns
    pub prevs_are : prevs ns' ≡ prevs ns
    pub items_are : items ns' ≡ set (items ns) top x

  -- a slot is made for an item, where none is free
  pub record MakesSlot (ns : List (Node K)) (top : ℕ) (x : K) (i : ℕ) (ns' : List (Node K)) (top' : ℕ) : Type 0 where
    pub none : top ≡ no_slot
    pub room : length ns < no_slot
    pub place : i ≡ length ns
    pub top_is : top' ≡ top
    pub nexts_are : nexts ns' ≡ nexts ns ++ no_slot ∷ []
    pub prevs_are : prevs ns' ≡ prevs ns ++ no_slot ∷ []
    pub items_are : items ns' ≡ items ns ++ x ∷ []

  abbrev pub TakesSlot : List (Node K) → ℕ → K → Result ℕ (PushError K) → List (Node K) → ℕ → Type 0
  TakesSlot ns top x (Ok i) ns' top' = ReusesSlot ns top x i ns' top' ⊎ MakesSlot ns top x i ns' top'
  TakesSlot ns top x (Err (Memory y)) ns' top' = (top ≡ no_slot) × (length ns < no_slot) × (y ≡ x) × (ns' ≡ ns) × (top' ≡ top)
  TakesSlot ns top x (Err (Full y)) ns' top' = (top ≡ no_slot) × (no_slot ≤ length ns) × (y ≡ x) × (ns' ≡ ns) × (top' ≡ top)
