-- Which entries stay in their segments, by what a test answers of those that are the next to go.
use Rattle.std.specs.Prelude.{◌≡◌, ℕ, ◌+◌, ◌≤◌, ◌==◌, ◌⊎◌, min, Bool, List, [], ◌++◌, length, map, reverse, count_by, Option}
use Rattle.std.specs.Option.{option_map}
use Rattle.std.specs.List.{FoldsTo}
use Rattle.std.specs.Borrow.{Bor}
use Rattle.lru_rows.specs.Rows.{Placed, last_row}
use Rattle.lru_owned_cache.specs.declared.entry.Entry.{Entry}
use Rattle.lru_owned_cache.specs.Entries.{entries_in, IsShown, Asks, kept_of, gone_of}
use Rattle.lru_segmented.specs.Segmented.{Segmented, entries, with_segments}
use Rattle.lru_segmented.specs.Seats.{Seated, rows}

module _ {K V : Type 0} where
  -- a test was asked of each entry, the next to go first, and those stay in their segments of which it answered true
  pub record Retains {F S : Type 0} (step : F → Bor K → Bor V → ℕ → Bool → F → Type 0) (keep : F) (old new : Segmented K V S) : Type 0 where
    pub upper_asked : List (Entry K V × Bool)
    pub lower_asked : List (Entry K V × Bool)
    pub left : F
    pub upper_all : map (λ a. a.0) upper_asked ≡ old.upper
    pub lower_all : map (λ a. a.0) lower_asked ≡ old.lower
    pub called : FoldsTo (λ p a q. Asks step p a.0 a.1 q) keep (reverse (upper_asked ++ lower_asked)) left
    pub kept : new ≡ with_segments old (kept_of upper_asked) (kept_of lower_asked)

  -- a test was asked of so many of the last entries, or of all, the next to go first: of one of the upper segment only once it was asked of all of the lower one.
  -- Those stay where they are of which it answered true, and the others were shown to a closure, in that order
  pub record RetainsLast {F G S : Type 0} (step : F → Bor K → Bor V → ℕ → Bool → F → Type 0) (keep : F) (Step : G → Entry K V → G → Type 0) (visit : G) (most : ℕ) (old new : Segmented K V S) : Type 0 where
    pub upper_front : List (Entry K V)
    pub lower_front : List (Entry K V)
    pub upper_asked : List (Entry K V × Bool)
    pub lower_asked : List (Entry K V × Bool)
    pub left : F
    pub upper_parts : old.upper ≡ upper_front ++ map (λ a. a.0) upper_asked
    pub lower_parts : old.lower ≡ lower_front ++ map (λ a. a.0) lower_asked
    pub lower_first : (upper_asked ≡ []) ⊎ (lower_front ≡ [])
    pub many : length (upper_asked ++ lower_asked) ≡ min most (length (entries old))
    pub called : FoldsTo (λ p a q. Asks step p a.0 a.1 q) keep (reverse (upper_asked ++ lower_asked)) left
    pub shown : IsShown Step visit (gone_of (upper_asked ++ lower_asked))
    pub kept : new ≡ with_segments old (upper_front ++ kept_of upper_asked) (lower_front ++ kept_of lower_asked)

  -- the same of rows
  pub record RetainsLastRows {F G S : Type 0} (step : F → Bor K → Bor V → ℕ → Bool → F → Type 0) (keep : F) (Step : G → Entry K V → G → Type 0) (visit : G) (most : ℕ) (old new : Seated K V S) : Type 0 where
    pub upper_front : List (Entry K V)
    pub lower_front : List (Entry K V)
    pub upper_asked : List (Entry K V × Bool)
    pub lower_asked : List (Entry K V × Bool)
    pub left : F
    pub upper_parts : entries_in old.upper ≡ upper_front ++ map (λ a. a.0) upper_asked
    pub lower_parts : entries_in old.lower ≡ lower_front ++ map (λ a. a.0) lower_asked
    pub lower_first : (upper_asked ≡ []) ⊎ (lower_front ≡ [])
    pub many : length (upper_asked ++ lower_asked) ≡ min most (length (rows old))
    pub called : FoldsTo (λ p a q. Asks step p a.0 a.1 q) keep (reverse (upper_asked ++ lower_asked)) left
    pub shown : IsShown Step visit (gone_of (upper_asked ++ lower_asked))
    pub upper_kept : entries_in new.upper ≡ upper_front ++ kept_of upper_asked
    pub lower_kept : entries_in new.lower ≡ lower_front ++ kept_of lower_asked
    pub free_is : length (rows new) + new.free ≡ length (rows old) + old.free
    pub hashes_are : new.hashes ≡ old.hashes

  -- so far it was asked of the last rows. `next` is the place of the one that is asked of next, and so many are still to be asked of
  pub record Asking {F G S : Type 0} (step : F → Bor K → Bor V → ℕ → Bool → F → Type 0) (keep last : F) (Step : G → Entry K V → G → Type 0) (visit seen : G) (most : ℕ) (old now : Seated K V S) (next : Option ℕ) (left : ℕ) : Type 0 where
    pub upper_rest : List (Placed K V)
    pub lower_rest : List (Placed K V)
    pub upper_kept : List (Placed K V)
    pub lower_kept : List (Placed K V)
    pub upper_asked : List (Entry K V × Bool)
    pub lower_asked : List (Entry K V × Bool)
    pub upper_now : now.upper ≡ upper_rest ++ upper_kept
    pub lower_now : now.lower ≡ lower_rest ++ lower_kept
    pub upper_parts : entries_in old.upper ≡ entries_in upper_rest ++ map (λ a. a.0) upper_asked
    pub lower_parts : entries_in old.lower ≡ entries_in lower_rest ++ map (λ a. a.0) lower_asked
    pub upper_are : entries_in upper_kept ≡ kept_of upper_asked
    pub lower_are : entries_in lower_kept ≡ kept_of lower_asked
    pub lower_first : (upper_asked ≡ []) ⊎ (lower_rest ≡ [])
    pub next_is : next ≡ option_map (λ r. r.place) (last_row (upper_rest ++ lower_rest))
    pub left_is : length upper_asked + length lower_asked + left ≡ min most (length (rows old))
    pub called : FoldsTo (λ p a q. Asks step p a.0 a.1 q) keep (reverse (upper_asked ++ lower_asked)) last
    pub shown : FoldsTo Step visit (reverse (gone_of (upper_asked ++ lower_asked))) seen
    pub once : (p : ℕ) → count_by (λ r. r.place == p) (rows now) ≤ 1
    pub free_is : length (rows now) + now.free ≡ length (rows old) + old.free
    pub hashes_are : now.hashes ≡ old.hashes
