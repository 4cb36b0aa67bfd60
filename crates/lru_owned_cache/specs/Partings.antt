-- Which rows go, and which stay.
use Rattle.std.specs.Prelude.{Bool, ◌≡◌, ℕ, ◌+◌, ◌≤◌, min, List, [], ◌∷◌, ◌++◌, length, map, reverse}
use Rattle.std.specs.List.{FoldsTo}
use Rattle.std.specs.Borrow.{Bor}
use Rattle.lru_rows.specs.Rows.{Placed, Recency, recency}
use Rattle.lru_owned_cache.specs.declared.entry.Entry.{Entry}
use Rattle.lru_owned_cache.specs.Entries.{entries_in, weight_in, IsShown, Asks, kept_of, gone_of}

module _ {K V : Type 0} where
  -- rows that fit
  abbrev pub RowsFit : ℕ → ℕ → List (Placed K V) → Type 0
  RowsFit w n rows = (weight_in rows ≤ w) × (length rows ≤ n)

  -- the last rows went, no more than had to, and each was shown
  pub record Shrinks {F : Type 0} (Step : F → Entry K V → F → Type 0) (visit : F) (w n : ℕ) (old new : Recency K V) : Type 0 where
    pub front : List (Placed K V)
    pub back : List (Placed K V)
    pub parts : old.rows ≡ front ++ back
    pub fits : RowsFit w n front
    pub needed : (r : Placed K V) (rest : List (Placed K V)) → back ≡ r ∷ rest → RowsFit w n (front ++ r ∷ []) → ⊥
    pub left : new ≡ recency front (old.free + length back)
    pub shown : IsShown Step visit (entries_in back)

  -- so far the last rows went, each since the rows did not fit with it, and each was shown
  pub record Shrinking {F : Type 0} (Step : F → Entry K V → F → Type 0) (visit last : F) (w n : ℕ) (old now : Recency K V) (used : ℕ) : Type 0 where
    pub back : List (Placed K V)
    pub parts : old.rows ≡ now.rows ++ back
    pub needed : (r : Placed K V) (rest : List (Placed K V)) → back ≡ r ∷ rest → RowsFit w n (now.rows ++ r ∷ []) → ⊥
    pub free_is : now.free ≡ old.free + length back
    pub shown : FoldsTo Step visit (reverse (entries_in back)) last
    pub used_is : used ≡ weight_in now.rows

  -- a test was asked of these rows, the last first, and these are those for which it answered true
  pub record RetainsRows {F : Type 0} (step : F → Bor K → Bor V → ℕ → Bool → F → Type 0) (keep : F) (old new : Recency K V) : Type 0 where
    pub asked : List (Entry K V × Bool)
    pub left : F
    pub all : map (λ a. a.0) asked ≡ entries_in old.rows
    pub called : FoldsTo (λ p a q. Asks step p a.0 a.1 q) keep (reverse asked) left
    pub kept : entries_in new.rows ≡ kept_of asked
    pub free_is : length new.rows + new.free ≡ length old.rows + old.free

  -- a test was asked of so many of the last rows, or of all, the last first. Those of which it answered true stand first now, and the others were shown to a closure
  pub record AsksLast {F G : Type 0} (step : F → Bor K → Bor V → ℕ → Bool → F → Type 0) (keep : F) (Step : G → Entry K V → G → Type 0) (visit : G) (most : ℕ) (old new : Recency K V) (count : ℕ) : Type 0 where
    pub kept : List (Placed K V)
    pub rest : List (Placed K V)
    pub asked : List (Entry K V × Bool)
    pub left : F
    pub all : entries_in old.rows ≡ entries_in rest ++ map (λ a. a.0) asked
    pub many : length asked ≡ min most (length old.rows)
    pub called : FoldsTo (λ p a q. Asks step p a.0 a.1 q) keep (reverse asked) left
    pub shown : IsShown Step visit (gone_of asked)
    pub now_is : new.rows ≡ kept ++ rest
    pub are_kept : entries_in kept ≡ kept_of asked
    pub count_is : count ≡ length kept
    pub free_is : length new.rows + new.free ≡ length old.rows + old.free

  -- so far it was asked of the last rows, and `left` are still to be asked of
  pub record Asking {F G : Type 0} (step : F → Bor K → Bor V → ℕ → Bool → F → Type 0) (keep last : F) (Step : G → Entry K V → G → Type 0) (visit seen : G) (most : ℕ) (old now : Recency K V) (used left count : ℕ) : Type 0 where
    pub kept : List (Placed K V)
    pub rest : List (Placed K V)
    pub done : List (Placed K V)
    pub asked : List (Entry K V × Bool)
    pub now_is : now.rows ≡ kept ++ rest
    pub parts : old.rows ≡ rest ++ done
    pub all : map (λ a. a.0) asked ≡ entries_in done
    pub left_is : length done + left ≡ min most (length old.rows)
    pub called : FoldsTo (λ p a q. Asks step p a.0 a.1 q) keep (reverse asked) last
    pub shown : FoldsTo Step visit (reverse (gone_of asked)) seen
    pub are_kept : entries_in kept ≡ kept_of asked
    pub count_is : count ≡ length kept
    pub used_is : used ≡ weight_in now.rows
    pub free_is : length now.rows + now.free ≡ length old.rows + old.free

  -- the first rows went last, so many, in their order
  pub record PutsBack (count : ℕ) (old new : Recency K V) : Type 0 where
    pub moved : List (Placed K V)
    pub rest : List (Placed K V)
    pub parts : old.rows ≡ moved ++ rest
    pub count_is : length moved ≡ count
    pub left : new ≡ recency (rest ++ moved) old.free

  -- so far the first rows went last, and `left` are still to go
  pub record PuttingBack (count : ℕ) (old now : Recency K V) (left : ℕ) : Type 0 where
    pub moved : List (Placed K V)
    pub rest : List (Placed K V)
    pub parts : old.rows ≡ moved ++ rest
    pub now_is : now ≡ recency (rest ++ moved) old.free
    pub left_is : length moved + left ≡ count
    pub enough : left ≤ length rest

  -- the same as `RetainsRows`, of so many of the last rows, or of all; the others went and were shown to a closure
  pub record RetainsLastRows {F G : Type 0} (step : F → Bor K → Bor V → ℕ → Bool → F → Type 0) (keep : F) (Step : G → Entry K V → G → Type 0) (visit : G) (most : ℕ) (old new : Recency K V) : Type 0 where
    pub front : List (Entry K V)
    pub asked : List (Entry K V × Bool)
    pub left : F
    pub all : entries_in old.rows ≡ front ++ map (λ a. a.0) asked
    pub many : length asked ≡ min most (length old.rows)
    pub called : FoldsTo (λ p a q. Asks step p a.0 a.1 q) keep (reverse asked) left
    pub shown : IsShown Step visit (gone_of asked)
    pub kept : entries_in new.rows ≡ front ++ kept_of asked
    pub free_is : length new.rows + new.free ≡ length old.rows + old.free

  -- all rows went, the first first, and each was shown
  pub record DrainsRows {F : Type 0} (Step : F → Entry K V → F → Type 0) (visit : F) (old new : Recency K V) : Type 0 where
    pub last : F
    pub shown : FoldsTo Step visit (entries_in old.rows) last
    pub left : new ≡ recency [] (old.free + length old.rows)

  -- so far the first rows went, and each was shown
  pub record Draining {F : Type 0} (Step : F → Entry K V → F → Type 0) (visit last : F) (old now : Recency K V) : Type 0 where
    pub front : List (Placed K V)
    pub parts : old.rows ≡ front ++ now.rows
    pub free_is : now.free ≡ old.free + length front
    pub shown : FoldsTo Step visit (entries_in front) last
