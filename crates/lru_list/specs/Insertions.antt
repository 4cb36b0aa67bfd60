-- An item put before another.
use Rattle.std.specs.Prelude.{ℕ, ◌==◌, List, [], ◌∷◌, drop, if◌then◌else◌}
use Rattle.lru_list.specs.Linked.{Linked, linked, next_slot}

module _ {K : Type 0} where
  -- the pairs with one more before that of an index, or last where it has none
  abbrev pub put_before : List (ℕ × K) → ℕ → ℕ × K → List (ℕ × K)
  put_before [] i x = x ∷ []
  put_before (p ∷ ps) i x = if p.0 == i then x ∷ p ∷ ps else p ∷ put_before ps i x

  -- an item put before that of an index
  abbrev pub inserted : Linked K → ℕ → K → Linked K
  inserted l i x = linked (put_before l.live i (next_slot l, x)) (drop 1 l.freed)
