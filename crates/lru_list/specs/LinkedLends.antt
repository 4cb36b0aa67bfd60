-- What a list ends as, where a `&mut` to one of its items is returned.
use Rattle.std.specs.Prelude.{ℕ, Option}
use Rattle.std.specs.Borrow.{Lends, LendsIf, Fml, RattleType, MutBor}
use Rattle.lru_list.specs.Linked.{Linked, with_item}
use Rattle.lru_list.specs.contracts.linked_list.LinkedList.{the_row}

-- once the borrow r ends, the index has the last value written through r
abbrev pub lends_slot : (K : RattleType) → MutBor (Linked K.Denot) → ℕ → MutBor K.Denot → Fml
lends_slot K l i r = Lends (the_row K) K l r (with_item l.now i)

-- the same where r is a reference, and at `None` the list stays as it is
abbrev pub lends_item : (K : RattleType) → MutBor (Linked K.Denot) → ℕ → Option (MutBor K.Denot) → Fml
lends_item K l i r = LendsIf (the_row K) K l r (with_item l.now i) l.now
