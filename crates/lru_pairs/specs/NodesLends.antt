-- What nodes end as, where a `&mut` to a value is returned.
use Rattle.std.specs.Prelude.{ℕ}
use Rattle.std.specs.Borrow.{Lends, Fml, RattleType, MutBor}
use Rattle.lru_rows.specs.Rows.{with_value}
use Rattle.lru_pairs.specs.Representation.Nodes.{Laid, with_rows}
use Rattle.lru_pairs.specs.contracts.nodes.Nodes.{the_row}

-- once the borrow r ends, the pair at the place has the last value written through r
abbrev pub lends_value : (K V : RattleType) → MutBor (Laid K.Denot V.Denot) → ℕ → MutBor V.Denot → Fml
lends_value K V n p r = Lends (the_row K V) V n r (λ w. with_rows n.now (with_value n.now.held.rows p w))
