-- What pairs end as, where a `&mut` to a value is returned.
use Rattle.std.specs.Prelude.{ℕ, Bool, List}
use Rattle.std.specs.Borrow.{Lends, Fml, RattleType, MutBor}
use Rattle.std.specs.declared.hash.Hasher as hasher
use Rattle.std.specs.declared.hash.BuildHasher as builder
use Rattle.lru_rows.specs.Rows.{recency, with_value}
use Rattle.lru_pairs.specs.Pairs.{Paired, paired}
use Rattle.lru_pairs.specs.contracts.pairs.Pairs.{the_row}

-- what a clause has as K.Hash
abbrev pub HashMembers : Type 0 → Type 0
HashMembers K = record { eq : K → K → Bool; hash_input : K → List (List ℕ) }

-- the row of pairs
abbrev pub pairs_row : (K V S T : RattleType) → HashMembers K.Denot → builder.Ghosts S.Denot T.Denot → hasher.Ghosts T.Denot → RattleType
pairs_row K V S T g b w = the_row K V S T (record { hash_input = g.hash_input }) (record { eq = g.eq }) b w

-- once the borrow r ends, the pair at the place has the last value written through r
abbrev pub lends_value : (K V S T : RattleType) (g : HashMembers K.Denot) (b : builder.Ghosts S.Denot T.Denot) (w : hasher.Ghosts T.Denot) → MutBor (Paired K.Denot V.Denot S.Denot) → ℕ → MutBor V.Denot → Fml
lends_value K V S T g b w n p r = Lends (pairs_row K V S T g b w) V n r (λ d. paired (recency (with_value n.now.held.rows p d) n.now.held.free) n.now.hashes)
