use Rattle.std.proofs.Common.{nat_eq}
use Rattle.std.specs.Hash as fed
use Rattle.lru_index.specs.Hashing.{key_hash}
use Rattle.lru_index.specs.Index.{Indexes}
use Rattle.lru_rows_tests.specs.Rows.{key_in}
use Rattle.lru_rows_tests.proofs.table.add_colliding.Given as goal

abbrev pub invariant-loop-number : goal.invariant-loop-number
invariant-loop-number g l = Indexes nat_eq (key_hash g.S.BuildHasher g.S.Hasher.Hasher fed.u64) l.index (key_in l.rows.keys.items)
