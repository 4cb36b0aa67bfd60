use Rattle.std.proofs.Common.{set, None, arith}
use Rattle.lru_index.specs.Index.{gone}
use Rattle.lru_index.specs.Hashing.{key_hash}
use Rattle.lru_index.proofs.ForCallers.{same_keys}
use Rattle.lru_rows_tests.specs.Rows.{key_in}
use Rattle.lru_rows_tests.proofs.Rowed.{taken}
use Rattle.lru_rows_tests.proofs.table.take_at.Goals as goal

pub returns : goal.returns
returns g c =
    let old = c.args.rows.now.keys in
    same_keys g.K.PartialEq.eq (key_hash g.S.BuildHasher g.S.Hasher.Hasher g.K.Hash.hash_input) c.remove_at.new.self (gone (key_in old.items) c.args.place) (key_in (set old.items c.args.place None))
    (taken old.items c.args.place (omega (arith, c.in-Some-Some.ensures.lookup, c.deref.ensures.len)))
    (c.remove_at.ensures.drops (key_in old.items) c.requires)
