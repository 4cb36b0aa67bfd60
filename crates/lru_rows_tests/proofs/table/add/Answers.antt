use Rattle.std.proofs.Common.{◌≡◌, length, subst, ◌∙◌}
use Rattle.lru_index.specs.Index.{IsAbsent, put}
use Rattle.lru_index.specs.Hashing.{key_hash}
use Rattle.lru_index.proofs.ForCallers.{same_keys}
use Rattle.lru_rows_tests.specs.Rows.{key_in}
use Rattle.lru_rows_tests.proofs.Rowed.{same_key, added}
use Rattle.lru_rows_tests.proofs.table.add.Goals as goal

pub returns : goal.returns
returns g c =
    let old = c.args.rows.now.keys in
    let new = c.push.new.self.items in
    let p = c.len-len.result in
    let last : p ≡ length old.items = c.len-len.ensures ∙ old.ok.0 in
    let same = same_key old.items new c.args.key c.key_at.result.now p c.in-Ok.ensures.items last c.key_at.ensures in
    let absent = subst (IsAbsent g.K.PartialEq.eq (key_in old.items)) same c.in_default.ensures in
    same_keys g.K.PartialEq.eq (key_hash g.S.BuildHasher g.S.Hasher.Hasher g.K.Hash.hash_input) c.insert.new.self (put (key_in old.items) p c.key_at.result.now) (key_in new)
    (added old.items new c.args.key c.key_at.result.now p c.in-Ok.ensures.items last c.key_at.ensures)
    (c.insert.ensures.indexes (key_in old.items) absent c.in_ok-reserve.ensures.indexes)
