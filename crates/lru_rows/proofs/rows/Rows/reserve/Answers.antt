use Rattle.std.proofs.Common.{length, ap, ◌∙◌, arith}
use Rattle.std.specs.Prelude.{Result, Ok, Err, IfOk}
use Rattle.lru_list.specs.Linked.{Linked}
use Rattle.lru_index.specs.Hashing.{key_hash}
use Rattle.lru_rows.specs.Representation.Columns.{rows_in}
use Rattle.lru_rows.proofs.Kept.{length_is}
use Rattle.lru_rows.proofs.rows.Rows.reserve.Goals as goal

if_ok : {A E P : Type 0} (r : Result A E) → P → IfOk r (λ _. P)
if_ok (Ok a) p = p
if_ok (Err e) p = tt

pub returns-clause-room : goal.returns-clause-room
returns-clause-room g c =
    let i = c.self.inside in
    let same =
    ap (λ ws. length (rows_in ws c.reserve.new.self.values.items c.reserve-2.new.self.live)) c.reserve.ensures.weights
    ∙ ap (λ vs. length (rows_in i.columns.weights.items vs c.reserve-2.new.self.live)) c.reserve.ensures.values
    ∙ ap (λ (l : Linked g.row.K.Denot). length (rows_in i.columns.weights.items i.columns.values.items l.live)) c.reserve-2.ensures.same
    ∙ length_is g.K.PartialEq.eq (key_hash g.S.BuildHasher g.S.Hasher.Hasher g.K.Hash.hash_input) i.order.list i.columns.index i.columns.weights.items i.columns.values.items c.self.invariant in
    if_ok c.reserve-2.result (omega (arith, same, c.len-len.ensures.len, c.if-additional-len.false))
