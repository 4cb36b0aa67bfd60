use Rattle.lru_index.specs.Hashing.{key_hash}
use Rattle.std.specs.Prelude.{map}
use Rattle.lru_list.specs.Linked.{indices_of}
use Rattle.lru_rows.specs.Rows.{entry_of}
use Rattle.std.proofs.Common.{ap, sym, subst, ◌∙◌}
use Rattle.lru_rows.specs.Representation.Columns.{ShowsAll, rows_in}
use Rattle.lru_rows.proofs.Shown.{shows_all, all_entries}
use Rattle.lru_rows.proofs.rows.Rows.entries.Goals as goal

pub invariant_of-result : goal.invariant_of-result
invariant_of-result g c =
    subst (λ ws. ShowsAll ws c.as_slice-2.result.now (indices_of c.entries.result)) (sym c.as_slice.ensures.value)
    (subst (λ vs. ShowsAll c.self.inside.columns.weights.items vs (indices_of c.entries.result)) (sym c.as_slice-2.ensures.value)
    (subst (ShowsAll c.self.inside.columns.weights.items c.self.inside.columns.values.items) (sym (ap indices_of c.entries.ensures.rest)) (shows_all g.K.PartialEq.eq (key_hash g.S.BuildHasher g.S.Hasher.Hasher g.K.Hash.hash_input) c.self.inside.order.list c.self.inside.columns.index c.self.inside.columns.weights.items c.self.inside.columns.values.items c.self.invariant c.args.self.now c.self.view_is)))

pub returns : goal.returns
returns g c =
    ap (λ ws. map entry_of (rows_in ws c.as_slice-2.result.now c.entries.result)) c.as_slice.ensures.value
    ∙ ap (λ vs. map entry_of (rows_in c.self.inside.columns.weights.items vs c.entries.result)) c.as_slice-2.ensures.value
    ∙ ap (λ ps. map entry_of (rows_in c.self.inside.columns.weights.items c.self.inside.columns.values.items ps)) c.entries.ensures.rest ∙ all_entries g.K.PartialEq.eq (key_hash g.S.BuildHasher g.S.Hasher.Hasher g.K.Hash.hash_input) c.self.inside.order.list c.self.inside.columns.index c.self.inside.columns.weights.items c.self.inside.columns.values.items c.self.invariant c.args.self.now c.self.view_is
