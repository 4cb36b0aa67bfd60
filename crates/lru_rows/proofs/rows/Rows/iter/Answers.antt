use Rattle.lru_index.specs.Hashing.{key_hash}
use Rattle.std.proofs.Common.{ap, sym, subst, ◌∙◌}
use Rattle.lru_rows.specs.Representation.Columns.{ShowsAll, pairs_at}
use Rattle.lru_rows.proofs.Shown.{shows_all, all_pairs}
use Rattle.lru_rows.proofs.rows.Rows.iter.Goals as goal

pub invariant_of-result : goal.invariant_of-result
invariant_of-result g c =
    subst (λ ws. ShowsAll ws c.as_slice-2.result.now c.indices.result) (sym c.as_slice.ensures.value)
    (subst (λ vs. ShowsAll c.self.inside.columns.weights.items vs c.indices.result) (sym c.as_slice-2.ensures.value)
    (subst (ShowsAll c.self.inside.columns.weights.items c.self.inside.columns.values.items) (sym c.indices.ensures.rest) (shows_all g.K.PartialEq.eq (key_hash g.S.BuildHasher g.S.Hasher.Hasher g.K.Hash.hash_input) c.self.inside.order.list c.self.inside.columns.index c.self.inside.columns.weights.items c.self.inside.columns.values.items c.self.invariant c.args.self.now c.self.view_is)))

pub returns : goal.returns
returns g c =
    ap (λ ws. pairs_at ws c.as_slice-2.result.now c.indices.result) c.as_slice.ensures.value
    ∙ ap (λ vs. pairs_at c.self.inside.columns.weights.items vs c.indices.result) c.as_slice-2.ensures.value
    ∙ ap (pairs_at c.self.inside.columns.weights.items c.self.inside.columns.values.items) c.indices.ensures.rest ∙ all_pairs g.K.PartialEq.eq (key_hash g.S.BuildHasher g.S.Hasher.Hasher g.K.Hash.hash_input) c.self.inside.order.list c.self.inside.columns.index c.self.inside.columns.weights.items c.self.inside.columns.values.items c.self.invariant c.args.self.now c.self.view_is
