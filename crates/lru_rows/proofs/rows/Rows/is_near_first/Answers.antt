use Rattle.lru_index.specs.Hashing.{key_hash}
use Rattle.std.proofs.Common.{ap, ◌∙◌}
use Rattle.std.specs.Prelude.{take}
use Rattle.std.specs.List.{list_any}
use Rattle.lru_rows.proofs.Shown.{all_keys}
use Rattle.lru_rows.proofs.rows.Rows.is_near_first.Goals as goal

pub returns : goal.returns
returns g c = c.exist_near_head.ensures ∙ ap (λ ks. list_any (λ k. g.K.PartialEq.eq k c.args.key.now) (take c.args.limit ks)) (all_keys g.K.PartialEq.eq (key_hash g.S.BuildHasher g.S.Hasher.Hasher g.K.Hash.hash_input) c.self.inside.order.list c.self.inside.columns.index c.self.inside.columns.weights.items c.self.inside.columns.values.items c.self.invariant c.args.self.now c.self.view_is)
