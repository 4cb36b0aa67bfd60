use Rattle.lru_index.specs.Hashing.{key_hash}
use Rattle.std.proofs.Common.{◌≡◌, ◌∙◌, ap, subst, Some}
use Rattle.lru_rows.specs.Rows.{recency, row_at, with_value}
use Rattle.lru_pairs.proofs.Kept.{seen_held, kept_as, keys_value}
use Rattle.lru_pairs.proofs.pairs.Pairs.update.Goals as goal

pub invariant_of-self : goal.invariant_of-self
invariant_of-self g c =
    let told = c.update.ensures.updates in
    kept_as g.K.PartialEq.eq (key_hash g.S.BuildHasher g.S.Hasher.Hasher g.K.Hash.hash_input) c.self.inside.nodes c.self.inside.index c.self.invariant c.update.new.self (with_value c.self.inside.nodes.held.rows c.args.place told.2) told.4 c.update.ensures.room c.update.ensures.valid (keys_value c.self.inside.nodes.held.rows c.args.place told.2)

pub returns-clause-updates : goal.returns-clause-updates
returns-clause-updates g c =
    let told = c.update.ensures.updates in (
      told.0,
      subst (λ r. row_at r.rows c.args.place ≡ Some told.0) (seen_held c.self.inside.nodes.held c.self.inside.index.hash_builder c.args.self.now c.self.view_is) told.1,
      told.2,
      told.3,
      told.4 ∙ ap (λ r. recency (with_value r.rows c.args.place told.2) r.free) (seen_held c.self.inside.nodes.held c.self.inside.index.hash_builder c.args.self.now c.self.view_is),
    )
