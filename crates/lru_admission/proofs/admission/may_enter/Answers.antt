use Rattle.std.proofs.Common.{ap, ◌∙◌, arith}
use Rattle.lru_index.specs.Hashing.{key_hash}
use Rattle.lru_admission.specs.Sketch.{estimate}
use Rattle.lru_owned_cache.specs.Cache.{entry_of}
use Rattle.lru_admission.specs.Admission.{watched}
use Rattle.lru_admission.proofs.Entering.{enters, enters_again, none_found}
use Rattle.lru_admission.proofs.admission.may_enter.Goals as goal
use Rattle.lru_admission.proofs.admission.may_enter.Goals.{then-weight-most_weight-via-then-weight-most_weight, then-weight-most_weight-via-else-weight-most_weight+then-most_entries-eq0, then-weight-most_weight-via-else-weight-most_weight+else-most_entries-eq0+then-contains_hashed}

pub returns-then-weight-most_weight : goal.returns-then-weight-most_weight
returns-then-weight-most_weight g c =
    elim c.then-weight-most_weight.branch [
      | then-weight-most_weight-via-then-weight-most_weight w ↦ λ light some front gone none leaves. absurd (omega (arith, c.most_weight-most_weight.ensures))
      | then-weight-most_weight-via-else-weight-most_weight+then-most_entries-eq0 w ↦ λ light some front gone none leaves. absurd (omega (arith, c.most_entries-most_entries.ensures))
      | then-weight-most_weight-via-else-weight-most_weight+else-most_entries-eq0+then-contains_hashed w ↦
          enters_again g.K.PartialEq.eq (key_hash g.S.BuildHasher g.S.Hasher.Hasher g.K.Hash.hash_input c.args.cache.now.hashes) (watched c.args.cache.now c.args.sketch.now) c.args.key.now c.args.weight
          w.contains_hashed.result w.contains_hashed.ensures w.if-contains_hashed.true
    ]

pub returns : goal.returns
returns g c =
    let eq = g.K.PartialEq.eq in
    let hash = key_hash g.S.BuildHasher g.S.Hasher.Hasher g.K.Hash.hash_input c.args.cache.now.hashes in
    let old = watched c.args.cache.now c.args.sketch.now in
    enters eq hash old c.args.key.now c.args.weight c.estimate-count.result _ _ c.outdoes.result
    (none_found eq hash old c.args.key.now c.args.weight (entry_of eq c.args.cache.now.entries c.args.key.now) c.contains_hashed.result c.contains_hashed.ensures c.if-contains_hashed.false)
    (omega (arith, c.most_weight-most_weight.ensures, c.if-weight-most_weight.false)) (omega (arith, c.most_entries-most_entries.ensures, c.if-most_entries-eq0.false))
    (c.estimate-count.ensures.estimate ∙ ap (λ h. estimate c.args.sketch.now h) c.requires)
    (omega (arith, c.most_weight-most_weight.ensures)) (omega (arith, c.most_entries-most_entries.ensures)) c.outdoes.ensures
