use Rattle.lru_index.specs.Hashing.{key_hash}
use Rattle.lru_shared_cache.specs.Shards.{home}
use Rattle.lru_shared_segmented.proofs.Requested.{no_request}
use Rattle.lru_shared_segmented.proofs.laws.no_request_evicts.Goals as goal

pub returns : goal.returns
returns g c = λ hashes requests old new does fit.
    no_request (λ k. home g.row.N (key_hash g.S.BuildHasher g.S.Hasher.Hasher g.K.Hash.hash_input hashes k)) g.K.PartialEq.eq g.V.Clone.is_clone (λ p x q. goal.F-step g p x tt q) (goal.M-post g) requests old new does fit
