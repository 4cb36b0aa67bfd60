use Rattle.lru_index.specs.Hashing.{key_hash}
use Rattle.lru_shared_cache.specs.Shards.{home}
use Rattle.lru_shared_segmented.proofs.Walked.{shard_walks, shard_loses, all_keep}
use Rattle.lru_shared_segmented.proofs.laws.no_scan_evicts.Goals as goal

pub returns-clause-walks : goal.returns-clause-walks
returns-clause-walks g c = λ hashes calls old new walks i d under.
    shard_walks (λ k. home g.row.N (key_hash g.S.BuildHasher g.S.Hasher.Hasher g.K.Hash.hash_input hashes k)) g.K.PartialEq.eq (λ p x q. goal.F-step g p x tt q) i d calls old new walks under

pub returns-clause-fitting : goal.returns-clause-fitting
returns-clause-fitting g c = λ hashes calls old new walks fit.
    all_keep (λ k. home g.row.N (key_hash g.S.BuildHasher g.S.Hasher.Hasher g.K.Hash.hash_input hashes k)) g.K.PartialEq.eq (λ p x q. goal.F-step g p x tt q) calls old new walks fit

pub returns-clause-heavier : goal.returns-clause-heavier
returns-clause-heavier g c = λ hashes calls old new walks i d under.
    shard_loses (λ k. home g.row.N (key_hash g.S.BuildHasher g.S.Hasher.Hasher g.K.Hash.hash_input hashes k)) g.K.PartialEq.eq (λ p x q. goal.F-step g p x tt q) i d calls old new walks under
