use Rattle.std.proofs.Common.{ℕ, inl, nat_eq}
use Rattle.std.specs.Hash.{u64}
use Rattle.lru_index.specs.Hashing.{key_hash}
use Rattle.lru_index.specs.declared.hashing.SeededHashes.{SeededHashes}
use Rattle.lru_index.specs.contracts.hashing.SeededHashesBuildHasher.TheImpl as builder
use Rattle.lru_index.specs.contracts.hashing.SeededHasherHasher.TheImpl as hasher
use Rattle.lru_owned_cache.specs.Cache.{entry_of}
use Rattle.trace_player_inside.proofs.Unseen.{none_of, is_used, put_asking}
use Rattle.trace_player_inside.proofs.asked.AskingCacheU64UnitAsked.ask.Goals as goal

abbrev hash : SeededHashes → ℕ → ℕ
hash = key_hash builder.ghosts hasher.ghosts u64

pub returns-in-Ok : goal.returns-in-Ok
returns-in-Ok c =
    let none = none_of (entry_of nat_eq c.args.self.now.cache.entries c.args.request.key) c.if-promote.ensures.answer in (
      none,
      inl (put_asking hash _ _ c.args.self.now c.promote.new.self c.args.request c.max.result c.in-Ok.field-0 c.put.new.self none
          (is_used hash c.args.self.now c.promote.new.self c.args.request c.if-promote.ensures.cache c.if-promote.ensures.sketch) c.max.ensures c.in-Ok.ensures),
    )
