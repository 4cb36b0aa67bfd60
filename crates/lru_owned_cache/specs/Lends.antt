-- What a cache ends as, where a `&mut` to a value is returned.
use Rattle.std.specs.Prelude.{ℕ, Bool, List, Option}
use Rattle.std.specs.Borrow.{LendsIf, Fml, RattleType, MutBor}
use Rattle.std.specs.declared.hash.Hasher as hasher
use Rattle.std.specs.declared.hash.BuildHasher as builder
use Rattle.lru_owned_cache.specs.Cache.{Cached, with_entries, used_with}
use Rattle.lru_owned_cache.specs.contracts.cache.Cache.{the_row}

-- what a clause has as K.Hash
abbrev pub HashMembers : Type 0 → Type 0
HashMembers K = record { eq : K → K → Bool; hash_input : K → List (List ℕ) }

-- once the borrow r ends, the key's entry stands first with the last value written through r; where r is `None`, the cache is as it was
abbrev pub lends_value : (K V S T : RattleType) (g : HashMembers K.Denot) (b : builder.Ghosts S.Denot T.Denot) (w : hasher.Ghosts T.Denot) {Q : Type 0} → (K.Denot → Q → Bool) → MutBor (Cached K.Denot V.Denot S.Denot) → Q → Option (MutBor V.Denot) → Fml
lends_value K V S T g b w eq c key r =
    LendsIf (the_row K V S T (record { hash_input = g.hash_input }) (record { eq = g.eq }) b w) V c r (λ v. with_entries c.now (used_with eq c.now.entries key v)) c.now
