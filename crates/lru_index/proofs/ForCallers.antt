-- What a caller's proof needs of an index and its keys.
use Rattle.std.proofs.Common.{◌≡◌, ℕ, Bool, List, ap, ◌∙◌, Option, None}
use Rattle.std.specs.Option.{option_map}
use Rattle.std.specs.Prelude.{◌/◌, ◌^◌}
use Rattle.std.specs.declared.hash.Hasher as hasher
use Rattle.std.specs.declared.hash.BuildHasher as builder
use Rattle.lru_index.specs.Hashing.{hash_by, key_hash}
use Rattle.lru_index.specs.Index.{Index, IsEmpty, IsFree, Indexes}
use Rattle.lru_index.proofs.Tables.{none_is}

-- what stands for a key has that key's hash
pub same_hash : {S H K Q : Type 0} (b : builder.Ghosts S H) (h : hasher.Ghosts H) (writes : K → List (List ℕ)) (asked : Q → List (List ℕ)) (hash_builder : S) (key : K) (query : Q) → writes key ≡ asked query → key_hash b h writes hash_builder key ≡ key_hash b h asked hash_builder query
same_hash b h writes asked hash_builder key query alike = ap (hash_by b h hash_builder) alike

module _ {K S : Type 0} (eq : K → K → Bool) (hash : S → K → ℕ) (index : Index S) where
  -- an empty index is that of no keys
  pub of_none : IsEmpty index → Indexes eq hash index (λ _. None)
  of_none empty = record { known = empty; once = λ p q j k e. absurd (none_is j e) }

  -- a place without a key is free
  pub is_free : (keys : ℕ → Option K) → Indexes eq hash index keys → (p : ℕ) → keys p ≡ None → IsFree index p
  is_free keys of p e = of.known p ∙ ap (option_map (λ k. hash index.hash_builder k / 2 ^ index.shift)) e

  -- the index of keys is that of the same keys by another function
  pub same_keys : (keys keys' : ℕ → Option K) → ((p : ℕ) → keys p ≡ keys' p) → Indexes eq hash index keys → Indexes eq hash index keys'
  same_keys keys keys' same of = record {
    known = λ p. of.known p ∙ ap (option_map (λ k. hash index.hash_builder k / 2 ^ index.shift)) (same p);
    once = λ p q j k ej ek. of.once p q j k (same p ∙ ej) (same q ∙ ek);
  }
