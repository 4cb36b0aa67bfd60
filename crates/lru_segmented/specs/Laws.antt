-- Without a share a segmented cache is one with one order, call for call.
use Rattle.std.specs.Prelude.{◌≡◌, ℕ, Bool, [], Option, Result, is_some}
use Rattle.std.specs.Borrow.{MutBor}
use Rattle.lru_owned_cache.specs.declared.entry.Entry.{Entry}
use Rattle.lru_owned_cache.specs.declared.cache.Refused.{Refused}
use Rattle.lru_owned_cache.specs.declared.cache.NotPut.{NotPut}
use Rattle.lru_owned_cache.specs.Cache.{entry_of, without, used, with_entries, PopsLast as CachePopsLast, UpdatesEntry as CacheUpdatesEntry, Puts as CachePuts, UsesOrPuts as CacheUsesOrPuts, Clears as CacheClears}
use Rattle.lru_segmented.specs.Segmented.{Segmented, entries, plain, removed, IsSegmented, LetsGo, Uses, UpdatesEntry, PopsLast, Puts, UsesOrPuts}

module _ {K V S F U R M E : Type 0} (eq : K → K → Bool) (Step : F → Entry K V → F → Type 0) (Post : U → MutBor V → ℕ → R → MutBor V → Type 0) (Makes : M → Result (V × ℕ) E → Type 0) where
  -- what a call leaves has no upper segment, and, seen as one order, is what the same call of a `Cache` leaves
  pub record IsPlain (old new : Segmented K V S) : Type 0 where
    pub none : old.upper ≡ []
    pub uses : (key : K) (answer : Bool) → Uses eq old key answer new →
        (new.upper ≡ []) × ((answer ≡ is_some (entry_of eq (entries old) key)) × (plain new ≡ with_entries (plain old) (used eq (entries old) key)))
    pub updates : (update : U) (key : K) (answer : Option R) → UpdatesEntry eq (Post update) old key answer new →
        (new.upper ≡ []) × CacheUpdatesEntry eq (Post update) (plain old) key answer (plain new)
    pub removes : (key : K) → new ≡ removed eq old key → (new.upper ≡ []) × (plain new ≡ with_entries (plain old) (without eq (entries old) key))
    pub pops : (answer : Option (Entry K V)) → PopsLast old answer new → (new.upper ≡ []) × CachePopsLast (plain old) answer (plain new)
    pub puts : (visit : F) (key : K) (value : V) (weight : ℕ) (answer : Result (Option (Entry K V)) (Refused K V)) →
        Puts eq Step visit old key value weight answer new → (new.upper ≡ []) × CachePuts eq Step visit (plain old) key value weight answer (plain new)
    pub uses_or_puts : (make : M) (visit : F) (key : K) (answer : Result Bool (NotPut K V E)) →
        UsesOrPuts eq (Makes make) Step visit old key answer new → (new.upper ≡ []) × CacheUsesOrPuts eq (Makes make) Step visit (plain old) key answer (plain new)
    pub clears : (visit : F) → LetsGo Step visit 0 0 old new → (new.upper ≡ []) × CacheClears Step visit (plain old) (plain new)

-- where the share is nothing, each call is that of a `Cache`
abbrev pub PlainWithoutShare : {K V F U R M E : Type 0} → Type 0 → (K → K → Bool) → (F → Entry K V → F → Type 0) → (U → MutBor V → ℕ → R → MutBor V → Type 0) → (M → Result (V × ℕ) E → Type 0) → Type 0
PlainWithoutShare {K} {V} S eq Step Post Makes = (old new : Segmented K V S) → IsSegmented eq old → old.most_protected ≡ 0 → IsPlain eq Step Post Makes old new
