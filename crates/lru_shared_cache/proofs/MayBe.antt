-- What follows from what was answered of some shard whose entries are related.
use Rattle.std.proofs.Common.{◌≡◌, ℕ, cond, List, [], ◌∷◌, ◌++◌, Some, None, Ok, Err, refl, sym, subst, true, false}
use Rattle.std.specs.Prelude.{Option, Bool, Result, IfSome, IfOk}
use Rattle.std.specs.Borrow.{Bor, MutBor}
use Rattle.std.specs.declared.alloc.AllocError.{AllocError}
use Rattle.std.proofs.lemmas.List.Elements.{All-head, All-tail}
use Rattle.lru_owned_cache.specs.declared.entry.Entry.{Entry}
use Rattle.lru_owned_cache.specs.Cache.{entry_of}
use Rattle.lru_shared_cache.specs.Counting.{ShardOf, PopsShard, Takes}
use Rattle.lru_shared_cache.specs.Calls.{ShowsEntry, IsCloned, Gets, Lends}
use Rattle.lru_shared_cache.specs.Relations.{IsRelated, AreRelated, IsOf}
use Rattle.lru_shared_cache.specs.Related.{MayShowRelated, MayLendRelated, MayGetRelated, MayTakeRelated}
use Rattle.lru_shared_cache.proofs.Keeping.{own_of, found_own}

module _ {K V : Type 0} (holds : K → V → Type 0) where
  module _ {Q : Type 0} (eq : K → Q → Bool) where
    first_keyed : (e : Entry K V) (rest : Option (Entry K V)) (key : Q) (b : Bool) → eq e.key key ≡ b → IfSome rest (λ x. eq x.key key ≡ true) → IfSome (cond b (Some e) rest) (λ x. eq x.key key ≡ true)
    first_keyed e rest key true is held = is
    first_keyed e rest key false is held = held

    -- the entry of a key has that key
    pub keyed : (es : List (Entry K V)) (key : Q) → IfSome (entry_of eq es key) (λ x. eq x.key key ≡ true)
    keyed [] key = tt
    keyed (e ∷ es) key = first_keyed e (entry_of eq es key) key (eq e.key key) refl (keyed es key)

    -- the value of a key's entry is that key's
    pub is_of : (es : List (Entry K V)) (key : Q) (e : Entry K V) (value : V) → AreRelated holds es → entry_of eq es key ≡ Some e → value ≡ e.value → IsOf holds eq key value
    is_of es key e value h is same = (e.key, (subst (λ o. IfSome o (λ x. eq x.key key ≡ true)) is (keyed es key), subst (λ v. IsRelated holds e.key v) (sym same) (own_of holds eq es key e h is)))

    pub may_show : {R : Type 0} (post : Bor V → R → Type 0) (es : List (Entry K V)) (key : Q) (result : Option R) → AreRelated holds es → ShowsEntry eq post es key result → IfSome result (MayShowRelated holds eq key post)
    may_show post es key None h shows = tt
    may_show post es key (Some answer) h (e, (is, (lent, (same, called)))) = (lent, (is_of es key e lent.now h is same, called))

    pub may_lend : {R S : Type 0} (post : MutBor V → ℕ → R → MutBor V → Type 0) (before : ShardOf K V S) (key : Q) (result : Option R) (after : ShardOf K V S) → AreRelated holds before.cache.entries → Lends eq post before key result after → IfSome result (MayLendRelated holds eq key post)
    may_lend post before key None after h lends = tt
    may_lend post before key (Some answer) after h ((e, (is, (v, (lends, new_is)))), counted) =
        (lends.lent, (e.weight, (lends.left, (is_of before.cache.entries key e lends.lent.now h is lends.shows, lends.called))))

    cloned : (clones : V → V → Type 0) (es : List (Entry K V)) (key : Q) (o : Option (Entry K V)) (v : V) → AreRelated holds es → entry_of eq es key ≡ o → IsCloned clones o (Some v) → MayGetRelated holds eq clones key v
    cloned clones es key None v h is c = absurd c
    cloned clones es key (Some e) v h is c = (e.value, (is_of es key e e.value h is refl, c))

    pub may_get : {S : Type 0} (clones : V → V → Type 0) (before : ShardOf K V S) (key : Q) (result : Result (Option V) AllocError) (after : ShardOf K V S) → AreRelated holds before.cache.entries → Gets eq clones before key result after → IfOk result (λ found. IfSome found (MayGetRelated holds eq clones key))
    may_get clones before key (Err e) after h gets = tt
    may_get clones before key (Ok None) after h gets = tt
    may_get clones before key (Ok (Some v)) after h gets = cloned clones before.cache.entries key (entry_of eq before.cache.entries key) v h refl gets.0.0

    both : (o : Option (Entry K V)) (key : Q) → IfSome o (λ e. eq e.key key ≡ true) → IfSome o (λ e. IsRelated holds e.key e.value) → IfSome o (MayTakeRelated holds eq key)
    both None key is own = tt
    both (Some e) key is own = (is, own)

    pub may_take : {S : Type 0} (before : ShardOf K V S) (key : Q) (result : Option (Entry K V)) (after : ShardOf K V S) → AreRelated holds before.cache.entries → Takes eq before key result after → IfSome result (MayTakeRelated holds eq key)
    may_take before key result after h takes =
        subst (λ o. IfSome o (MayTakeRelated holds eq key)) (sym takes.0) (both (entry_of eq before.cache.entries key) key (keyed before.cache.entries key) (found_own holds eq before.cache.entries key h))

  -- what stands last in such entries
  last_own : (front : List (Entry K V)) (e : Entry K V) → AreRelated holds (front ++ e ∷ []) → IsRelated holds e.key e.value
  last_own [] e h = All-head (λ x. IsRelated holds x.key x.value) e [] h
  last_own (x ∷ xs) e h = last_own xs e (All-tail (λ x. IsRelated holds x.key x.value) x (xs ++ e ∷ []) h)

  pub may_pop : {S : Type 0} (before : ShardOf K V S) (result : Option (Entry K V)) (after : ShardOf K V S) → AreRelated holds before.cache.entries → PopsShard before result after → IfSome result (λ e. IsRelated holds e.key e.value)
  may_pop before None after h pops = tt
  may_pop before (Some e) after h ((front, (parts, is)), counted) = last_own front e (subst (λ es. AreRelated holds es) parts h)
