-- What a walk over shards does to one of them is a walk over that one.
use Rattle.std.proofs.Common.{◌≡◌, ℕ, ◌<◌, ◌==◌, cond, List, [], ◌∷◌, ◌++◌, length, Ok, Err, None, refl, sym, ap, ◌∙◌, subst, true, false, length-set, arith, eqb-true}
use Rattle.std.specs.Prelude.{Option, Bool, Result, All, map, filter, suc, slice_index_or, slice_set}
use Rattle.std.proofs.lemmas.Bool.{eqb-false}
use Rattle.std.proofs.lemmas.List.{get_or-set_same, get_or-set_other, get_or_default}
use Rattle.std.proofs.lemmas.List.Elements.{All-head, All-tail, All-cons, All-nil}
use Rattle.lru_owned_cache.specs.declared.entry.Entry.{Entry}
use Rattle.lru_owned_cache.specs.declared.cache.Refused.{Refused}
use Rattle.lru_owned_cache.specs.Cache.{entry_of}
use Rattle.lru_segmented.specs.Segmented.{entries, Puts}
use Rattle.lru_segmented.specs.Scans.{Call, Look, Put, Walks, CallFits, FitsBeside}
use Rattle.lru_segmented.proofs.Walked.{no_scan, end_only}
use Rattle.lru_shared_segmented.specs.Calls.{ShardOf, PutsCounted}
use Rattle.lru_shared_segmented.specs.Walks.{is_of, FitsInShard, WalksShards, upper_of}

-- what is said of each element is said of all
pub same_maps : {A B : Type 0} (f : A → B) (xs ys : List A) → length xs ≡ length ys → ((i : ℕ) (d : A) → i < length ys → f (slice_index_or xs i d) ≡ f (slice_index_or ys i d)) → map f xs ≡ map f ys
same_maps f [] [] many each = refl
same_maps f [] (y ∷ ys) many each = absurd (omega (arith, many))
same_maps f (x ∷ xs) [] many each = absurd (omega (arith, many))
same_maps f (x ∷ xs) (y ∷ ys) many each = ap (λ h. h ∷ map f xs) (each 0 x (omega arith)) ∙ ap (λ t. f y ∷ t) (same_maps f xs ys (omega (arith, many)) (λ i d under. each (suc i) d (omega (arith, under))))

module _ {K V S F : Type 0} (at : K → ℕ) (eq : K → K → Bool) (Step : F → Entry K V → F → Type 0) where
  puts_in : (visit : F) (k : K) (v : V) (w : ℕ) (answer : Result (Option (Entry K V)) (Refused K V)) (before after : ShardOf K V S) → PutsCounted Step visit eq before k v w answer after
      → Puts eq Step visit before.cache k v w answer after.cache
  puts_in visit k v w (Ok was) before after puts = puts.0
  puts_in visit k v w (Err r) before after puts = puts.0

  walk_length : (calls : List (Call K V)) (old new : List (ShardOf K V S)) → WalksShards at eq Step calls old new → length new ≡ length old
  walk_length [] old new walks = ap length walks
  walk_length (Look ∷ calls) old new walks = walk_length calls old new walks
  walk_length (Put k v w ∷ calls) old new (visit, (answer, (mid, ((before, (after, (found, (puts, is)))), rest)))) = walk_length calls mid new rest ∙ ap length is ∙ length-set old (at k) after

  module _ (i : ℕ) (d : ShardOf K V S) where
    -- one put, of a key of this shard or of another
    walk_put : (k : K) (v : V) (w : ℕ) (calls : List (Call K V)) (old mid new : List (ShardOf K V S)) (visit : F) (answer : Result (Option (Entry K V)) (Refused K V)) (before after : ShardOf K V S)
        → i < length old → slice_index_or old (at k) before ≡ before → entry_of eq (entries before.cache) k ≡ None → PutsCounted Step visit eq before k v w answer after → mid ≡ slice_set old (at k) after
        → (rest : Walks eq Step (filter (is_of at i) calls) (slice_index_or mid i d).cache (slice_index_or new i d).cache) → (b : Bool) → (at k == i) ≡ b
        → Walks eq Step (cond b (Put k v w ∷ filter (is_of at i) calls) (filter (is_of at i) calls)) (slice_index_or old i d).cache (slice_index_or new i d).cache
    walk_put k v w calls old mid new visit answer before after under found none puts is rest true here =
        let same : at k ≡ i = eqb-true (at k) i here in
        let was : slice_index_or old i d ≡ before = get_or_default old i d before under ∙ ap (λ j. slice_index_or old j before) (sym same) ∙ found in
        let left : slice_index_or mid i d ≡ after = ap (λ xs. slice_index_or xs i d) (is ∙ ap (λ j. slice_set old j after) same) ∙ get_or-set_same old i after d under in (
          subst (λ s. entry_of eq (entries s.cache) k ≡ None) (sym was) none,
          (visit, (answer, (after.cache, (subst (λ s. Puts eq Step visit s.cache k v w answer after.cache) (sym was) (puts_in visit k v w answer before after puts), subst (λ s. Walks eq Step (filter (is_of at i) calls) s.cache (slice_index_or new i d).cache) left rest)))),
        )
    walk_put k v w calls old mid new visit answer before after under found none puts is rest false elsewhere =
        let other : slice_index_or mid i d ≡ slice_index_or old i d = ap (λ xs. slice_index_or xs i d) is ∙ get_or-set_other old (at k) i after d (λ same. eqb-false (at k) i elsewhere (sym same)) in
        subst (λ s. Walks eq Step (filter (is_of at i) calls) s.cache (slice_index_or new i d).cache) other rest

    pub shard_walks : (calls : List (Call K V)) (old new : List (ShardOf K V S)) → WalksShards at eq Step calls old new → i < length old → Walks eq Step (filter (is_of at i) calls) (slice_index_or old i d).cache (slice_index_or new i d).cache
    shard_walks [] old new walks under = ap (λ xs. (slice_index_or xs i d).cache) walks
    shard_walks (Look ∷ calls) old new walks under = shard_walks calls old new walks under
    shard_walks (Put k v w ∷ calls) old new (visit, (answer, (mid, ((before, (after, (found, ((none, puts), is)))), rest)))) under =
        let still : i < length mid = subst (λ n. i < n) (sym (ap length is ∙ length-set old (at k) after)) under in
        walk_put k v w calls old mid new visit answer before after under found none puts is (shard_walks calls mid new rest still) (at k == i) refl

    -- what fits beside the upper segments of all shards fits beside that of one
    fits_here : (k : K) (v : V) (w : ℕ) (calls : List (Call K V)) (old : List (ShardOf K V S)) → i < length old → FitsInShard at old (Put k v w) → All (CallFits (slice_index_or old i d).cache) (filter (is_of at i) calls) → (b : Bool) → (at k == i) ≡ b
        → All (CallFits (slice_index_or old i d).cache) (cond b (Put k v w ∷ filter (is_of at i) calls) (filter (is_of at i) calls))
    fits_here k v w calls old under (shard, (found, fits)) rest true here =
        let was : slice_index_or old i d ≡ shard = get_or_default old i d shard under ∙ ap (λ j. slice_index_or old j shard) (sym (eqb-true (at k) i here)) ∙ found in
        All-cons (CallFits (slice_index_or old i d).cache) (Put k v w) (filter (is_of at i) calls) (subst (λ s. FitsBeside s.cache w) (sym was) fits) rest
    fits_here k v w calls old under fits rest false elsewhere = rest

    shard_fits : (calls : List (Call K V)) (old : List (ShardOf K V S)) → i < length old → All (FitsInShard at old) calls → All (CallFits (slice_index_or old i d).cache) (filter (is_of at i) calls)
    shard_fits [] old under fit = All-nil (CallFits (slice_index_or old i d).cache)
    shard_fits (Look ∷ calls) old under fit = shard_fits calls old under (All-tail (FitsInShard at old) Look calls fit)
    shard_fits (Put k v w ∷ calls) old under fit =
        fits_here k v w calls old under (All-head (FitsInShard at old) (Put k v w) calls fit) (shard_fits calls old under (All-tail (FitsInShard at old) (Put k v w) calls fit)) (at k == i) refl

    pub shard_keeps : (calls : List (Call K V)) (old new : List (ShardOf K V S)) → WalksShards at eq Step calls old new → All (FitsInShard at old) calls → i < length old → upper_of (slice_index_or new i d) ≡ upper_of (slice_index_or old i d)
    shard_keeps calls old new walks fit under =
        no_scan eq Step (filter (is_of at i) calls) (slice_index_or old i d).cache (slice_index_or new i d).cache (shard_walks calls old new walks under) (shard_fits calls old under fit)

    pub shard_loses : (calls : List (Call K V)) (old new : List (ShardOf K V S)) → WalksShards at eq Step calls old new → i < length old → (gone : List (Entry K V)) × (upper_of (slice_index_or old i d) ≡ upper_of (slice_index_or new i d) ++ gone)
    shard_loses calls old new walks under = end_only eq Step (filter (is_of at i) calls) (slice_index_or old i d).cache (slice_index_or new i d).cache (shard_walks calls old new walks under)

  -- the upper segments one by one
  pub all_keep : (calls : List (Call K V)) (old new : List (ShardOf K V S)) → WalksShards at eq Step calls old new → All (FitsInShard at old) calls → map upper_of new ≡ map upper_of old
  all_keep calls old new walks fit = same_maps upper_of new old (walk_length calls old new walks) (λ i d under. shard_keeps i d calls old new walks fit under)
