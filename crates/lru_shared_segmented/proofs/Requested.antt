-- What requests of keys without an entry make of the upper segments of shards.
use Rattle.std.proofs.Common.{◌≡◌, ℕ, ◌<◌, ◌==◌, List, [], ◌∷◌, length, Ok, Err, Some, None, inl, inr, refl, sym, ap, ◌∙◌, subst, true, false, length-set, arith, eqb-true}
use Rattle.std.specs.Prelude.{Option, Bool, Result, All, map, is_some, slice_index_or, slice_set}
use Rattle.std.proofs.lemmas.Bool.{false≢true, eqb-false}
use Rattle.std.proofs.lemmas.List.{get_or-set_same, get_or-set_other, get_or_default}
use Rattle.std.proofs.lemmas.List.Elements.{All-head, All-tail}
use Rattle.lru_owned_cache.specs.declared.entry.Entry.{Entry}
use Rattle.lru_owned_cache.specs.Entries.{weight_of}
use Rattle.lru_owned_cache.specs.declared.cache.Refused.{Refused}
use Rattle.lru_owned_cache.specs.Cache.{entry_of}
use Rattle.lru_segmented.specs.Segmented.{Segmented, entries, Uses}
use Rattle.lru_segmented.specs.Scans.{FitsBeside}
use Rattle.lru_segmented.proofs.Walked.{Stays, stays_same, stays_on, any_stays}
use Rattle.lru_shared_cache.specs.declared.calls.NotGot.{NotGot}
use Rattle.lru_shared_cache.specs.declared.calls.NotGot.TheVariants.{Memory, Unmade, Refused as Unput}
use Rattle.lru_shared_cache.specs.Calls.{IsCloned}
use Rattle.lru_shared_cache.specs.Shards.{Sees, Owns}
use Rattle.lru_shared_segmented.specs.Calls.{ShardOf, Gets}
use Rattle.lru_shared_segmented.specs.Making.{PutsMissing, RefusesMade, EndsMaking, Answers, GetsOrPuts}
use Rattle.lru_shared_segmented.specs.Walks.{RequestsShards, MadeFitsInShard, upper_of}
use Rattle.lru_shared_segmented.proofs.Walked.{same_maps}

module _ {K V : Type 0} where
  unfound : (o : Option (Entry K V)) → is_some o ≡ false → o ≡ None
  unfound None none = refl
  unfound (Some e) none = absurd (false≢true (sym none))

  -- a clone is one of an entry
  module _ (clones : V → V → Type 0) where
    uncloned : (o : Option (Entry K V)) → IsCloned clones o None → o ≡ None
    uncloned None cloned = refl
    uncloned (Some e) cloned = absurd cloned

    unlike : (v : V) (o : Option (Entry K V)) → o ≡ None → IsCloned clones o (Some v) → ⊥
    unlike v o none cloned = subst (λ o. IsCloned clones o (Some v)) none cloned

module _ {K V S : Type 0} where
  -- each shard keeps its upper segment and its limits
  pub record AllStay (old new : List (ShardOf K V S)) : Type 0 where
    pub many : length new ≡ length old
    pub each : (i : ℕ) (d : ShardOf K V S) → i < length old → Stays (slice_index_or old i d).cache (slice_index_or new i d).cache

  all_same : (old new : List (ShardOf K V S)) → new ≡ old → AllStay old new
  all_same old new is = record { many = ap length is; each = λ i d under. stays_same (slice_index_or old i d).cache (slice_index_or new i d).cache (ap (λ xs. (slice_index_or xs i d).cache) is) }

  all_on : (old mid new : List (ShardOf K V S)) → AllStay old mid → AllStay mid new → AllStay old new
  all_on old mid new a b = record {
    many = b.many ∙ a.many;
    each = λ i d under. stays_on (slice_index_or old i d).cache (slice_index_or mid i d).cache (slice_index_or new i d).cache (a.each i d under) (b.each i d (subst (λ n. i < n) (sym a.many) under));
  }

  -- one shard is changed so that it keeps them
  module _ (old : List (ShardOf K V S)) (at : ℕ) (before after : ShardOf K V S) (found : slice_index_or old at before ≡ before) (stays : at < length old → Stays before.cache after.cache) where
    set_at : (i : ℕ) (d : ShardOf K V S) → i < length old → (b : Bool) → (at == i) ≡ b → Stays (slice_index_or old i d).cache (slice_index_or (slice_set old at after) i d).cache
    set_at i d under true here =
        let same : at ≡ i = eqb-true at i here in
        let was : slice_index_or old i d ≡ before = get_or_default old i d before under ∙ ap (λ j. slice_index_or old j before) (sym same) ∙ found in
        let left : slice_index_or (slice_set old at after) i d ≡ after = ap (λ j. slice_index_or (slice_set old j after) i d) same ∙ get_or-set_same old i after d under in
        subst (λ s. Stays s.cache (slice_index_or (slice_set old at after) i d).cache) (sym was) (subst (λ s. Stays before.cache s.cache) (sym left) (stays (subst (λ j. j < length old) (sym same) under)))
    set_at i d under false elsewhere = stays_same (slice_index_or old i d).cache (slice_index_or (slice_set old at after) i d).cache (ap (λ s. s.cache) (get_or-set_other old at i after d (λ same. eqb-false at i elsewhere (sym same))))

    pub one_stays : (new : List (ShardOf K V S)) → new ≡ slice_set old at after → AllStay old new
    one_stays new is = record {
      many = ap length is ∙ length-set old at after;
      each = λ i d under. subst (λ xs. Stays (slice_index_or old i d).cache (slice_index_or xs i d).cache) (sym is) (set_at i d under (at == i) refl);
    }

  fits_still : (first now : Segmented K V S) (w : ℕ) → Stays first now → FitsBeside first w → FitsBeside now w
  fits_still first now w s fits = (omega (arith, fits.0, ap weight_of s.upper, s.most_weight), omega (arith, fits.1, ap length s.upper, s.most_entries))

  -- what fits in a shard at first fits there still
  fits_then : (first old : List (ShardOf K V S)) (at w : ℕ) (before : ShardOf K V S) → AllStay first old → at < length old → slice_index_or old at before ≡ before → Sees first at (λ shard. FitsBeside shard.cache w) → FitsBeside before.cache w
  fits_then first old at w before all under found (shard, (seen, fits)) =
      let under_first : at < length first = subst (λ n. at < n) all.many under in
      let was : slice_index_or first at before ≡ shard = get_or_default first at before shard under_first ∙ seen in
      subst (λ s. FitsBeside s.cache w) found
      (fits_still (slice_index_or first at before).cache (slice_index_or old at before).cache w (all.each at before under_first) (subst (λ s. FitsBeside s.cache w) (sym was) fits))

  module _ {F E : Type 0} (eq : K → K → Bool) (clones : V → V → Type 0) (Step : F → Entry K V → F → Type 0) (Makes : Result (V × ℕ) E → Type 0) (visit : F) (key : K) where
    abbrev found : ShardOf K V S → Option (Entry K V)
    found s = entry_of eq (entries s.cache) key

    -- a look-up that finds none changes no entries
    used_none : (before after : ShardOf K V S) → found before ≡ None → Uses eq before.cache key (is_some (found before)) after.cache → Stays before.cache after.cache
    used_none before after none uses = stays_same before.cache after.cache (subst (λ o. Uses eq before.cache key (is_some o) after.cache) none uses).1

    missed : (before after : ShardOf K V S) → Gets eq clones before key (Ok None) after → Stays before.cache after.cache
    missed before after (cloned, (uses, counted)) = used_none before after (uncloned clones (found before) cloned) uses

    -- a key without an entry is answered no value that is there
    answered : (answer : Result V (NotGot K V E)) (does : List (ShardOf K V S) → (ShardOf K V S → ShardOf K V S → Type 0) → List (ShardOf K V S) → Type 0) (before after : ShardOf K V S) → found before ≡ None → Answers ⊥ eq clones Makes Step visit does key answer before after → Stays before.cache after.cache
    answered (Ok v) does before after none (cloned, rest) = absurd (unlike clones v (found before) none cloned)
    answered (Err (Memory k)) does before after none (is, inl (e, (cloned, (uses, counted)))) = used_none before after none uses
    answered (Err (Memory k)) does before after none (is, inr misses) = missed before after misses
    answered (Err (Unmade k e)) does before after none a = absurd a
    answered (Err (Unput r)) does before after none a = absurd a

    -- what was made is put, unless there is an entry by now
    put_missing : (v : V) (w : ℕ) (result : Result (Unit {0}) (Refused K V)) (before after : ShardOf K V S) → FitsBeside before.cache w → PutsMissing Step visit eq before key v w result after → Stays before.cache after.cache
    put_missing v w (Ok told) before after fits (inl (there, same)) = stays_same before.cache after.cache (ap (λ s. s.cache) same)
    put_missing v w (Ok told) before after fits (inr (none, (was, (puts, counted)))) = any_stays eq Step visit key v w before.cache after.cache (Ok was) (unfound (found before) none) puts fits
    put_missing v w (Err r) before after fits (none, (puts, counted)) = any_stays eq Step visit key v w before.cache after.cache (Err r) (unfound (found before) none) puts fits

    refused : (made : V × ℕ) (r : Refused K V) (does : List (ShardOf K V S) → (ShardOf K V S → ShardOf K V S → Type 0) → List (ShardOf K V S) → Type 0) (before after : ShardOf K V S) → FitsBeside before.cache made.1 → RefusesMade ⊥ eq clones Makes Step visit does key made r before after → Stays before.cache after.cache
    refused made r does before after fits (inl puts) = put_missing made.0 made.1 (Err r) before after fits puts
    refused made r does before after fits (inr lost) = stays_same before.cache after.cache (ap (λ s. s.cache) lost.1.1.1)

    module _ (at : ℕ) (first : List (ShardOf K V S)) (fit : (made : V × ℕ) → Makes (Ok made) → Sees first at (λ shard. FitsBeside shard.cache made.1)) where
      abbrev does_at : List (ShardOf K V S) → (ShardOf K V S → ShardOf K V S → Type 0) → List (ShardOf K V S) → Type 0
      does_at s P t = Owns s at P t

      ended : (mid new : List (ShardOf K V S)) → AllStay first mid → (made : Result (V × ℕ) E) → Makes made → (answer : Result V (NotGot K V E)) → EndsMaking ⊥ eq clones Makes Step visit does_at key mid made answer new → AllStay mid new
      ended mid new all (Ok made) may (Ok v) (inl (before, (after, (seen, ((cloned, puts), is))))) = one_stays mid at before after seen (λ under. put_missing made.0 made.1 (Ok tt) before after (fits_then first mid at made.1 before all under seen (fit made may)) puts) new is
      ended mid new all (Ok made) may (Ok v) (inr (never, rest)) = absurd never
      ended mid new all (Ok made) may (Err (Unput r)) (before, (after, (seen, (refuses, is)))) = one_stays mid at before after seen (λ under. refused made r does_at before after (fits_then first mid at made.1 before all under seen (fit made may)) refuses) new is
      ended mid new all (Ok made) may (Err (Unmade k e)) ends = absurd ends
      ended mid new all (Ok made) may (Err (Memory k)) ends = absurd ends
      ended mid new all (Err error) may (Err (Unmade k e)) (k_is, (e_is, (before, (after, (seen, (same, is)))))) = one_stays mid at before after seen (λ under. stays_same before.cache after.cache (ap (λ s. s.cache) same)) new is
      ended mid new all (Err error) may (Ok v) ends = absurd ends
      ended mid new all (Err error) may (Err (Unput r)) ends = absurd ends
      ended mid new all (Err error) may (Err (Memory k)) ends = absurd ends

      asked : (old new : List (ShardOf K V S)) → AllStay first old → Sees old at (λ shard. found shard ≡ None) → (answer : Result V (NotGot K V E)) → GetsOrPuts ⊥ eq clones Makes Step visit does_at key old answer new → AllStay old new
      asked old new all (shard, (there, none)) answer (inl (before, (after, (seen, (answers, is))))) =
          one_stays old at before after seen (λ under. answered answer does_at before after (subst (λ s. found s ≡ None) (sym there ∙ get_or_default old at shard before under ∙ seen) none) answers) new is
      asked old new all none answer (inr (mid, ((before, (after, (seen, (misses, is)))), (made, (may, ends))))) =
          let looked : AllStay old mid = one_stays old at before after seen (λ under. missed before after misses) mid is in
          all_on old mid new looked (ended mid new (all_on first old mid all looked) made may answer ends)

module _ {K V S F M E : Type 0} (at : K → ℕ) (eq : K → K → Bool) (clones : V → V → Type 0) (Step : F → Entry K V → F → Type 0) (Post : M → Result (V × ℕ) E → Type 0) where
  requests_from : (first : List (ShardOf K V S)) (rs : List (K × M)) (old new : List (ShardOf K V S)) → AllStay first old → RequestsShards at eq clones Step Post rs old new → All (MadeFitsInShard at Post first) rs → AllStay first new
  requests_from first [] old new all same fit = all_on first old new all (all_same old new same)
  requests_from first (r ∷ rs) old new all (none, (visit, (answer, (mid, (gets, rest))))) fit =
      requests_from first rs mid new
      (all_on first old mid all (asked eq clones Step (Post r.1) visit r.0 (at r.0) first (All-head (MadeFitsInShard at Post first) r rs fit) old mid all none answer gets)) rest
      (All-tail (MadeFitsInShard at Post first) r rs fit)

  pub no_request : (requests : List (K × M)) (old new : List (ShardOf K V S)) → RequestsShards at eq clones Step Post requests old new → All (MadeFitsInShard at Post old) requests → map upper_of new ≡ map upper_of old
  no_request requests old new does fit =
      let all = requests_from old requests old new (all_same old old refl) does fit in
      same_maps upper_of new old all.many (λ i d under. (all.each i d under).upper)
