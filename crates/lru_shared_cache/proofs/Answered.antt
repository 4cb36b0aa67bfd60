-- What the answers of a shelf say where its entries are not known.
use Rattle.std.proofs.Common.{◌≡◌, ℕ, Some, None, Ok, Err, inl, inr, refl, sym, ap, subst, true}
use Rattle.std.specs.Prelude.{Option, Bool, Result, is_some, IfOk, IfErr}
use Rattle.std.specs.Option.{option_map, option_map_or}
use Rattle.std.specs.Borrow.{Bor}
use Rattle.std.proofs.lemmas.Bool.{false≢true}
use Rattle.lru_owned_cache.specs.declared.entry.Entry.{Entry}
use Rattle.lru_owned_cache.specs.declared.cache.Cause.{Cause}
use Rattle.lru_owned_cache.specs.declared.cache.Cause.TheVariants.{TooHeavy, Full, Memory as NoMemory}
use Rattle.lru_owned_cache.specs.declared.cache.Refused.{Refused}
use Rattle.lru_shared_cache.specs.declared.calls.NotGot.{NotGot}
use Rattle.lru_shared_cache.specs.declared.calls.NotGot.TheVariants.{Memory, Unmade, Refused as Unput}
use Rattle.lru_owned_cache.specs.Cache.{Cached, MayRefuse}
use Rattle.lru_shared_cache.specs.Shards.{MayDo}
use Rattle.lru_shared_cache.specs.Relations.{IsRelated, AreRelated}
use Rattle.lru_shared_cache.specs.Related.{MayGetRelated, MayPutRelated, MayLimitRelated, MayLimitTo, MayRetainRelated}
use Rattle.lru_shared_cache.proofs.MayBe.{may_get}
use Rattle.lru_shared_cache.specs.Counting.{ShardOf, PutsCounted, LimitsShard, LimitsShardTo}
use Rattle.lru_shared_cache.specs.Calls.{RefusesMade, EndsMaking, Answers, GetsOrPuts, RetainsShard}
use Rattle.lru_shared_cache.specs.Answers.{HandsBack}

module _ {K V : Type 0} where
  -- the entry whose value was lent
  pub shows : {R : Type 0} (post : Bor V → R → Type 0) (lent : Bor V) (answer : R) (found : Option (Entry K V)) → Some lent.now ≡ option_map (λ (e : Entry K V). e.value) found → post lent answer
      → (e : Entry K V) × ((found ≡ Some e) × ((l : Bor V) × ((l.now ≡ e.value) × post l answer)))
  shows post lent answer None is called = absurd (false≢true (sym (ap is_some is)))
  shows post lent answer (Some e) is called = (e, (refl, (lent, (ap (λ o. option_map_or (λ x. x) o lent.now) is, called))))

-- what is put and refused does not hang on what makes the hashes
module _ {K V S : Type 0} where
  abbrev unhashed : Cached K V S → Cached K V (Unit {0})
  unhashed c = record { entries = c.entries; places = c.places; most_weight = c.most_weight; most_entries = c.most_entries; hashes = tt }

  module _ (eq : K → K → Bool) (key : K) (w : ℕ) where
    refuses_unhashed : (old : Cached K V S) (cause : Cause) → MayRefuse eq old key w cause → MayRefuse eq (unhashed old) key w cause
    refuses_unhashed old TooHeavy may = may
    refuses_unhashed old Full may = may
    refuses_unhashed old NoMemory may = may

    pub may_put : {F : Type 0} (holds : K → V → Type 0) (Step : F → Entry K V → F → Type 0) (visit : F) (v : V) (answer : Result (Option (Entry K V)) (Refused K V)) (old new : ShardOf K V S)
        → AreRelated holds old.cache.entries → AreRelated holds new.cache.entries → PutsCounted Step visit eq old key v w answer new → MayPutRelated holds eq Step visit key v w answer
    may_put holds Step visit v (Ok was) old new old_own new_own ((fits, (had, (front, (gone, (leaves, (shown, is)))))), counted) =
        (unhashed old.cache, (unhashed new.cache, (old_own, (new_own, (fits, (had, (front, (gone, (leaves, (shown, ap unhashed is))))))))))
    may_put holds Step visit v (Err r) old new old_own new_own ((may, (key_is, (value_is, is))), counted) =
        (unhashed old.cache, (unhashed new.cache, (old_own, (new_own, (refuses_unhashed old.cache r.cause may, (key_is, (value_is, ap unhashed is)))))))

  pub may_limit : {F : Type 0} (holds : K → V → Type 0) (Step : F → Entry K V → F → Type 0) (visit : F) (weight entries : ℕ) (old new : ShardOf K V S)
      → AreRelated holds old.cache.entries → LimitsShard Step visit weight entries old new → MayLimitRelated holds Step visit weight entries
  may_limit holds Step visit weight entries old new own ((front, (gone, (leaves, (shown, is)))), counted) =
      (unhashed old.cache, (unhashed new.cache, (own, (front, (gone, (leaves, (shown, ap unhashed is)))))))

  pub may_limit_to : {F : Type 0} (holds : K → V → Type 0) (Step : F → Entry K V → F → Type 0) (visit : F) (weight entries : ℕ) (left : F) (old new : ShardOf K V S)
      → AreRelated holds old.cache.entries → LimitsShardTo Step visit weight entries old left new → MayLimitTo holds Step visit weight entries left
  may_limit_to holds Step visit weight entries left old new own ((front, (gone, (leaves, (shown, is)))), counted) =
      (unhashed old.cache, (unhashed new.cache, (own, (front, (gone, (leaves, (shown, ap unhashed is)))))))

  pub may_retain : {F : Type 0} (holds : K → V → Type 0) (step : F → Bor K → Bor V → ℕ → Bool → F → Type 0) (keep : F) (old new : ShardOf K V S)
      → AreRelated holds old.cache.entries → RetainsShard step keep old new → MayRetainRelated holds step keep
  may_retain holds step keep old new own retains =
      (unhashed old.cache, (unhashed new.cache, (own, record { asked = retains.0.asked; left = retains.0.left; all = retains.0.all; called = retains.0.called; kept = ap unhashed retains.0.kept })))

-- what is handed back of a value that was made is so, whichever shard it was
module _ {K V E F : Type 0} (holds : K → V → Type 0) (S X : Type 0) (inside : X → ShardOf K V S) (related : (x : X) → AreRelated holds (inside x).cache.entries) (T MayEnd : Type 0) (eq : K → K → Bool) (clones : V → V → Type 0) (Makes : Result (V × ℕ) E → Type 0) (Step : F → Entry K V → F → Type 0) (visit : F) (key : K) where
  abbrev may_do : T → (ShardOf K V S → ShardOf K V S → Type 0) → T → Type 0
  may_do old P new = MayDo (λ a b. P (inside a) (inside b))

  unput : (made : V × ℕ) → Makes (Ok made) → (r : Refused K V) (before after : ShardOf K V S) → RefusesMade MayEnd eq clones Makes Step visit may_do key made r before after → HandsBack Makes key (Unput r)
  unput made may r before after (inl (none, (puts, counted))) = (puts.1.0, (made.1, subst (λ v. Makes (Ok (v, made.1))) (sym puts.1.1.0) may))
  unput made may r before after (inr lost) = (lost.1.0, (made.1, subst (λ v. Makes (Ok (v, made.1))) (sym lost.1.1.0) may))

  ended : (mid new : T) (made : Result (V × ℕ) E) → Makes made → (n : NotGot K V E) → EndsMaking MayEnd eq clones Makes Step visit may_do key mid made (Err n) new → HandsBack Makes key n
  ended mid new (Ok made) may (Memory k) ends = absurd ends
  ended mid new (Ok made) may (Unmade k e) ends = absurd ends
  ended mid new (Ok made) may (Unput r) ends = unput made may r (inside ends.0) (inside ends.1.0) ends.1.1
  ended mid new (Err error) may (Memory k) ends = absurd ends
  ended mid new (Err error) may (Unmade k e) ends = (ends.0, subst (λ x. Makes (Err x)) (sym ends.1.0) may)
  ended mid new (Err error) may (Unput r) ends = absurd ends

  answered : (n : NotGot K V E) (before after : ShardOf K V S) → Answers MayEnd eq clones Makes Step visit may_do key (Err n) before after → HandsBack Makes key n
  answered (Memory k) before after a = a.0
  answered (Unmade k e) before after a = absurd a
  answered (Unput r) before after a = absurd a

  refused_back : (old new : T) (n : NotGot K V E) → GetsOrPuts MayEnd eq clones Makes Step visit may_do key old (Err n) new → HandsBack Makes key n
  refused_back old new n (inl here) = answered n (inside here.0) (inside here.1.0) here.1.1
  refused_back old new n (inr (mid, (none, (made, (may, ends))))) = ended mid new made may n ends

  pub hands_back : (old new : T) (result : Result V (NotGot K V E)) → GetsOrPuts MayEnd eq clones Makes Step visit may_do key old result new → IfErr result (HandsBack Makes key)
  hands_back old new (Ok v) gets = tt
  hands_back old new (Err n) gets = refused_back old new n gets

  -- and what is answered is a clone of a value that stands in the relation to the key
  module _ (same : (k : K) → eq k k ≡ true) (own : (value : V) (weight : ℕ) → Makes (Ok (value, weight)) → IsRelated holds key value) where
    made_own : (made : V × ℕ) (v : V) → Makes (Ok made) → clones made.0 v → MayGetRelated holds eq clones key v
    made_own made v may cloned = (made.0, ((key, (same key, own made.0 made.1 may)), cloned))

    put_own : (mid new : T) (made : Result (V × ℕ) E) → Makes made → (v : V) → EndsMaking MayEnd eq clones Makes Step visit may_do key mid made (Ok v) new → MayGetRelated holds eq clones key v
    put_own mid new (Ok made) may v (inl put) = made_own made v may put.1.1.0
    put_own mid new (Ok made) may v (inr ended) = made_own made v may ended.1.0
    put_own mid new (Err error) may v ends = absurd ends

    pub gets_own : (old new : T) (result : Result V (NotGot K V E)) → GetsOrPuts MayEnd eq clones Makes Step visit may_do key old result new → IfOk result (MayGetRelated holds eq clones key)
    gets_own old new (Err n) gets = tt
    gets_own old new (Ok v) (inl here) = may_get holds eq clones (inside here.0) key (Ok (Some v)) (inside here.1.0) (related here.0) here.1.1
    gets_own old new (Ok v) (inr (mid, (none, (made, (may, ends))))) = put_own mid new made may v ends

-- what is known of all shards is known of what they are seen as
module _ {K V S E F T U : Type 0} (MayEnd : Type 0) (eq : K → K → Bool) (clones : V → V → Type 0) (Makes : Result (V × ℕ) E → Type 0) (Step : F → Entry K V → F → Type 0) (visit : F) (key : K)
    (seen : T → U) (does : U → (ShardOf K V S → ShardOf K V S → Type 0) → U → Type 0) where
  abbrev seen_does : T → (ShardOf K V S → ShardOf K V S → Type 0) → T → Type 0
  seen_does old P new = does (seen old) P (seen new)

  ends_seen : (mid new : T) (made : Result (V × ℕ) E) (answer : Result V (NotGot K V E)) → EndsMaking MayEnd eq clones Makes Step visit seen_does key mid made answer new → EndsMaking MayEnd eq clones Makes Step visit does key (seen mid) made answer (seen new)
  ends_seen mid new (Ok made) (Ok v) ends = ends
  ends_seen mid new (Ok made) (Err (Unput r)) ends = ends
  ends_seen mid new (Ok made) (Err (Unmade k e)) ends = ends
  ends_seen mid new (Ok made) (Err (Memory k)) ends = ends
  ends_seen mid new (Err error) (Ok v) ends = ends
  ends_seen mid new (Err error) (Err (Unput r)) ends = ends
  ends_seen mid new (Err error) (Err (Unmade k e)) ends = ends
  ends_seen mid new (Err error) (Err (Memory k)) ends = ends

  here_seen : (answer : Result V (NotGot K V E)) (before after : ShardOf K V S) → Answers MayEnd eq clones Makes Step visit seen_does key answer before after → Answers MayEnd eq clones Makes Step visit does key answer before after
  here_seen (Ok v) before after a = a
  here_seen (Err (Memory k)) before after a = a
  here_seen (Err (Unmade k e)) before after a = a
  here_seen (Err (Unput r)) before after a = a

  pub gets_seen : ((P Q : ShardOf K V S → ShardOf K V S → Type 0) → ((a b : ShardOf K V S) → P a b → Q a b) → (s t : U) → does s P t → does s Q t)
      → (old new : T) (answer : Result V (NotGot K V E)) → GetsOrPuts MayEnd eq clones Makes Step visit seen_does key old answer new → GetsOrPuts MayEnd eq clones Makes Step visit does key (seen old) answer (seen new)
  gets_seen more old new answer (inl here) = inl (more _ _ (here_seen answer) (seen old) (seen new) here)
  gets_seen more old new answer (inr (mid, (none, (made, (may, ends))))) = inr (seen mid, (none, (made, (may, ends_seen mid new made answer ends))))
