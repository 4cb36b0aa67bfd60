-- What each call leaves of entries whose values stand in a relation to their keys does too.
use Rattle.std.proofs.Common.{◌≡◌, ℕ, cond, List, [], ◌∷◌, ◌++◌, Some, None, Ok, Err, inl, inr, sym, subst, true, false}
use Rattle.std.specs.Prelude.{Option, Bool, Result, not, map, filter, IfSome}
use Rattle.std.specs.Option.{option_map_or}
use Rattle.std.specs.Borrow.{Bor, MutBor}
use Rattle.std.specs.declared.alloc.AllocError.{AllocError}
use Rattle.std.proofs.lemmas.List.Elements.{All-nil, All-cons, All-head, All-tail, All-filter}
use Rattle.lru_owned_cache.specs.declared.entry.Entry.{Entry}
use Rattle.lru_owned_cache.specs.Entries.{entry, kept_of}
use Rattle.lru_owned_cache.specs.declared.cache.Refused.{Refused}
use Rattle.lru_owned_cache.specs.Cache.{Cached, entry_of, without, UpdatesEntry, Puts}
use Rattle.lru_shared_cache.specs.Counting.{ShardOf, Takes, PopsShard, ClearsShardTo, DrainsShardTo, LimitsShardTo, PutsCounted}
use Rattle.lru_shared_cache.specs.Calls.{Gets, Lends, PutsMissing, RetainsShard}
use Rattle.lru_shared_cache.specs.Relations.{IsRelated, AreRelated}
use Rattle.lru_shared_cache.specs.Related.{KeepsRelation}

module _ {K V : Type 0} (holds : K → V → Type 0) where
  abbrev is_own : Entry K V → Type 0
  is_own e = IsRelated holds e.key e.value

  abbrev pub fits : {S : Type 0} → ShardOf K V S → Type 0
  fits shard = AreRelated holds shard.cache.entries

  -- what stands before others in a list
  front_of : (front gone : List (Entry K V)) → AreRelated holds (front ++ gone) → AreRelated holds front
  front_of [] gone h = All-nil is_own
  front_of (e ∷ es) gone h = All-cons is_own e es (All-head is_own e (es ++ gone) h) (front_of es gone (All-tail is_own e (es ++ gone) h))

  -- those of which a test answered true
  keeps_one : (a : Entry K V × Bool) (rest : List (Entry K V × Bool)) (b : Bool) → is_own a.0 → AreRelated holds (map (λ x. x.0) rest) → AreRelated holds (map (λ x. x.0) (cond b (a ∷ rest) rest))
  keeps_one a rest true own h = All-cons is_own a.0 (map (λ x. x.0) rest) own h
  keeps_one a rest false own h = h

  kept_are : (asked : List (Entry K V × Bool)) → AreRelated holds (map (λ x. x.0) asked) → AreRelated holds (kept_of asked)
  kept_are [] h = All-nil is_own
  kept_are (a ∷ asked) h = keeps_one a (filter (λ x. x.1) asked) a.1 (All-head is_own a.0 (map (λ x. x.0) asked) h) (kept_are asked (All-tail is_own a.0 (map (λ x. x.0) asked) h))

  module _ {Q : Type 0} (eq : K → Q → Bool) where
    first_own : (e : Entry K V) (rest : Option (Entry K V)) (b : Bool) → is_own e → IfSome rest is_own → IfSome (cond b (Some e) rest) is_own
    first_own e rest true own held = own
    first_own e rest false own held = held

    -- the entry of a key
    pub found_own : (es : List (Entry K V)) (key : Q) → AreRelated holds es → IfSome (entry_of eq es key) is_own
    found_own [] key h = tt
    found_own (e ∷ es) key h = first_own e (entry_of eq es key) (eq e.key key) (All-head is_own e es h) (found_own es key (All-tail is_own e es h))

    pub own_of : (es : List (Entry K V)) (key : Q) (e : Entry K V) → AreRelated holds es → entry_of eq es key ≡ Some e → IsRelated holds e.key e.value
    own_of es key e h is = subst (λ o. IfSome o is_own) is (found_own es key h)

    others : (es : List (Entry K V)) (key : Q) → AreRelated holds es → AreRelated holds (without eq es key)
    others es key h = All-filter (λ e. not (eq e.key key)) is_own es h

    used_first : (es : List (Entry K V)) (key : Q) (o : Option (Entry K V)) → AreRelated holds es → IfSome o is_own → AreRelated holds (option_map_or (λ e. e ∷ without eq es key) o es)
    used_first es key None h own = h
    used_first es key (Some e) h own = All-cons is_own e (without eq es key) own (others es key h)

    updates : {R S : Type 0} (post : MutBor V → ℕ → R → MutBor V → Type 0) → KeepsRelation holds post
        → (old : Cached K V S) (key : Q) (answer : Option R) (new : Cached K V S) → UpdatesEntry eq post old key answer new → AreRelated holds old.entries → AreRelated holds new.entries
    updates post keeps old key None new u h = subst (λ c. AreRelated holds c.entries) (sym u.1) h
    updates post keeps old key (Some answer) new (e, (is, (v, (lends, new_is)))) h =
        let own : IsRelated holds e.key lends.lent.now = subst (λ x. IsRelated holds e.key x) (sym lends.shows) (own_of old.entries key e h is) in
        let left : IsRelated holds e.key v = subst (λ x. IsRelated holds e.key x) lends.leaves (keeps e.key lends.lent e.weight answer lends.left lends.called own) in
        subst (λ c. AreRelated holds c.entries) (sym new_is) (All-cons is_own (entry e.key v e.weight) (without eq old.entries key) left (others old.entries key h))

    pub keeps_lends : {R S : Type 0} (post : MutBor V → ℕ → R → MutBor V → Type 0) → KeepsRelation holds post
        → (key : Q) → (before : ShardOf K V S) (answer : Option R) (after : ShardOf K V S) → Lends eq post before key answer after → fits before → fits after
    keeps_lends post keeps key before answer after lends h = updates post keeps before.cache key answer after.cache lends.0 h

    pub keeps_gets : {S : Type 0} (clones : V → V → Type 0) (key : Q) → (before : ShardOf K V S) (answer : Result (Option V) AllocError) (after : ShardOf K V S) → Gets eq clones before key answer after → fits before → fits after
    keeps_gets clones key before answer after gets h =
        subst (λ c. AreRelated holds c.entries) (sym gets.0.1) (used_first before.cache.entries key (entry_of eq before.cache.entries key) h (found_own before.cache.entries key h))

    pub keeps_takes : {S : Type 0} (key : Q) → (before : ShardOf K V S) (answer : Option (Entry K V)) (after : ShardOf K V S) → Takes eq before key answer after → fits before → fits after
    keeps_takes key before answer after takes h = subst (λ c. AreRelated holds c.entries) (sym takes.1.0) (others before.cache.entries key h)

  module _ {F : Type 0} (Step : F → Entry K V → F → Type 0) (visit : F) where
    module _ {S : Type 0} (eq : K → K → Bool) (key : K) (value : V) (weight : ℕ) (own : IsRelated holds key value) where
      puts : (old : Cached K V S) (answer : Result (Option (Entry K V)) (Refused K V)) (new : Cached K V S) → Puts eq Step visit old key value weight answer new → AreRelated holds old.entries → AreRelated holds new.entries
      puts old (Ok was) new (can, (was_is, (front, (gone, (leaves, (shown, is)))))) h =
          let stay : AreRelated holds front = front_of front gone (subst (λ es. AreRelated holds es) leaves.parts (others eq old.entries key h)) in
          subst (λ c. AreRelated holds c.entries) (sym is) (All-cons is_own (entry key value weight) front own stay)
      puts old (Err r) new refuses h = subst (λ c. AreRelated holds c.entries) (sym refuses.1.1.1) h

      pub keeps_puts : (before : ShardOf K V S) (answer : Result (Option (Entry K V)) (Refused K V)) (after : ShardOf K V S) → PutsCounted Step visit eq before key value weight answer after → fits before → fits after
      keeps_puts before (Ok was) after put h = puts before.cache (Ok was) after.cache put.0 h
      keeps_puts before (Err r) after put h = puts before.cache (Err r) after.cache put.0 h

      pub keeps_puts_missing : (before : ShardOf K V S) (answer : Result (Unit {0}) (Refused K V)) (after : ShardOf K V S) → PutsMissing eq Step visit before key value weight answer after → fits before → fits after
      keeps_puts_missing before (Ok told) after (inl stays) h = subst fits (sym stays.1) h
      keeps_puts_missing before (Ok told) after (inr (none, (was, put))) h = keeps_puts before (Ok was) after put h
      keeps_puts_missing before (Err r) after put h = keeps_puts before (Err r) after put.1 h

    pub keeps_clears : {S : Type 0} → (before after : ShardOf K V S) (left : F) → ClearsShardTo Step visit before left after → fits before → fits after
    keeps_clears before after left clears h = subst (λ c. AreRelated holds c.entries) (sym clears.1.0) (All-nil is_own)

    pub keeps_drains : {S : Type 0} → (before after : ShardOf K V S) (left : F) → DrainsShardTo Step visit before left after → fits before → fits after
    keeps_drains before after left drains h = subst (λ c. AreRelated holds c.entries) (sym drains.1.0) (All-nil is_own)

    pub keeps_limits : {S : Type 0} (weight entries : ℕ) → (before after : ShardOf K V S) (left : F) → LimitsShardTo Step visit weight entries before left after → fits before → fits after
    keeps_limits weight entries before after left ((front, (gone, (leaves, (shown, is)))), counted) h =
        subst (λ c. AreRelated holds c.entries) (sym is) (front_of front gone (subst (λ es. AreRelated holds es) leaves.parts h))

  pub keeps_pops : {S : Type 0} → (before : ShardOf K V S) (answer : Option (Entry K V)) (after : ShardOf K V S) → PopsShard before answer after → fits before → fits after
  keeps_pops before None after pops h = subst (λ c. AreRelated holds c.entries) (sym pops.0.1) h
  keeps_pops before (Some e) after ((front, (parts, is)), counted) h = subst (λ c. AreRelated holds c.entries) (sym is) (front_of front (e ∷ []) (subst (λ es. AreRelated holds es) parts h))

  pub keeps_retains : {S F : Type 0} (step : F → Bor K → Bor V → ℕ → Bool → F → Type 0) (keep : F) → (before after : ShardOf K V S) → RetainsShard step keep before after → fits before → fits after
  keeps_retains step keep before after retains h =
      subst (λ c. AreRelated holds c.entries) (sym retains.0.kept) (kept_are retains.0.asked (subst (λ es. AreRelated holds es) (sym retains.0.all) h))
