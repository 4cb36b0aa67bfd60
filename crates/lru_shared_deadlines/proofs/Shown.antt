-- What a shard's answers follow from.
use Rattle.std.proofs.Common.{◌≡◌, ℕ, List, ◌∷◌, Some, None, Ok, Err, refl, sym, ap, ◌∙◌, subst}
use Rattle.std.specs.Prelude.{Bool, Option, Result, IfOk, IfSome, is_some}
use Rattle.std.specs.Option.{option_map, option_map_or}
use Rattle.std.specs.Borrow.{Bor, MutBor}
use Rattle.std.specs.declared.alloc.AllocError.{AllocError}
use Rattle.std.proofs.lemmas.Bool.{false≢true}
use Rattle.lru_rows.specs.Rows.{Updates}
use Rattle.lru_owned_cache.specs.Entries.{entry}
use Rattle.lru_owned_cache.specs.declared.cache.Refused.{Refused}
use Rattle.lru_owned_cache.specs.Cache.{Cached, without, with_entries, Puts}
use Rattle.lru_deadlines.specs.declared.deadlines.Until.{Until}
use Rattle.lru_deadlines.specs.Deadlines.{UpdatesIfLiving}
use Rattle.lru_deadlines.proofs.Living.{folds_from}
use Rattle.lru_shared_cache.specs.Counts.{looked}
use Rattle.lru_shared_cache.specs.Answers.{MayShow}
use Rattle.lru_shared_deadlines.specs.declared.ages.Aged.{Aged}
use Rattle.lru_shared_deadlines.specs.declared.ages.Moment.{Moment}
use Rattle.lru_shared_deadlines.specs.Ages.{kept_until, begun}
use Rattle.lru_shared_deadlines.specs.Calls.{ShardOf, Ends, ShowsLiving, Hits, Lends, as_begun, MakesShardRoom, Places, PutsIn}

module _ {K V : Type 0} where
  -- the entry whose value was lent
  pub shows : {R : Type 0} (post : Bor V → R → Type 0) (a : Aged V) (lent : Bor V) (answer : R) (found : Option (Ends K V)) → Some a ≡ option_map (λ (e : Ends K V). e.value.value) found → lent.now ≡ a.value → post lent answer
      → (e : Ends K V) × ((found ≡ Some e) × ((l : Bor V) × ((l.now ≡ e.value.value.value) × post l answer)))
  shows post a lent answer None is at called = absurd (false≢true (sym (ap is_some is)))
  shows post a lent answer (Some e) is at called = (e, (refl, (lent, (at ∙ ap (λ (o : Option (Aged V)). (option_map_or (λ x. x) o a).value) is, called))))

  pub may_show : {Q R : Type 0} (eq : K → Q → Bool) (post : Bor V → R → Type 0) (time : ℕ) (es : List (Ends K V)) (key : Q) (result : Option R) → ShowsLiving eq post time es key result → IfSome result (MayShow post)
  may_show eq post time es key None h = tt
  may_show eq post time es key (Some answer) (e, (found, (lent, (shows, called)))) = (lent, called)

  module _ {Q S : Type 0} (eq : K → Q → Bool) (m : Moment) (key : Q) where
    -- a closure that leaves the value as another may, and moves the deadline, lends as that one does
    pub lends : {R : Type 0} (own : MutBor (Until (Aged V)) → ℕ → R → MutBor (Until (Aged V)) → Type 0) (before after : ShardOf K V S) (answer : Option R) → UpdatesIfLiving eq own m.time before.cache key answer after.cache
        → after.counts ≡ looked before.counts (is_some answer) → (post : MutBor V → ℕ → R → MutBor V → Type 0)
        → ((lent : MutBor (Until (Aged V))) (w : ℕ) (r : R) (left : MutBor (Until (Aged V))) → own lent w r left
        → Updates post lent.now.value.value w r left.now.value.value × (left.now ≡ kept_until m left.now.value.value lent.now.value.ends)) → Lends eq post m before key answer after
    lends own before after None (none, is) counted post each = (none, (is, counted))
    lends own before after (Some answer) (e, (found, (u, (updates, is)))) counted post each =
        let told = each updates.lent e.weight answer updates.left updates.called in
        let at : u ≡ kept_until m u.value.value e.value.value.ends =
        subst (λ (x : Until (Aged V)). x ≡ kept_until m x.value.value e.value.value.ends) updates.leaves
        (subst (λ (x : Until (Aged V)). updates.left.now ≡ kept_until m updates.left.now.value.value x.value.ends) updates.shows told.1) in (
          e,
          (
            u.value.value,
            (
              (found, (is ∙ ap (λ x. with_entries before.cache (entry e.key x e.weight ∷ without eq before.cache.entries key)) at, counted)),
              subst (λ (x : Until (Aged V)). Updates post e.value.value.value e.weight answer x.value.value) updates.leaves
                  (subst (λ (x : Until (Aged V)). Updates post x.value.value e.weight answer updates.left.now.value.value) updates.shows told.0),
            ),
          ),
        )

    -- a closure that leaves the value and answers a clone of it gets it
    pub gets : (own : MutBor V → ℕ → Result V AllocError → MutBor V → Type 0) (before after : ShardOf K V S) (r : Result V AllocError) → Lends eq own m before key (Some r) after → (clones : V → V → Type 0)
        → ((lent : MutBor V) (w : ℕ) (r : Result V AllocError) (left : MutBor V) → own lent w r left → (left.now ≡ lent.now) × IfOk r (λ v. clones lent.now v))
        → (e : Ends K V) × (Hits eq m before key e e.value.value.value after × IfOk r (λ v. clones e.value.value.value v))
    gets own before after r (e, (v, (hits, updates))) clones each =
        let told = each updates.lent e.weight r updates.left updates.called in (
          e,
          (
            subst (λ x. Hits eq m before key e x after) (sym updates.leaves ∙ told.0 ∙ updates.shows) hits,
            subst (λ x. IfOk r (λ v. clones x v)) updates.shows told.1,
          ),
        )

-- calls of a closure that calls another
pub makes_room_at : {K V S P F : Type 0} (R : P → Ends K V → P → Type 0) (visit : P) (time w : ℕ) (before after : ShardOf K V S) → MakesShardRoom R visit time w before after → (T : F → Ends K V → F → Type 0) (get : P → F)
    → ((p : P) (e : Ends K V) (q : P) → R p e q → T (get p) e (get q)) → MakesShardRoom T (get visit) time w before after
makes_room_at R visit time w before after ((shown, is), counted) T get each = (((get shown.0, folds_from R _ visit shown.0 shown.1 T get each), is), counted)

places_at : {K V S P F : Type 0} (R : P → Ends K V → P → Type 0) (visit : P) (eq : K → K → Bool) (m : Moment) (before : ShardOf K V S) (k : K) (v : V) (w : ℕ) (result : Result (Option (Ends K V)) (Refused K V)) (after : ShardOf K V S)
    → Places R visit eq m before k v w result after → (T : F → Ends K V → F → Type 0) (get : P → F) → ((p : P) (e : Ends K V) (q : P) → R p e q → T (get p) e (get q)) → Places T (get visit) eq m before k v w result after
places_at R visit eq m before k v w (Ok was) after ((fits, (had, (front, (gone, (leaves, (shown, is)))))), counted) T get each =
    ((fits, (had, (front, (gone, (leaves, ((get shown.0, folds_from R _ visit shown.0 shown.1 T get each), is)))))), counted)
places_at R visit eq m before k v w (Err r) after h T get each = h

pub puts_at : {K V S P F : Type 0} (R : P → Ends K V → P → Type 0) (visit : P) (eq : K → K → Bool) (m : Moment) (before : ShardOf K V S) (k : K) (v : V) (w : ℕ) (result : Result (Option (Ends K V)) (Refused K V)) (after : ShardOf K V S)
    → PutsIn R visit eq m before k v w result after → (T : F → Ends K V → F → Type 0) (get : P → F) → ((p : P) (e : Ends K V) (q : P) → R p e q → T (get p) e (get q)) → PutsIn T (get visit) eq m before k v w result after
puts_at R visit eq m before k v w result after (mid, (makes, (seen, places))) T get each =
    (mid, (makes_room_at R visit m.time w before mid makes T get each, (get seen, places_at R seen eq m mid k v w result after places T get each)))

-- a closure, in whichever state it is, is shown what goes for an entry that is put
pub places_then : {K V S F : Type 0} (Step : F → Ends K V → F → Type 0) (visit : F) (eq : K → K → Bool) (m : Moment) (before : ShardOf K V S) (k : K) (v : V) (w : ℕ) (result : Result (Option (Ends K V)) (Refused K V)) (after : ShardOf K V S)
    → Places Step visit eq m before k v w result after → (seen : F) × Places Step seen eq m before k v w result after
places_then Step visit eq m before k v w result after h = (visit, h)

-- what is handed back of a refused entry is what was to be put
pub refuses : {K V S F : Type 0} (Step : F → Ends K V → F → Type 0) (visit : F) (eq : K → K → Bool) (m : Moment) (before : Cached K (Until (Aged V)) S) (k : K) (v : V) (w : ℕ) (r : Refused K (Until (Aged V))) (after : Cached K (Until (Aged V)) S)
    → Puts eq Step visit before k (begun m v) w (Err r) after → Puts eq Step visit before k (begun m v) w (Err (as_begun m (record { cause = r.cause; key = r.key; value = r.value.value.value }))) after
refuses Step visit eq m before k v w r after (may, (key_is, (value_is, is))) = (may, (key_is, (ap (λ (u : Until (Aged _)). begun m u.value.value) value_is, is)))
