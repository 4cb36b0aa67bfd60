-- What calls do where the upper segment has no share.
use Rattle.std.proofs.Common.{◌≡◌, ℕ, ◌-◌, ◌≤◌, cond, List, [], ◌∷◌, ◌++◌, length, Some, None, Ok, Err, refl, sym, ap, ◌∙◌, subst, arith, true, false, inl, inr, append_assoc}
use Rattle.std.specs.Prelude.{Option, Bool, Result, is_some, max}
use Rattle.std.specs.Option.{option_map_or}
use Rattle.std.specs.Borrow.{MutBor}
use Rattle.std.proofs.lemmas.Bool.{eq-eqb}
use Rattle.std.proofs.lemmas.List.{length-append, append-nil}
use Rattle.lru_owned_cache.specs.declared.entry.Entry.{Entry}
use Rattle.lru_owned_cache.specs.Entries.{entry, IsShown}
use Rattle.lru_owned_cache.specs.declared.cache.Refused.{Refused}
use Rattle.lru_owned_cache.specs.declared.cache.NotPut.{NotPut}
use Rattle.lru_owned_cache.specs.declared.cache.NotPut.TheVariants.{Unmade, Refused as EntryRefused}
use Rattle.lru_owned_cache.specs.Cache.{Leaves, entry_of, without, used, with_entries, PopsLast as CachePopsLast, UpdatesEntry as CacheUpdatesEntry, Puts as CachePuts, UsesOrPuts as CacheUsesOrPuts, Clears as CacheClears}
use Rattle.lru_segmented.specs.Segmented.{Segmented, entries, plain, removed, most_upper, with_segments, with_more, IsSegmented, Balances, Recedes, LetsGo, Raises, Uses, UpdatesEntry, PopsLast, Puts, UsesOrPuts}
use Rattle.lru_segmented.specs.Laws.{IsPlain}
use Rattle.lru_segmented.proofs.Lists.{nil_cons, nil_append, without-append, without_absent, without_short, without_fewer}

none_long : {A : Type 0} (xs : List A) → length xs ≤ 0 → xs ≡ []
none_long [] few = refl
none_long (x ∷ xs) few = absurd (omega (arith, few))

module _ {K V : Type 0} where
  -- what recedes leaves the beginning of both segments
  pub recedes_leaves : (w n : ℕ) (us ls us' ls' gone : List (Entry K V)) → Recedes w n us ls us' ls' gone → Leaves w n (us ++ ls) (us' ++ ls') gone
  recedes_leaves w n us ls us' ls' gone r = record { parts = whole; fits = r.fits; needed = r.needed }
    where
      whole : us ++ ls ≡ (us' ++ ls') ++ gone
      whole =
          elim r.lower_first [
            | inl none ↦
                ap (λ zs. zs ++ ls) (r.upper_parts ∙ ap (λ zs. us' ++ zs) none ∙ append-nil us') ∙ ap (λ zs. us' ++ zs) r.lower_parts
                ∙ sym (append_assoc us' ls' r.lower_gone) ∙ ap (λ zs. (us' ++ ls') ++ zs) (sym (r.gone_is ∙ ap (λ zs. zs ++ r.lower_gone) none))
            | inr none ↦
                ap (λ zs. zs ++ ls) r.upper_parts ∙ ap (λ zs. (us' ++ r.upper_gone) ++ zs) (r.lower_parts ∙ ap (λ zs. zs ++ r.lower_gone) none)
                ∙ append_assoc us' r.upper_gone r.lower_gone
                ∙ ap (λ zs. zs ++ (r.upper_gone ++ r.lower_gone)) (sym (ap (λ zs. us' ++ zs) none ∙ append-nil us')) ∙ ap (λ zs. (us' ++ ls') ++ zs) (sym r.gone_is)
          ]

  module _ {S : Type 0} (old : Segmented K V S) (share : old.most_protected ≡ 0) where
    pub no_upper : most_upper old ≡ 0
    no_upper = ap (λ b. cond b 0 old.most_entries) (eq-eqb old.most_protected 0 share)

    -- nothing stays in the upper segment
    pub balanced : (us ls us' ls' : List (Entry K V)) → Balances old us ls us' ls' → (us' ≡ []) × (ls' ≡ us ++ ls)
    balanced us ls us' ls' b =
        let none = none_long us' (omega (arith, b.leaves.fits.1, no_upper)) in
        (none, b.lower_is ∙ ap (λ zs. zs ++ ls) (sym (b.leaves.parts ∙ ap (λ zs. zs ++ b.back) none)))

module _ {K V S : Type 0} (eq : K → K → Bool) (old new : Segmented K V S) (valid : IsSegmented eq old) (share : old.most_protected ≡ 0) where
  pub upper_none : old.upper ≡ []
  upper_none = none_long old.upper (omega (arith, valid.protected.1, no_upper old share))

  -- other entries, of which there are no more, take no place
  plain_as : (es : List (Entry K V)) → length es ≤ length (entries old) → new.upper ++ new.lower ≡ es → new.places ≡ old.places → new.most_weight ≡ old.most_weight → new.most_entries ≡ old.most_entries → new.hashes ≡ old.hashes →
      plain new ≡ with_entries (plain old) es
  plain_as es few es_is places_is weight_is entries_is hashes_is =
      let places : new.places ≡ max old.places (length es) = omega (arith, places_is, few, valid.placed) in
      ap (λ zs. record { entries = zs; places = new.places; most_weight = new.most_weight; most_entries = new.most_entries; hashes = new.hashes }) es_is
      ∙ ap (λ n. record { entries = es; places = n; most_weight = new.most_weight; most_entries = new.most_entries; hashes = new.hashes }) places
      ∙ ap (λ n. record { entries = es; places = max old.places (length es); most_weight = n; most_entries = new.most_entries; hashes = new.hashes }) weight_is
      ∙ ap (λ n. record { entries = es; places = max old.places (length es); most_weight = old.most_weight; most_entries = n; hashes = new.hashes }) entries_is
      ∙ ap (λ h. record { entries = es; places = max old.places (length es); most_weight = old.most_weight; most_entries = old.most_entries; hashes = h }) hashes_is

  -- the same where only the segments are others
  plain_segments : (us ls es : List (Entry K V)) → new ≡ with_segments old us ls → us ++ ls ≡ es → length es ≤ length (entries old) → plain new ≡ with_entries (plain old) es
  plain_segments us ls es is es_is few =
      plain_as es few (ap (λ (c : Segmented K V S). c.upper ++ c.lower) is ∙ es_is) (ap (λ (c : Segmented K V S). c.places) is) (ap (λ (c : Segmented K V S). c.most_weight) is)
      (ap (λ (c : Segmented K V S). c.most_entries) is) (ap (λ (c : Segmented K V S). c.hashes) is)

  same_upper : new ≡ old → new.upper ≡ []
  same_upper is = ap (λ (c : Segmented K V S). c.upper) is ∙ upper_none

  -- an entry in place of the key's goes first
  raised : (key : K) (e e' : Entry K V) → entry_of eq (entries old) key ≡ Some e → Raises eq old key e' new → (new.upper ≡ []) × (plain new ≡ with_entries (plain old) (e' ∷ without eq (entries old) key))
  raised key e e' found (us, (ls, (b, is))) =
      let both = balanced old share (e' ∷ without eq old.upper key) (without eq old.lower key) us ls b in (
        ap (λ (c : Segmented K V S). c.upper) is ∙ both.0,
        plain_segments us ls (e' ∷ without eq (entries old) key) is
            (ap (λ zs. zs ++ ls) both.0 ∙ both.1 ∙ ap (λ zs. e' ∷ zs) (sym (without-append eq key old.upper old.lower))) (omega (arith, without_fewer eq key (entries old) e found)),
      )

  pub plain_uses : (key : K) (answer : Bool) → Uses eq old key answer new →
      (new.upper ≡ []) × ((answer ≡ is_some (entry_of eq (entries old) key)) × (plain new ≡ with_entries (plain old) (used eq (entries old) key)))
  plain_uses key false (none, is) = (
    same_upper is,
    (
      sym (ap is_some none),
      plain_segments old.upper old.lower (used eq (entries old) key) is (sym (ap (λ o. option_map_or (λ e. e ∷ without eq (entries old) key) o (entries old)) none))
          (omega (arith, ap (λ o. length (option_map_or (λ e. e ∷ without eq (entries old) key) o (entries old))) none)),
    ),
  )
  plain_uses key true (e, (found, raises)) =
      let r = raised key e e found raises in
      (r.0, (sym (ap is_some found), r.1 ∙ ap (λ o. with_entries (plain old) (option_map_or (λ x. x ∷ without eq (entries old) key) o (entries old))) (sym found)))

  pub plain_updates : {R : Type 0} (post : MutBor V → ℕ → R → MutBor V → Type 0) (key : K) (answer : Option R) → UpdatesEntry eq post old key answer new → (new.upper ≡ []) × CacheUpdatesEntry eq post (plain old) key answer (plain new)
  plain_updates post key None (none, is) = (same_upper is, (none, ap plain is))
  plain_updates post key (Some answer) (e, (found, (v, (updates, raises)))) =
      let r = raised key e (entry e.key v e.weight) found raises in
      (r.0, (e, (found, (v, (updates, r.1)))))

  pub plain_removes : (key : K) → new ≡ removed eq old key → (new.upper ≡ []) × (plain new ≡ with_entries (plain old) (without eq (entries old) key))
  plain_removes key is = (
    ap (λ (c : Segmented K V S). c.upper) is ∙ ap (λ us. without eq us key) upper_none,
    plain_segments (without eq old.upper key) (without eq old.lower key) (without eq (entries old) key) is (sym (without-append eq key old.upper old.lower)) (without_short eq key (entries old)),
  )

  pub plain_pops : (answer : Option (Entry K V)) → PopsLast old answer new → (new.upper ≡ []) × CachePopsLast (plain old) answer (plain new)
  plain_pops None (upper, (lower, is)) = (same_upper is, (ap (λ zs. zs ++ old.lower) upper ∙ lower, ap plain is))
  plain_pops (Some e) pops =
      elim pops [
        | inl (front, (lower, is)) ↦ (
          ap (λ (c : Segmented K V S). c.upper) is ∙ upper_none,
          (
            old.upper ++ front,
            (
              ap (λ zs. old.upper ++ zs) lower ∙ sym (append_assoc old.upper front (e ∷ [])),
              plain_segments old.upper front (old.upper ++ front) is refl (omega (arith, length-append old.upper front, length-append old.upper old.lower, ap length lower, length-append front (e ∷ []))),
            ),
          ),
        )
        | inr (front, (lower, (upper, is))) ↦ absurd (nil_cons e [] (sym (nil_append front (e ∷ []) (sym upper_none ∙ upper)).1))
      ]

  -- ---- puts
  module _ {F : Type 0} (Step : F → Entry K V → F → Type 0) (visit : F) (k : K) (v : V) (w : ℕ) where
    fresh : Puts eq Step visit old k v w (Ok None) new → (new.upper ≡ []) × CachePuts eq Step visit (plain old) k v w (Ok None) (plain new)
    fresh (light, (none, (mid, (lets, is)))) =
        let upper = nil_append mid.upper lets.recedes.upper_gone (sym upper_none ∙ lets.recedes.upper_parts) in
        let front = mid.upper ++ mid.lower in
        let leaves = recedes_leaves (old.most_weight - w) (old.most_entries - 1) old.upper old.lower mid.upper mid.lower lets.gone lets.recedes in
        let first : mid.upper ++ entry k v w ∷ mid.lower ≡ entry k v w ∷ mid.upper ++ mid.lower =
        ap (λ zs. zs ++ entry k v w ∷ mid.lower) upper.0 ∙ ap (λ zs. entry k v w ∷ zs ++ mid.lower) (sym upper.0) in (
          ap (λ (c : Segmented K V S). c.upper) is ∙ upper.0,
          (
            light,
            (
              sym none,
              (
                front,
                (
                  lets.gone,
                  (
                    subst (λ es. Leaves (old.most_weight - w) (old.most_entries - 1) es front lets.gone) (sym (without_absent eq k (entries old) none)) leaves,
                    (
                      lets.shown,
                      ap plain (is ∙ ap (λ c. with_more c mid.upper (entry k v w ∷ mid.lower)) lets.same)
                          ∙ ap (λ n. record { entries = mid.upper ++ entry k v w ∷ mid.lower; places = n; most_weight = old.most_weight; most_entries = old.most_entries; hashes = old.hashes })
                          (omega (arith, ap length first, length-append mid.upper (entry k v w ∷ mid.lower)))
                          ∙ ap (λ es. record { entries = es; places = max old.places (length (entry k v w ∷ front)); most_weight = old.most_weight; most_entries = old.most_entries; hashes = old.hashes }) first,
                    ),
                  ),
                ),
              ),
            ),
          ),
        )

    renewed : (was : Entry K V) → Puts eq Step visit old k v w (Ok (Some was)) new → (new.upper ≡ []) × CachePuts eq Step visit (plain old) k v w (Ok (Some was)) (plain new)
    renewed was (light, (found, (mid, (lets, (us, (ls, (b, is))))))) =
        let front = mid.upper ++ mid.lower in
        let less = recedes_leaves (old.most_weight - w) (old.most_entries - 1) (without eq old.upper k) (without eq old.lower k) mid.upper mid.lower lets.gone lets.recedes in
        let leaves = subst (λ es. Leaves (old.most_weight - w) (old.most_entries - 1) es front lets.gone) (sym (without-append eq k old.upper old.lower)) less in
        let both = balanced mid (ap (λ (c : Segmented K V S). c.most_protected) lets.same ∙ share) (entry k v w ∷ mid.upper) mid.lower us ls b in (
          ap (λ (c : Segmented K V S). c.upper) is ∙ both.0,
          (
            light,
            (
              sym found,
              (
                front,
                (
                  lets.gone,
                  (
                    leaves,
                    (
                      lets.shown,
                      plain_segments us ls (entry k v w ∷ front) (is ∙ ap (λ c. with_segments c us ls) lets.same) (ap (λ zs. zs ++ ls) both.0 ∙ both.1)
                          (omega (arith, ap length leaves.parts, length-append front lets.gone, without_fewer eq k (entries old) was found)),
                    ),
                  ),
                ),
              ),
            ),
          ),
        )

    pub plain_puts : (answer : Result (Option (Entry K V)) (Refused K V)) → Puts eq Step visit old k v w answer new → (new.upper ≡ []) × CachePuts eq Step visit (plain old) k v w answer (plain new)
    plain_puts (Ok None) puts = fresh puts
    plain_puts (Ok (Some was)) puts = renewed was puts
    plain_puts (Err r) (may, (key, (value, is))) = (same_upper is, (may, (key, (value, ap plain is))))

  module _ {F E : Type 0} (Makes : Result (V × ℕ) E → Type 0) (Step : F → Entry K V → F → Type 0) (visit : F) (key : K) where
    pub plain_uses_or_puts : (answer : Result Bool (NotPut K V E)) → UsesOrPuts eq Makes Step visit old key answer new → (new.upper ≡ []) × CacheUsesOrPuts eq Makes Step visit (plain old) key answer (plain new)
    plain_uses_or_puts (Ok true) does =
        let p = plain_uses key true does in
        (p.0, (sym p.1.0, p.1.1))
    plain_uses_or_puts (Ok false) (made, (makes, puts)) =
        let p = plain_puts Step visit key made.0 made.1 (Ok None) puts in
        (p.0, (made, (makes, p.1)))
    plain_uses_or_puts (Err (Unmade k e)) (none, (makes, (same, is))) = (same_upper is, (none, (makes, (same, ap plain is))))
    plain_uses_or_puts (Err (EntryRefused r)) (none, (made, (makes, puts))) =
        let p = plain_puts Step visit key made.0 made.1 (Err r) puts in
        (p.0, (none, (made, (makes, p.1))))

  pub plain_clears : {F : Type 0} (Step : F → Entry K V → F → Type 0) (visit : F) → LetsGo Step visit 0 0 old new → (new.upper ≡ []) × CacheClears Step visit (plain old) (plain new)
  plain_clears Step visit lets =
      let leaves = recedes_leaves 0 0 old.upper old.lower new.upper new.lower lets.gone lets.recedes in
      let none = none_long (new.upper ++ new.lower) lets.recedes.fits.1 in
      let upper = (nil_append new.upper new.lower (sym none)).0 in
      let all : entries old ≡ lets.gone = leaves.parts ∙ ap (λ zs. zs ++ lets.gone) none in (
        upper,
        (
          subst (λ es. IsShown Step visit es) (sym all) lets.shown,
          plain_segments new.upper new.lower [] lets.same none (omega arith),
        ),
      )

module _ {K V S F U R M E : Type 0} (eq : K → K → Bool) (Step : F → Entry K V → F → Type 0) (Post : U → MutBor V → ℕ → R → MutBor V → Type 0) (Makes : M → Result (V × ℕ) E → Type 0) where
  pub is_plain : (old new : Segmented K V S) → IsSegmented eq old → old.most_protected ≡ 0 → IsPlain eq Step Post Makes old new
  is_plain old new valid share = record {
    none = upper_none eq old new valid share;
    uses = λ key answer does. plain_uses eq old new valid share key answer does;
    updates = λ update key answer does. plain_updates eq old new valid share (Post update) key answer does;
    removes = λ key does. plain_removes eq old new valid share key does;
    pops = λ answer does. plain_pops eq old new valid share answer does;
    puts = λ visit key value weight answer does. plain_puts eq old new valid share Step visit key value weight answer does;
    uses_or_puts = λ make visit key answer does. plain_uses_or_puts eq old new valid share (Makes make) Step visit key answer does;
    clears = λ visit does. plain_clears eq old new valid share Step visit does;
  }
