-- When a row is refused, and what the cache's put makes of one that only want of memory may refuse.
use Rattle.std.proofs.Common.{◌≡◌, ℕ, ◌+◌, ◌-◌, ◌<◌, ◌≤◌, cond, not, List, [], ◌∷◌, ◌++◌, length, Some, None, Ok, Err, refl, sym, ap, ◌∙◌, subst, inl, inr, arith, append-nil}
use Rattle.std.specs.Prelude.{Option, nat_eq, count_by, is_some, option_map}
use Rattle.std.specs.Option.{option_map_or}
use Rattle.std.proofs.lemmas.Bool.{false≢true}
use Rattle.std.proofs.lemmas.List.{length-append}
use Rattle.std.proofs.lemmas.List.Sums.{sum_by-cons}
use Rattle.lru_owned_cache.specs.declared.entry.Entry.{Entry}
use Rattle.lru_owned_cache.specs.Entries.{entry, weight_of}
use Rattle.lru_owned_cache.proofs.Rows.{some_of, by_bool}
use Rattle.lru_owned_cache.specs.declared.cache.Cause.{Cause as CacheCause}
use Rattle.lru_owned_cache.specs.declared.cache.Cause.TheVariants.{TooHeavy, Full, Memory as NoMemory}
use Rattle.lru_owned_cache.specs.declared.cache.Refused.{Refused as CacheRefused}
use Rattle.lru_owned_cache.specs.Cache.{Fit, Leaves, MayRefuse as CacheMayRefuse, entry_of, without}
use Rattle.lru_shard.specs.declared.unit.Cause.TheVariants.{Memory, Weight, Length}
use Rattle.lru_shard.specs.Shard.{refusal, and_row, MayRefuse}
use Rattle.lru_shard.proofs.Refusals.{refusal_none, refusal_weight, refusal_length, allowed_light, allowed_short}
use Rattle.lru_segmented.specs.Segmented.{Segmented, entries, plain, removed, with_segments, with_more, LetsGo, Rejoins, Puts}
use Rattle.lru_segmented.proofs.Lists.{nil_append, without_absent, without-append, weight-append, weight-cons}
use Rattle.lru_segmented.proofs.Plain.{recedes_leaves}
use Rattle.lru_segmented.specs.SegmentedUnit.{sized, sized_with, IsUnit, Admitted, Admits}

module _ {T : Type 0} (k : ℕ) where
  abbrev counted : List (Entry ℕ T) → ℕ
  counted es = count_by (λ e. nat_eq e.key k) es

  counted-cons : (e : Entry ℕ T) (es : List (Entry ℕ T)) → counted (e ∷ es) ≡ cond (nat_eq e.key k) 1 0 + counted es
  counted-cons e es = sum_by-cons (λ (x : Entry ℕ T). cond (nat_eq x.key k) 1 0) e es

  keyless : (es : List (Entry ℕ T)) → counted es ≡ 0 → without nat_eq es k ≡ es
  keyless [] none = refl
  keyless (x ∷ xs) none =
      by_bool (nat_eq x.key k)
      (λ yes. absurd (omega (arith, none, counted-cons x xs, ap {B = ℕ} (λ b. cond b 1 0) yes)))
      (λ no.
      let rest = keyless xs (omega (arith, none, counted-cons x xs)) in
      ap (λ b. cond (not b) (x ∷ without nat_eq xs k) (without nat_eq xs k)) no ∙ ap (λ ys. x ∷ ys) rest)

  -- what a key's entry weighs, and the others
  pub weight_beside : (es : List (Entry ℕ T)) (e : Entry ℕ T) → entry_of nat_eq es k ≡ Some e → counted es ≤ 1 → (weight_of es ≡ e.weight + weight_of (without nat_eq es k)) × (length es ≡ 1 + length (without nat_eq es k))
  weight_beside [] e found once = absurd (false≢true (ap is_some found))
  weight_beside (x ∷ xs) e found once =
      by_bool (nat_eq x.key k)
      (λ yes.
      let is : x ≡ e = some_of x e (sym (ap (λ b. cond b (Some x) (entry_of nat_eq xs k)) yes) ∙ found) in
      let rest : without nat_eq (x ∷ xs) k ≡ xs =
      ap (λ b. cond (not b) (x ∷ without nat_eq xs k) (without nat_eq xs k)) yes ∙ keyless xs (omega (arith, once, counted-cons x xs, ap {B = ℕ} (λ b. cond b 1 0) yes)) in (
        omega (arith, weight-cons x xs, ap (λ (y : Entry ℕ T). y.weight) is, ap weight_of rest),
        omega (arith, ap length rest),
      ))
      (λ no.
      let less = weight_beside xs e (sym (ap (λ b. cond b (Some x) (entry_of nat_eq xs k)) no) ∙ found) (omega (arith, once, counted-cons x xs)) in
      let rest : without nat_eq (x ∷ xs) k ≡ x ∷ without nat_eq xs k = ap (λ b. cond (not b) (x ∷ without nat_eq xs k) (without nat_eq xs k)) no in (
        omega (arith, less.0, weight-cons x xs, ap weight_of rest, weight-cons x (without nat_eq xs k)),
        omega (arith, less.1, ap length rest),
      ))

-- what is told of the weight of an entry that may be there
pub none_found : {T : Type 0} (o : Option (Entry ℕ T)) → option_map (λ (e : Entry ℕ T). e.weight) o ≡ None → o ≡ None
none_found None told = refl
none_found (Some e) told = absurd (false≢true (sym (ap is_some told)))

pub one_found : {T : Type 0} (o : Option (Entry ℕ T)) (n : ℕ) → option_map (λ (e : Entry ℕ T). e.weight) o ≡ Some n → (e : Entry ℕ T) × ((o ≡ Some e) × (e.weight ≡ n))
one_found None n told = absurd (false≢true (ap is_some told))
one_found (Some e) n told = (e, (refl, some_of e.weight n told))

module _ {T S : Type 0} (c : Segmented ℕ T S) (u : IsUnit c) (k w : ℕ) where
  abbrev es : List (Entry ℕ T)
  es = entries c

  -- ---- which rows are refused
  module _ (none : entry_of nat_eq (entries c) k ≡ None) where
    one_more : sized_with (entries c) k w ≡ and_row (sized (entries c)) w
    one_more = ap (λ xs. and_row (sized xs) w) (without_absent nat_eq k (entries c) none)

    pub new_long : c.most_entries ≤ length (entries c) → refusal c.most_weight (sized (entries c)) (sized_with (entries c) k w) ≡ Some Length
    new_long full =
        ap (refusal c.most_weight (sized (entries c))) one_more
        ∙ refusal_length c.most_weight (sized (entries c)) (and_row (sized (entries c)) w) (omega arith) (omega (arith, full, u.most_is))

    pub new_heavy : length (entries c) < c.most_entries → c.most_weight - weight_of (entries c) < w → refusal c.most_weight (sized (entries c)) (sized_with (entries c) k w) ≡ Some Weight
    new_heavy few heavy =
        ap (refusal c.most_weight (sized (entries c))) one_more
        ∙ refusal_weight c.most_weight (sized (entries c)) (and_row (sized (entries c)) w) (inr (omega (arith, few, u.most_is))) (omega (arith, heavy, u.valid.fits.0))

    pub new_light : length (entries c) < c.most_entries → w ≤ c.most_weight - weight_of (entries c) → refusal c.most_weight (sized (entries c)) (sized_with (entries c) k w) ≡ None
    new_light few light =
        ap (refusal c.most_weight (sized (entries c))) one_more
        ∙ refusal_none c.most_weight (sized (entries c)) (and_row (sized (entries c)) w) (inr (omega (arith, few, u.most_is))) (omega (arith, light, u.valid.fits.0))

  module _ (e : Entry ℕ T) (found : entry_of nat_eq (entries c) k ≡ Some e) where
    beside : (weight_of (entries c) ≡ e.weight + weight_of (without nat_eq (entries c) k)) × (length (entries c) ≡ 1 + length (without nat_eq (entries c) k))
    beside = weight_beside k (entries c) e found (u.valid.keys k)

    pub old_within : e.weight ≤ weight_of (entries c)
    old_within = omega (arith, beside.0)

    pub old_heavy : c.most_weight - (weight_of (entries c) - e.weight) < w → refusal c.most_weight (sized (entries c)) (sized_with (entries c) k w) ≡ Some Weight
    old_heavy heavy = refusal_weight c.most_weight (sized (entries c)) (sized_with (entries c) k w) (inl (omega (arith, beside.1))) (omega (arith, heavy, beside.0, u.valid.fits.0))

    pub old_light : w ≤ c.most_weight - (weight_of (entries c) - e.weight) → refusal c.most_weight (sized (entries c)) (sized_with (entries c) k w) ≡ None
    old_light light = refusal_none c.most_weight (sized (entries c)) (sized_with (entries c) k w) (inl (omega (arith, beside.1))) (omega (arith, light, beside.0, u.valid.fits.0))

-- ---- what fits lets nothing go
all_fit : {K V : Type 0} (w n : ℕ) (all front gone : List (Entry K V)) → Leaves w n all front gone → Fit w n all → gone ≡ []
all_fit w n all front [] l fit = refl
all_fit w n all front (e ∷ rest) l fit =
    absurd (l.needed e rest refl (
      omega (arith, fit.0, ap weight_of l.parts, weight-append front (e ∷ rest), weight-cons e rest, weight-append front (e ∷ []), weight-cons e []),
      omega (arith, fit.1, ap length l.parts, length-append front (e ∷ rest), length-append front (e ∷ [])),
    ))

nothing_goes : {K V S F : Type 0} (Step : F → Entry K V → F → Type 0) (visit : F) (w n : ℕ) (old mid : Segmented K V S) → LetsGo Step visit w n old mid → Fit w n (entries old) → mid ≡ old
nothing_goes {K} {V} {S} Step visit w n old mid lets fit =
    let none : lets.gone ≡ [] = all_fit w n (entries old) (entries mid) lets.gone (recedes_leaves w n old.upper old.lower mid.upper mid.lower lets.gone lets.recedes) fit in
    let both = nil_append lets.recedes.upper_gone lets.recedes.lower_gone (sym none ∙ lets.recedes.gone_is) in
    let us : mid.upper ≡ old.upper = sym (lets.recedes.upper_parts ∙ ap (λ zs. mid.upper ++ zs) both.0 ∙ append-nil mid.upper) in
    let ls : mid.lower ≡ old.lower = sym (lets.recedes.lower_parts ∙ ap (λ zs. mid.lower ++ zs) both.1 ∙ append-nil mid.lower) in
    lets.same ∙ ap (λ zs. with_segments old zs mid.lower) us ∙ ap (with_segments old old.upper) ls

-- ---- what a put is
module _ {T S : Type 0} (old : Segmented ℕ T S) (u : IsUnit old) (k : ℕ) (d : T) (w : ℕ) (allowed : refusal old.most_weight (sized (entries old)) (sized_with (entries old) k w) ≡ None) (new : Segmented ℕ T S) where
  light : weight_of (without nat_eq (entries old) k) + w ≤ old.most_weight
  light = allowed_light old.most_weight (sized (entries old)) (sized_with (entries old) k w) allowed

  few : length (without nat_eq (entries old) k) + 1 ≤ old.most_entries
  few =
      omega (
        arith,
        u.most_is,
        allowed_short old.most_weight (sized (entries old)) (sized_with (entries old) k w) (omega (arith, u.valid.fits.1, u.most_is)) (omega (arith, shorter (entries old))) allowed,
      )
    where
      shorter : (es : List (Entry ℕ T)) → length (without nat_eq es k) ≤ length es
      shorter [] = omega arith
      shorter (e ∷ es) =
          let rest = shorter es in
          by_bool (nat_eq e.key k)
          (λ yes. omega (arith, rest, ap (λ b. length (cond (not b) (e ∷ without nat_eq es k) (without nat_eq es k))) yes))
          (λ no. omega (arith, rest, ap (λ b. length (cond (not b) (e ∷ without nat_eq es k) (without nat_eq es k))) no))

  module _ {F : Type 0} (Step : F → Entry ℕ T → F → Type 0) (visit : F) where
    admits_new : Puts nat_eq Step visit old k d w (Ok None) new → Admits old k d w (Ok 0) new
    admits_new (weighs, (none, (mid, (lets, is)))) =
        let same : without nat_eq (entries old) k ≡ entries old = without_absent nat_eq k (entries old) none in
        let stays = nothing_goes Step visit (old.most_weight - w) (old.most_entries - 1) old mid lets (omega (arith, light, ap weight_of same), omega (arith, few, ap length same)) in (
          allowed,
          (
            ap (λ o. option_map_or (λ (e : Entry ℕ T). e.weight) o 0) (sym none),
            subst (λ o. Admitted old k d w o new) (sym none) (is ∙ ap (λ (m : Segmented ℕ T S). with_more m m.upper (entry k d w ∷ m.lower)) stays),
          ),
        )

    admits_again : (was : Entry ℕ T) → Puts nat_eq Step visit old k d w (Ok (Some was)) new → Admits old k d w (Ok was.weight) new
    admits_again was (weighs, (found, (mid, (lets, rejoins)))) =
        let parts : entries (removed nat_eq old k) ≡ without nat_eq (entries old) k = sym (without-append nat_eq k old.upper old.lower) in
        let stays = nothing_goes Step visit (old.most_weight - w) (old.most_entries - 1) (removed nat_eq old k) mid lets (omega (arith, light, ap weight_of parts), omega (arith, few, ap length parts)) in (
          allowed,
          (
            ap (λ o. option_map_or (λ (e : Entry ℕ T). e.weight) o 0) (sym found),
            subst (λ o. Admitted old k d w o new) (sym found) (subst (λ m. Rejoins m (entry k d w) new) stays rejoins),
          ),
        )

    pub admits_put : (o : Option (Entry ℕ T)) → Puts nat_eq Step visit old k d w (Ok o) new → (n : ℕ) → n ≡ option_map_or (λ (e : Entry ℕ T). e.weight) o 0 → Admits old k d w (Ok n) new
    admits_put None puts n is = subst (λ m. Admits old k d w (Ok m) new) (sym is) (admits_new puts)
    admits_put (Some was) puts n is = subst (λ m. Admits old k d w (Ok m) new) (sym is) (admits_again was puts)

  -- only want of memory is left to refuse it
  only_memory : (cause : CacheCause) → CacheMayRefuse nat_eq (plain old) k w cause → MayRefuse old.most_weight (sized (entries old)) (sized_with (entries old) k w) Memory
  only_memory TooHeavy may = absurd (elim may [ inl heavy ↦ omega (arith, light, heavy) | inr none ↦ omega (arith, few, none) ])
  only_memory Full may = absurd (omega (arith, few, ap length (without_absent nat_eq k (entries old) may.0), may.1.1, u.most_is))
  only_memory NoMemory may = (allowed, omega (arith, ap length (without_absent nat_eq k (entries old) may.0)))

  pub admits_refused : (r : CacheRefused ℕ T) → CacheMayRefuse nat_eq (plain old) k w r.cause → r.value ≡ d → new ≡ old → Admits old k d w (Err (record { cause = Memory; held = r.value })) new
  admits_refused r may held same = (only_memory r.cause may, (held, same))

-- the same of a cache by another name
module _ {T S : Type 0} (x old : Segmented ℕ T S) (is : x ≡ old) (u : IsUnit old) (k : ℕ) (d : T) (w : ℕ) (allowed : refusal old.most_weight (sized (entries old)) (sized_with (entries old) k w) ≡ None) (new : Segmented ℕ T S) where
  pub put_admits : {F : Type 0} (Step : F → Entry ℕ T → F → Type 0) (visit : F) (o : Option (Entry ℕ T)) → Puts nat_eq Step visit x k d w (Ok o) new → (n : ℕ) → n ≡ option_map_or (λ (e : Entry ℕ T). e.weight) o 0 → Admits old k d w (Ok n) new
  put_admits Step visit o puts n told = admits_put old u k d w allowed new Step visit o (subst (λ y. Puts nat_eq Step visit y k d w (Ok o) new) is puts) n told

  pub put_refused : (r : CacheRefused ℕ T) → CacheMayRefuse nat_eq (plain x) k w r.cause × ((r.key ≡ k) × ((r.value ≡ d) × (new ≡ x))) → Admits old k d w (Err (record { cause = Memory; held = r.value })) new
  put_refused r refused = admits_refused old u k d w allowed new r (subst (λ y. CacheMayRefuse nat_eq (plain y) k w r.cause) is refused.0) refused.1.1.0 (refused.1.1.1 ∙ is)
