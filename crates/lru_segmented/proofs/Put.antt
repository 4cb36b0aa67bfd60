-- An entry is put, once what has to go for it went.
use Rattle.std.proofs.Common.{◌≡◌, ℕ, ◌+◌, ◌-◌, ◌<◌, ◌≤◌, List, [], ◌∷◌, ◌++◌, length, Some, None, Ok, Err, refl, sym, ap, ◌∙◌, subst, arith, append-nil}
use Rattle.std.specs.Prelude.{Option, Bool}
use Rattle.std.proofs.lemmas.List.{length-append}
use Rattle.lru_rows.specs.Rows.{most_rows}
use Rattle.lru_owned_cache.specs.declared.entry.Entry.{Entry}
use Rattle.lru_owned_cache.specs.Entries.{entry, weight_of}
use Rattle.lru_owned_cache.specs.declared.cache.Cause.{Cause}
use Rattle.lru_owned_cache.specs.declared.cache.Cause.TheVariants.{TooHeavy, Full, Memory}
use Rattle.lru_owned_cache.specs.declared.cache.Refused.{Refused}
use Rattle.lru_owned_cache.specs.Cache.{Fit, MayRefuse, entry_of, without}
use Rattle.lru_segmented.specs.Segmented.{Segmented, entries, plain, removed, with_segments, with_more, IsSegmented, LetsGo, LacksPlace, Enters, Rejoins, Puts}
use Rattle.lru_segmented.proofs.Lists.{none_some, absent_front, absent_back, absent_both, without_absent, without_absent_key, without_fewer, without-append, not_removed}

none_long : {A : Type 0} (xs : List A) → length xs ≤ 0 → xs ≡ []
none_long [] few = refl
none_long (x ∷ xs) few = absurd (omega (arith, few))

-- limits and a cache by other names
pub by_names : {K V S F : Type 0} (Step : F → Entry K V → F → Type 0) (visit : F) (old start mid : Segmented K V S) (eq : K → K → Bool) (k : K) (w a b : ℕ) → a ≡ old.most_weight → b ≡ old.most_entries → start ≡ removed eq old k →
    LetsGo Step visit (a - w) (b - 1) start mid → LetsGo Step visit (old.most_weight - w) (old.most_entries - 1) (removed eq old k) mid
by_names Step visit old start mid eq k w a b a_is b_is start_is lets =
    subst (λ x. LetsGo Step visit (old.most_weight - w) (old.most_entries - 1) x mid) start_is
    (subst (λ z. LetsGo Step visit (z - w) (old.most_entries - 1) start mid) a_is (subst (λ z. LetsGo Step visit (a - w) (z - 1) start mid) b_is lets))

module _ {K V S F : Type 0} (eq : K → K → Bool) (Step : F → Entry K V → F → Type 0) (visit : F) (old : Segmented K V S) (valid : IsSegmented eq old) (k : K) (v : V) (w : ℕ) (light : w ≤ old.most_weight) (some : 0 < old.most_entries)
    (mid : Segmented K V S) (lets : LetsGo Step visit (old.most_weight - w) (old.most_entries - 1) (removed eq old k) mid) where
  same_weight : mid.most_weight ≡ old.most_weight
  same_weight = ap (λ (c : Segmented K V S). c.most_weight) lets.same

  same_entries : mid.most_entries ≡ old.most_entries
  same_entries = ap (λ (c : Segmented K V S). c.most_entries) lets.same

  same_places : mid.places ≡ old.places
  same_places = ap (λ (c : Segmented K V S). c.places) lets.same

  pub same_hashes : mid.hashes ≡ old.hashes
  same_hashes = ap (λ (c : Segmented K V S). c.hashes) lets.same

  pub mid_light : weight_of (entries mid) + w ≤ mid.most_weight
  mid_light = omega (arith, lets.recedes.fits.0, light, same_weight)

  pub mid_few : length (entries mid) < mid.most_entries
  mid_few = omega (arith, lets.recedes.fits.1, some, same_entries)

  mid_upper : entry_of eq mid.upper k ≡ None
  mid_upper = absent_front eq k mid.upper lets.recedes.upper_gone (ap (λ es. entry_of eq es k) (sym lets.recedes.upper_parts) ∙ without_absent_key eq k old.upper)

  mid_lower : entry_of eq mid.lower k ≡ None
  mid_lower = absent_front eq k mid.lower lets.recedes.lower_gone (ap (λ es. entry_of eq es k) (sym lets.recedes.lower_parts) ∙ without_absent_key eq k old.lower)

  -- the key has no entry then
  pub mid_absent : entry_of eq (entries mid) k ≡ None
  mid_absent = absent_both eq k mid.upper mid.lower mid_upper mid_lower

  long_without : length (without eq old.upper k) + length (without eq old.lower k) ≡ length (entries mid) + length lets.gone
  long_without =
      omega (
        arith,
        ap length lets.recedes.upper_parts,
        length-append mid.upper lets.recedes.upper_gone,
        ap length lets.recedes.lower_parts,
        length-append mid.lower lets.recedes.lower_gone,
        length-append mid.upper mid.lower,
        ap length lets.recedes.gone_is,
        length-append lets.recedes.upper_gone lets.recedes.lower_gone,
      )

  -- ---- the key had an entry
  module _ (was : Entry K V) (found : entry_of eq (entries old) k ≡ Some was) where
    mid_shorter : length (entries mid) + 1 ≤ length (entries old)
    mid_shorter =
        omega (arith, long_without, without_fewer eq k (entries old) was found, ap length (without-append eq k old.upper old.lower), length-append (without eq old.upper k) (without eq old.lower k))

    pub mid_placed : length (entries mid) < mid.places
    mid_placed = omega (arith, mid_shorter, valid.placed, same_places)

    pub mid_short : length (entries mid) < most_rows
    mid_short = omega (arith, mid_shorter, valid.short)

    pub puts_again : (new : Segmented K V S) → Rejoins mid (entry k v w) new → Puts eq Step visit old k v w (Ok (Some was)) new
    puts_again new rejoins = ((light, some), (found, (mid, (lets, rejoins))))

  -- ---- it had none
  module _ (none : entry_of eq (entries old) k ≡ None) where
    lets_old : LetsGo Step visit (old.most_weight - w) (old.most_entries - 1) old mid
    lets_old = subst (λ c. LetsGo Step visit (old.most_weight - w) (old.most_entries - 1) c mid) (not_removed eq k old none) lets

    pub puts_new : (new : Segmented K V S) → new ≡ with_more mid mid.upper (entry k v w ∷ mid.lower) → Puts eq Step visit old k v w (Ok None) new
    puts_new new is = ((light, some), (none, (mid, (lets_old, is))))

    -- it is refused only where nothing went
    long_old : length (entries old) ≡ length (entries mid) + length lets.gone
    long_old =
        omega (
          arith,
          long_without,
          length-append old.upper old.lower,
          ap length (without_absent eq k old.upper (absent_front eq k old.upper old.lower none)),
          ap length (without_absent eq k old.lower (absent_back eq k old.upper old.lower none)),
        )

    unchanged : length lets.gone ≤ 0 → mid ≡ old
    unchanged few =
        let upper = none_long lets.recedes.upper_gone (omega (arith, few, ap length lets.recedes.gone_is, length-append lets.recedes.upper_gone lets.recedes.lower_gone)) in
        let lower = none_long lets.recedes.lower_gone (omega (arith, few, ap length lets.recedes.gone_is, length-append lets.recedes.upper_gone lets.recedes.lower_gone)) in
        let us : mid.upper ≡ old.upper =
        sym (sym (without_absent eq k old.upper (absent_front eq k old.upper old.lower none)) ∙ lets.recedes.upper_parts ∙ ap (λ zs. mid.upper ++ zs) upper ∙ append-nil mid.upper) in
        let ls : mid.lower ≡ old.lower =
        sym (sym (without_absent eq k old.lower (absent_back eq k old.upper old.lower none)) ∙ lets.recedes.lower_parts ∙ ap (λ zs. mid.lower ++ zs) lower ∙ append-nil mid.lower) in
        lets.same ∙ ap (λ zs. with_segments old zs mid.lower) us ∙ ap (with_segments old old.upper) ls

    refuse_by : (cause : Cause) → LacksPlace mid cause → MayRefuse eq (plain old) k w cause × (mid ≡ old)
    refuse_by Memory lacks =
        let few : length lets.gone ≤ 0 = omega (arith, lacks.1, same_places, valid.placed, long_old) in
        let same = unchanged few in (
          (none, (subst (λ (c : Segmented K V S). Fit (old.most_weight - w) (old.most_entries - 1) (entries c)) same lets.recedes.fits, (omega (arith, lacks.0, long_old, few), omega (arith, lacks.1, same_places, long_old, few)))),
          same,
        )
    refuse_by Full lacks =
        let few : length lets.gone ≤ 0 = omega (arith, lacks, valid.short, long_old) in
        let same = unchanged few in
        ((none, (subst (λ (c : Segmented K V S). Fit (old.most_weight - w) (old.most_entries - 1) (entries c)) same lets.recedes.fits, omega (arith, lacks, long_old, few))), same)
    refuse_by TooHeavy lacks = absurd lacks

    pub puts_refused : (r : Refused K V) (new : Segmented K V S) → Enters mid k v w (Err r) new → Puts eq Step visit old k v w (Err r) new
    puts_refused r new enters =
        let why = refuse_by r.cause enters.0 in
        (why.0, (enters.1.0, (enters.1.1.0, enters.1.1.1 ∙ why.1)))

-- a key that has no entry is used by nothing, and one is put of it
module _ {K V S F : Type 0} (eq : K → K → Bool) (Step : F → Entry K V → F → Type 0) (visit : F) (old m : Segmented K V S) (k : K) (v : V) (w : ℕ) (none : entry_of eq (entries old) k ≡ None) (same : m ≡ old) (new : Segmented K V S) where
  from_old : (o : Option (Entry K V)) → Puts eq Step visit old k v w (Ok o) new → Puts eq Step visit old k v w (Ok None) new
  from_old None puts = puts
  from_old (Some was) puts = absurd (none_some was (sym none ∙ puts.1.0))

  pub used_new : (o : Option (Entry K V)) → Puts eq Step visit m k v w (Ok o) new → Puts eq Step visit old k v w (Ok None) new
  used_new o puts = from_old o (subst (λ c. Puts eq Step visit c k v w (Ok o) new) same puts)

  pub used_refused : (r : Refused K V) → Puts eq Step visit m k v w (Err r) new → Puts eq Step visit old k v w (Err r) new
  used_refused r puts = subst (λ c. Puts eq Step visit c k v w (Err r) new) same puts
