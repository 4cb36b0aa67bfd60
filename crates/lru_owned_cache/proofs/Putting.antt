-- An entry is put in place of its key's.
use Rattle.std.proofs.Common.{◌≡◌, ℕ, ◌+◌, ◌-◌, ◌<◌, ◌≤◌, cond, not, List, [], ◌∷◌, length, Some, None, Ok, Err, refl, sym, ap, ◌∙◌, subst, arith, true, false}
use Rattle.std.specs.Prelude.{Option, Bool, is_some}
use Rattle.std.specs.Option.{option_map_or}
use Rattle.std.proofs.lemmas.Bool.{false≢true}
use Rattle.lru_owned_cache.specs.declared.entry.Entry.{Entry}
use Rattle.lru_owned_cache.specs.declared.cache.Refused.{Refused}
use Rattle.lru_owned_cache.specs.Cache.{Cached, entry_of, without, IsCache, Leaves, Puts, Settles, with_entries, used}
use Rattle.lru_owned_cache.specs.Entries.{entry}
use Rattle.lru_rows.specs.Rows.{Recency}
use Rattle.lru_owned_cache.specs.Representation.{cached_in}
use Rattle.lru_owned_cache.proofs.Rows.{by_bool}

same_head : {A : Type 0} (a b : A) (xs ys : List A) → a ∷ xs ≡ b ∷ ys → a ≡ b
same_head a b xs ys e = cc

same_tail : {A : Type 0} (a b : A) (xs ys : List A) → a ∷ xs ≡ b ∷ ys → xs ≡ ys
same_tail a b xs ys e = cc

pub none_is : {A : Type 0} (o : Option A) → is_some o ≡ false → o ≡ None
none_is None e = refl
none_is (Some a) e = absurd (false≢true (sym e))

-- an entry that is within the limits that are kept is within those of the cache
pub fits_alone : {K V S : Type 0} (r : Recency K V) (hashes : S) (most_weight most_entries : ℕ) (c : Cached K V S) → cached_in r hashes most_weight most_entries ≡ c → (w : ℕ) → w ≤ most_weight → 0 < most_entries →
    (w ≤ c.most_weight) × (0 < c.most_entries)
fits_alone r hashes most_weight most_entries c view w light some = subst (λ x. (w ≤ x.most_weight) × (0 < x.most_entries)) view (light, some)

module _ {K V : Type 0} (eq : K → K → Bool) where
  -- how many entries are left without a key's
  shorter : (es : List (Entry K V)) (key : K) → length (without eq es key) ≤ length es
  shorter [] key = omega arith
  shorter (e ∷ es) key =
      by_bool (eq e.key key)
      (λ is. omega (arith, ap (λ b. length (cond (not b) (e ∷ without eq es key) (without eq es key))) is, shorter es key))
      (λ is. omega (arith, ap (λ b. length (cond (not b) (e ∷ without eq es key) (without eq es key))) is, shorter es key))

  pub one_less : (es : List (Entry K V)) (key : K) → is_some (entry_of eq es key) ≡ true → length (without eq es key) + 1 ≤ length es
  one_less [] key some = absurd (false≢true some)
  one_less (e ∷ es) key some =
      by_bool (eq e.key key)
      (λ is. omega (arith, ap (λ b. length (cond (not b) (e ∷ without eq es key) (without eq es key))) is, shorter es key))
      (λ is. omega (
        arith,
        ap (λ b. length (cond (not b) (e ∷ without eq es key) (without eq es key))) is,
        one_less es key (sym (ap (λ b. is_some (cond b (Some e) (entry_of eq es key))) is) ∙ some),
      ))

  pub all_left : (es : List (Entry K V)) (key : K) → entry_of eq es key ≡ None → without eq es key ≡ es
  all_left [] key none = refl
  all_left (e ∷ es) key none =
      by_bool (eq e.key key)
      (λ is. absurd (false≢true (ap is_some (sym none ∙ ap (λ b. cond b (Some e) (entry_of eq es key)) is))))
      (λ is. ap (λ b. cond (not b) (e ∷ without eq es key) (without eq es key)) is
      ∙ ap (λ xs. e ∷ xs) (all_left es key (sym (ap (λ b. cond b (Some e) (entry_of eq es key)) is) ∙ none)))

  -- an entry that was put in place of its key's, and the others go that have to
  module _ {S : Type 0} (old : Cached K V S) (valid : IsCache eq old) (key : K) (v : V) (w u : ℕ) (m : Cached K V S) (m_is : m ≡ with_entries old (entry key v u ∷ without eq old.entries key)) (e : Entry K V) (had : entry_of eq old.entries key ≡ Some e) where
    one_fewer : length (without eq old.entries key) + 1 ≤ length old.entries
    one_fewer = one_less old.entries key (ap is_some had)

    entries_now : m.entries ≡ entry key v u ∷ without eq old.entries key
    entries_now = ap (λ (c : Cached K V S). c.entries) m_is

    pub some_put : 0 < length m.entries
    some_put = omega (arith, ap length entries_now)

    same_places : (es : List (Entry K V)) → with_entries m es ≡ with_entries old es
    same_places es =
        ap (λ (c : Cached K V S). with_entries c es) m_is
        ∙ ap (λ n. record { entries = es; places = n; most_weight = old.most_weight; most_entries = old.most_entries; hashes = old.hashes }) (omega (arith, valid.placed, one_fewer))

    pub settled_puts : {F : Type 0} (Step : F → Entry K V → F → Type 0) (visit : F) (new : Cached K V S) → (w ≤ old.most_weight) × (0 < old.most_entries) → Settles Step visit m w new → Puts eq Step visit old key v w (Ok (Some e)) new
    settled_puts Step visit new fits (x, (rest, (is, (front, (gone, (l, (shown, new_is))))))) =
        let whole : x ∷ rest ≡ entry key v u ∷ without eq old.entries key = sym is ∙ entries_now in (
          fits,
          (
            sym had,
            (
              front,
              (
                gone,
                (
                  subst (λ a. Leaves (a - w) (old.most_entries - 1) (without eq old.entries key) front gone) (ap (λ (c : Cached K V S). c.most_weight) m_is)
                      (subst (λ n. Leaves (m.most_weight - w) (n - 1) (without eq old.entries key) front gone) (ap (λ (c : Cached K V S). c.most_entries) m_is)
                      (subst (λ es. Leaves (m.most_weight - w) (m.most_entries - 1) es front gone) (same_tail x (entry key v u) rest (without eq old.entries key) whole) l)),
                  (
                    shown,
                    new_is ∙ ap (λ (y : Entry K V). with_entries m (entry y.key y.value w ∷ front)) (same_head x (entry key v u) rest (without eq old.entries key) whole) ∙ same_places (entry key v w ∷ front),
                  ),
                ),
              ),
            ),
          ),
        )

  -- a key without an entry is used by nothing, and one is put of it
  module _ {S : Type 0} (old : Cached K V S) (valid : IsCache eq old) (key : K) (none : entry_of eq old.entries key ≡ None) (m : Cached K V S) (m_is : m ≡ with_entries old (used eq old.entries key)) where
    pub same_unused : m ≡ old
    same_unused =
        m_is ∙ ap (with_entries old) (ap (λ o. option_map_or (λ e. e ∷ without eq old.entries key) o old.entries) none)
        ∙ ap (λ n. record { entries = old.entries; places = n; most_weight = old.most_weight; most_entries = old.most_entries; hashes = old.hashes }) (omega (arith, valid.placed))

    module _ {F : Type 0} (Step : F → Entry K V → F → Type 0) (visit : F) (v : V) (w : ℕ) (new : Cached K V S) where
      from_old : (o : Option (Entry K V)) → Puts eq Step visit old key v w (Ok o) new → Puts eq Step visit old key v w (Ok None) new
      from_old o puts = (puts.0, (sym none, puts.1.1))

      pub put_new : (o : Option (Entry K V)) → Puts eq Step visit m key v w (Ok o) new → Puts eq Step visit old key v w (Ok None) new
      put_new o puts = from_old o (subst (λ c. Puts eq Step visit c key v w (Ok o) new) same_unused puts)

      pub put_refused : (r : Refused K V) → Puts eq Step visit m key v w (Err r) new → Puts eq Step visit old key v w (Err r) new
      put_refused r puts = subst (λ c. Puts eq Step visit c key v w (Err r) new) same_unused puts
