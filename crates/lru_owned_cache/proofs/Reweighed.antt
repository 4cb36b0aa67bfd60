-- A value is lent, and its entry gets another weight.
use Rattle.std.proofs.Common.{◌≡◌, Some, Err, Ok, ℕ, ◌+◌, ◌-◌, ◌<◌, ◌≤◌, List, ◌∷◌, length, refl, sym, ap, ◌∙◌, subst, arith, true}
use Rattle.std.specs.Prelude.{Bool, is_some}
use Rattle.std.specs.Borrow.{Bor, MutBor}
use Rattle.lru_rows.specs.Rows.{Updates}
use Rattle.lru_owned_cache.specs.declared.entry.Entry.{Entry}
use Rattle.lru_owned_cache.specs.Cache.{Cached, without, with_entries, Leaves, PopsFirst, Settles, Weighs, UpdatesEntry, Reweighs}
use Rattle.lru_owned_cache.specs.Entries.{entry}
use Rattle.lru_owned_cache.proofs.Putting.{one_less}

same_head : {A : Type 0} (a b : A) (xs ys : List A) → a ∷ xs ≡ b ∷ ys → a ≡ b
same_head a b xs ys e = cc

same_tail : {A : Type 0} (a b : A) (xs ys : List A) → a ∷ xs ≡ b ∷ ys → xs ≡ ys
same_tail a b xs ys e = cc

pub weighed : {K V : Type 0} {post : Bor K → Bor V → ℕ → Type 0} {w : ℕ} (key : Bor K) (value : Bor V) → post key value w → Weighs post key.now value.now w
weighed key value called = record { key = key; value = value; shows_key = refl; shows_value = refl; called = called }

module _ {K V F S : Type 0} (eq : K → K → Bool) (post : MutBor V → ℕ → ℕ → MutBor V → Type 0) (Step : F → Entry K V → F → Type 0) (visit : F) (old : Cached K V S) (placed : length old.entries ≤ old.places)
    (key : K) (w : ℕ) (m : Cached K V S) (u : UpdatesEntry eq post old key (Some w) m) where
  abbrev others : List (Entry K V)
  others = without eq old.entries key

  abbrev lent : Entry K V
  lent = entry u.0.key u.1.1.0 u.0.weight

  one_fewer : length others + 1 ≤ length old.entries
  one_fewer = one_less eq old.entries key (ap is_some u.1.0)

  entries_now : m.entries ≡ lent ∷ others
  entries_now = ap (λ (c : Cached K V S). c.entries) u.1.1.1.1

  pub some_now : 0 < length m.entries
  some_now = omega (arith, ap length entries_now)

  -- other entries in the cache that the value was changed in
  same_places : (es : List (Entry K V)) → with_entries m es ≡ with_entries old es
  same_places es =
      ap (λ (c : Cached K V S). with_entries c es) u.1.1.1.1
      ∙ ap (λ n. record { entries = es; places = n; most_weight = old.most_weight; most_entries = old.most_entries; hashes = old.hashes }) (omega (arith, placed, one_fewer))

  same_most_weight : m.most_weight ≡ old.most_weight
  same_most_weight = ap (λ (c : Cached K V S). c.most_weight) u.1.1.1.1

  same_most_entries : m.most_entries ≡ old.most_entries
  same_most_entries = ap (λ (c : Cached K V S). c.most_entries) u.1.1.1.1

  -- the entry is too heavy
  pub too_heavy : old.most_weight < w → (x : Entry K V) (new : Cached K V S) → PopsFirst m (Some x) new → Reweighs eq post Step visit old key (Err (entry x.key x.value w)) new
  too_heavy heavy x new (rest, (is, new_is)) =
      let whole : x ∷ rest ≡ lent ∷ others = sym is ∙ entries_now in
      let x_is : x ≡ lent = same_head x lent rest others whole in (
        u.0,
        (
          u.1.0,
          (
            ap (λ (e : Entry K V). e.key) x_is,
            (
              subst (λ v. Updates post u.0.value u.0.weight w v) (ap (λ (e : Entry K V). e.value) (sym x_is)) u.1.1.1.0,
              (
                heavy,
                new_is ∙ ap (with_entries m) (same_tail x lent rest others whole) ∙ same_places others,
              ),
            ),
          ),
        ),
      )

  -- or the others go that have to
  pub settled : w ≤ old.most_weight → (new : Cached K V S) → Settles Step visit m w new → Reweighs eq post Step visit old key (Ok true) new
  settled light new (x, (rest, (is, (front, (gone, (l, (shown, new_is))))))) =
      let whole : x ∷ rest ≡ lent ∷ others = sym is ∙ entries_now in
      let x_is : x ≡ lent = same_head x lent rest others whole in (
        u.0,
        (
          u.1.0,
          (
            u.1.1.0,
            (
              w,
              (
                u.1.1.1.0,
                (
                  light,
                  (
                    front,
                    (
                      gone,
                      (
                        subst (λ a. Leaves (a - w) (old.most_entries - 1) others front gone) same_most_weight
                            (subst (λ n. Leaves (m.most_weight - w) (n - 1) others front gone) same_most_entries
                            (subst (λ es. Leaves (m.most_weight - w) (m.most_entries - 1) es front gone) (same_tail x lent rest others whole) l)),
                        (
                          shown,
                          new_is ∙ ap (λ (e : Entry K V). with_entries m (entry e.key e.value w ∷ front)) x_is ∙ same_places (entry u.0.key u.1.1.0 w ∷ front),
                        ),
                      ),
                    ),
                  ),
                ),
              ),
            ),
          ),
        ),
      )
