-- An entry of a key that has none is put first, once what has to go for it went.
use Rattle.std.proofs.Common.{◌≡◌, ℕ, ◌+◌, ◌-◌, ◌<◌, ◌≤◌, List, [], ◌∷◌, ◌++◌, length, None, Ok, Err, refl, sym, ap, ◌∙◌, subst, arith, append-nil}
use Rattle.std.specs.Prelude.{Bool, max}
use Rattle.std.specs.Option.{option_map}
use Rattle.std.proofs.lemmas.List.{length-append}
use Rattle.lru_rows.specs.declared.rows.NoPlace.{NoPlace}
use Rattle.lru_rows.specs.declared.rows.NoPlace.TheVariants.{Memory as NoMemory, Full as NoMore}
use Rattle.lru_rows.specs.Rows.{Placed, placed, Recency, recency, row_of, LacksPlace, IsRecency}
use Rattle.lru_owned_cache.specs.declared.entry.Entry.{Entry}
use Rattle.lru_owned_cache.specs.Entries.{entry, entry_in, entries_in, weight_in}
use Rattle.lru_owned_cache.specs.Partings.{Shrinks}
use Rattle.lru_owned_cache.proofs.Rows.{length-entries, weight-cons}
use Rattle.lru_owned_cache.specs.declared.cache.Refused.{Refused}
use Rattle.lru_owned_cache.specs.Cache.{Cached, cause_of, with_entries, entry_of, without, Fit, Leaves, MayRefuse, Puts}
use Rattle.lru_owned_cache.specs.Representation.{cached_in, IsKept}
use Rattle.lru_owned_cache.proofs.Entries.{entry-row}
use Rattle.lru_owned_cache.proofs.Placing.{front_absent, rows_fit, leaves_rows}
use Rattle.lru_owned_cache.proofs.Putting.{all_left}
use Rattle.lru_owned_cache.proofs.Views.{entries_are}

module _ {K V F S : Type 0} (eq : K → K → Bool) (r : Recency K V) (hashes : S) (used_is most_weight most_entries : ℕ) (kept : IsKept r used_is most_weight most_entries) (c : Cached K V S)
    (view : cached_in r hashes most_weight most_entries ≡ c) (valid : IsRecency eq r.rows) (key : K) (none : row_of eq r.rows key ≡ None) (Step : F → Entry K V → F → Type 0) (visit : F) (w : ℕ) (light : w ≤ most_weight) (some : 0 < most_entries)
    (r' : Recency K V) (s : Shrinks Step visit (most_weight - w) (most_entries - 1) r r') where
  left_rows : r'.rows ≡ s.front
  left_rows = ap (λ (x : Recency K V). x.rows) s.left

  left_free : r'.free ≡ r.free + length s.back
  left_free = ap (λ (x : Recency K V). x.free) s.left

  long : length r.rows ≡ length s.front + length s.back
  long = ap length s.parts ∙ length-append s.front s.back

  pub absent_left : row_of eq r'.rows key ≡ None
  absent_left = ap (λ rs. row_of eq rs key) left_rows ∙ front_absent eq key s.front s.back (ap (λ rs. row_of eq rs key) (sym s.parts) ∙ none)

  are : entries_in r.rows ≡ c.entries
  are = entries_are eq r hashes used_is most_weight most_entries kept c view

  no_entry : entry_of eq c.entries key ≡ None
  no_entry = ap (λ es. entry_of eq es key) (sym are) ∙ entry-row eq r.rows key ∙ ap (option_map entry_in) none

  same_weight : most_weight ≡ c.most_weight
  same_weight = ap (λ (x : Cached K V S). x.most_weight) view

  same_most : most_entries ≡ c.most_entries
  same_most = ap (λ (x : Cached K V S). x.most_entries) view

  same_hashes : hashes ≡ c.hashes
  same_hashes = ap (λ (x : Cached K V S). x.hashes) view

  leaves : Leaves (c.most_weight - w) (c.most_entries - 1) (without eq c.entries key) (entries_in s.front) (entries_in s.back)
  leaves =
      subst (λ es. Leaves (c.most_weight - w) (c.most_entries - 1) es (entries_in s.front) (entries_in s.back)) (are ∙ sym (all_left eq c.entries key no_entry))
      (subst (λ a. Leaves (a - w) (c.most_entries - 1) (entries_in r.rows) (entries_in s.front) (entries_in s.back)) same_weight
      (subst (λ n. Leaves (most_weight - w) (n - 1) (entries_in r.rows) (entries_in s.front) (entries_in s.back)) same_most
      (leaves_rows Step visit (most_weight - w) (most_entries - 1) r r' s)))

  -- what is kept while nothing is put, and then
  pub kept_left : (used : ℕ) → used ≡ weight_in r'.rows → IsKept r' used most_weight most_entries
  kept_left used is = record {
    used_is = is;
    light = omega (arith, is, ap weight_in left_rows, s.fits.0);
    few = omega (arith, ap length left_rows, s.fits.1);
  }

  module _ (v : V) (p : ℕ) (new : Recency K V) (is : new ≡ recency (placed p key v w ∷ r'.rows) (r'.free - 1)) where
    rows_now : new.rows ≡ placed p key v w ∷ s.front
    rows_now = ap (λ (x : Recency K V). x.rows) is ∙ ap (λ rs. placed p key v w ∷ rs) left_rows

    pub kept_fresh : (used : ℕ) → used ≡ weight_in r'.rows → IsKept new (used + w) most_weight most_entries
    kept_fresh used used_now = record {
      used_is = omega (arith, used_now, ap weight_in left_rows, ap weight_in rows_now, weight-cons (placed p key v w) s.front);
      light = omega (arith, used_now, ap weight_in left_rows, s.fits.0, light);
      few = omega (arith, ap length rows_now, s.fits.1, some);
    }

    view_fresh : cached_in new hashes most_weight most_entries ≡ with_entries c (entry key v w ∷ entries_in s.front)
    view_fresh =
        ap (λ x. cached_in x hashes most_weight most_entries) is
        ∙ ap (λ rs. record { entries = entry key v w ∷ entries_in rs; places = length (placed p key v w ∷ rs) + (r'.free - 1); most_weight = most_weight; most_entries = most_entries; hashes = hashes }) left_rows
        ∙ ap (λ n. record { entries = entry key v w ∷ entries_in s.front; places = n; most_weight = most_weight; most_entries = most_entries; hashes = hashes })
        (omega (arith, left_free, long, ap (λ (x : Cached K V S). x.places) view, length-entries s.front))
        ∙ ap (λ n. record { entries = entry key v w ∷ entries_in s.front; places = max c.places (length (entry key v w ∷ entries_in s.front)); most_weight = n; most_entries = most_entries; hashes = hashes }) same_weight
        ∙ ap (λ n. record { entries = entry key v w ∷ entries_in s.front; places = max c.places (length (entry key v w ∷ entries_in s.front)); most_weight = c.most_weight; most_entries = n; hashes = hashes }) same_most
        ∙ ap (λ h. record { entries = entry key v w ∷ entries_in s.front; places = max c.places (length (entry key v w ∷ entries_in s.front)); most_weight = c.most_weight; most_entries = c.most_entries; hashes = h }) same_hashes

    pub puts_fresh : Puts eq Step visit c key v w (Ok None) (cached_in new hashes most_weight most_entries)
    puts_fresh = (
      (omega (arith, light, same_weight), omega (arith, some, same_most)),
      (sym no_entry, (entries_in s.front, (entries_in s.back, (leaves, (s.shown, view_fresh))))),
    )

  -- where there is no place, nothing went
  module _ (cause : NoPlace) (lacks : LacksPlace r' cause) where
    none_went : s.back ≡ []
    none_went = from s.back refl
      where
        never : (b : Placed K V) (bs : List (Placed K V)) → s.back ≡ b ∷ bs → (cause : NoPlace) → LacksPlace r' cause → ⊥
        never b bs e NoMemory lack = absurd (omega (arith, lack.1, left_free, ap length e))
        never b bs e NoMore lack = absurd (omega (arith, lack, ap length left_rows, long, ap length e, valid.short))

        from : (back : List (Placed K V)) → s.back ≡ back → s.back ≡ []
        from [] e = e
        from (b ∷ bs) e = absurd (never b bs e cause lacks)

    all_stay : r.rows ≡ s.front
    all_stay = s.parts ∙ ap (λ bs. s.front ++ bs) none_went ∙ append-nil s.front

    pub unchanged : r' ≡ r
    unchanged = s.left ∙ ap (λ rs. recency rs (r.free + length s.back)) (sym all_stay) ∙ ap (λ bs. recency r.rows (r.free + length bs)) none_went ∙ ap (recency r.rows) (omega arith)

    fit : Fit (c.most_weight - w) (c.most_entries - 1) c.entries
    fit =
        subst (λ es. Fit (c.most_weight - w) (c.most_entries - 1) es) (ap entries_in (sym all_stay) ∙ are)
        (subst (λ n. Fit (n - w) (c.most_entries - 1) (entries_in s.front)) same_weight
        (subst (λ n. Fit (most_weight - w) (n - 1) (entries_in s.front)) same_most (rows_fit (most_weight - w) (most_entries - 1) s.front s.fits)))

    may_refuse : (told : NoPlace) → LacksPlace r told → MayRefuse eq c key w (cause_of told)
    may_refuse NoMemory lack = (no_entry, (fit, (omega (arith, lack.0, ap length are, length-entries r.rows), omega (arith, lack.1, ap length are, length-entries r.rows, ap (λ (x : Cached K V S). x.places) view))))
    may_refuse NoMore lack = (no_entry, (fit, omega (arith, lack, ap length are, length-entries r.rows)))

    pub refuses_fresh : (v : V) (new : Recency K V) → new ≡ r' → (back : Refused K V) → back.cause ≡ cause_of cause → back.key ≡ key → back.value ≡ v → Puts eq Step visit c key v w (Err back) (cached_in new hashes most_weight most_entries)
    refuses_fresh v new is back cause_is key_is value_is = (
      subst (MayRefuse eq c key w) (sym cause_is) (may_refuse cause (subst (λ x. LacksPlace x cause) unchanged lacks)),
      (key_is, (value_is, ap (λ x. cached_in x hashes most_weight most_entries) (is ∙ unchanged) ∙ view)),
    )
