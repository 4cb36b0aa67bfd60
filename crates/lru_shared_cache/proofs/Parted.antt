-- Entries that leave a cache one after another, each handed to a closure.
use Rattle.std.proofs.Common.{◌≡◌, Some, None, ℕ, ◌<◌, ◌≤◌, List, [], ◌∷◌, ◌++◌, length, refl, sym, ap, ◌∙◌, subst, arith, append_assoc, append-nil}
use Rattle.std.specs.Prelude.{reverse}
use Rattle.std.specs.List.{FoldsTo}
use Rattle.std.proofs.lemmas.List.{length-append}
use Rattle.std.proofs.lemmas.List.Sums.{sum_by-cons, sum_by-append}
use Rattle.lru_owned_cache.specs.declared.entry.Entry.{Entry}
use Rattle.lru_owned_cache.specs.Entries.{weight_of}
use Rattle.lru_owned_cache.proofs.Lists.{same_head, shown_before, shown_more}
use Rattle.lru_owned_cache.specs.Cache.{Cached, Fit, Leaves, PopsLast, PopsFirst, Limits, with_entries}
use Rattle.lru_shared_cache.specs.Counting.{ShardOf, LetsGo, LimitsTo, LimitsShard, LimitsShardTo}

module _ {K V : Type 0} where
  nil_not_cons : (e : Entry K V) (rest : List (Entry K V)) → [] ≡ e ∷ rest → ⊥
  nil_not_cons e rest is = cc

  none_long : (xs : List (Entry K V)) → length xs ≤ 0 → xs ≡ []
  none_long [] short = refl
  none_long (x ∷ xs) short = absurd (omega (arith, short))

  -- where all fits, all stay
  all_stay : (w n : ℕ) (es front gone : List (Entry K V)) → Fit w n es → Leaves w n es front gone → front ≡ es
  all_stay w n es front [] fit leaves = sym (leaves.parts ∙ append-nil front)
  all_stay w n es front (e ∷ rest) fit leaves =
      absurd (leaves.needed e rest refl (
        omega (arith, fit.0, ap weight_of leaves.parts, sum_by-append (λ (x : Entry K V). x.weight) front (e ∷ rest), sum_by-append (λ (x : Entry K V). x.weight) front (e ∷ []), sum_by-cons (λ (x : Entry K V). x.weight) e rest, sum_by-cons (λ (x : Entry K V). x.weight) e []),
        omega (arith, fit.1, ap length leaves.parts, length-append front (e ∷ rest), length-append front (e ∷ [])),
      ))

module _ {K V S : Type 0} where
  -- a cache with other entries, and as many places
  abbrev pub over : Cached K V S → List (Entry K V) → Cached K V S
  over c es = record { entries = es; places = c.places; most_weight = c.most_weight; most_entries = c.most_entries; hashes = c.hashes }

  -- where its places are enough, it makes none
  pub over_enough : (c : Cached K V S) (es : List (Entry K V)) → length es ≤ c.places → with_entries c es ≡ over c es
  over_enough c es few = ap (λ m. record { entries = es; places = m; most_weight = c.most_weight; most_entries = c.most_entries; hashes = c.hashes }) (omega (arith, few))

  -- so far these went from the end, each since the entries did not fit with it, and each was shown
  pub record Going {F : Type 0} (Step : F → Entry K V → F → Type 0) (visit last : F) (w n : ℕ) (old now : Cached K V S) : Type 0 where
    pub gone : List (Entry K V)
    pub parts : old.entries ≡ now.entries ++ gone
    pub needed : (e : Entry K V) (rest : List (Entry K V)) → gone ≡ e ∷ rest → Fit w n (now.entries ++ e ∷ []) → ⊥
    pub shown : FoldsTo Step visit (reverse gone) last
    pub now_is : now ≡ over old now.entries

  -- so far these went from the front, and each was shown
  pub record Draining {F : Type 0} (Step : F → Entry K V → F → Type 0) (visit last : F) (old now : Cached K V S) : Type 0 where
    pub front : List (Entry K V)
    pub parts : old.entries ≡ front ++ now.entries
    pub shown : FoldsTo Step visit front last
    pub now_is : now ≡ over old now.entries

  -- entries that do not fit are some
  pub not_none : (now : Cached K V S) (w n : ℕ) → now.entries ≡ [] → (Fit w n now.entries → ⊥) → ⊥
  not_none now w n none full = full (omega (arith, ap weight_of none), omega (arith, ap length none))

  pub fewer : (now next : Cached K V S) (e : Entry K V) → PopsLast now (Some e) next → length next.entries < length now.entries
  fewer now next e pops = omega (arith, ap length pops.1.0, length-append pops.0 (e ∷ []), ap (λ (c : Cached K V S). length c.entries) pops.1.1)

  pub first_fewer : (now next : Cached K V S) (e : Entry K V) → PopsFirst now (Some e) next → length next.entries < length now.entries
  first_fewer now next e pops = omega (arith, ap length pops.1.0, ap (λ (c : Cached K V S). length c.entries) pops.1.1)

  pub none_gone : {F : Type 0} (Step : F → Entry K V → F → Type 0) (visit : F) (w n : ℕ) (old : Cached K V S) → Going Step visit visit w n old old
  none_gone Step visit w n old = record { gone = []; parts = sym (append-nil old.entries); needed = λ e rest is fit. nil_not_cons e rest is; shown = refl; now_is = refl }

  pub none_drained : {F : Type 0} (Step : F → Entry K V → F → Type 0) (visit : F) (old : Cached K V S) → Draining Step visit visit old old
  none_drained Step visit old = record { front = []; parts = refl; shown = refl; now_is = refl }

  module _ {F : Type 0} {Step : F → Entry K V → F → Type 0} {visit last : F} {old now : Cached K V S} (placed : length old.entries ≤ old.places) where
    module _ {w n : ℕ} (s : Going Step visit last w n old now) where
      now_placed : length now.entries ≤ now.places
      now_placed = omega (arith, placed, ap length s.parts, length-append now.entries s.gone, ap (λ (c : Cached K V S). c.places) s.now_is)

      pub one_gone : {e : Entry K V} {next : Cached K V S} → PopsLast now (Some e) next → (Fit w n now.entries → ⊥) → (after : F) → Step last e after → Going Step visit after w n old next
      one_gone {e} {next} pops full after step = record {
        gone = e ∷ s.gone;
        parts = s.parts ∙ ap (λ es. es ++ s.gone) pops.1.0 ∙ append_assoc pops.0 (e ∷ []) s.gone ∙ ap (λ (c : Cached K V S). c.entries ++ e ∷ s.gone) (sym pops.1.1);
        needed = λ r rest is fit. full (was_fit r rest is fit);
        shown = shown_before Step visit last s.gone e after e refl step s.shown;
        now_is = pops.1.1 ∙ over_enough now pops.0 front_placed ∙ ap (λ (c : Cached K V S). over c pops.0) s.now_is ∙ ap (λ (c : Cached K V S). over old c.entries) (sym pops.1.1);
      }
        where
          was_fit : (r : Entry K V) (rest : List (Entry K V)) → e ∷ s.gone ≡ r ∷ rest → Fit w n (next.entries ++ r ∷ []) → Fit w n now.entries
          was_fit r rest is fit =
              subst (λ es. Fit w n es) (sym pops.1.0)
              (subst (λ (c : Cached K V S). Fit w n (c.entries ++ e ∷ [])) pops.1.1 (subst (λ x. Fit w n (next.entries ++ x ∷ [])) (sym (same_head e r s.gone rest is)) fit))

          front_placed : length pops.0 ≤ now.places
          front_placed = omega (arith, now_placed, ap length pops.1.0, length-append pops.0 (e ∷ []))

      pub all_gone : Fit w n now.entries → LetsGo Step visit old w n last now
      all_gone fit = (now.entries, (s.gone, (record { parts = s.parts; fits = fit; needed = s.needed }, (s.shown, s.now_is ∙ sym (over_enough old now.entries now_few)))))
        where
          now_few : length now.entries ≤ old.places
          now_few = omega (arith, placed, ap length s.parts, length-append now.entries s.gone)

    module _ (s : Draining Step visit last old now) where
      few : length now.entries ≤ now.places
      few = omega (arith, placed, ap length s.parts, length-append s.front now.entries, ap (λ (c : Cached K V S). c.places) s.now_is)

      pub one_drained : {e : Entry K V} {next : Cached K V S} → PopsFirst now (Some e) next → (after : F) → Step last e after → Draining Step visit after old next
      one_drained {e} {next} pops after step = record {
        front = s.front ++ e ∷ [];
        parts = s.parts ∙ ap (λ es. s.front ++ es) pops.1.0 ∙ sym (append_assoc s.front (e ∷ []) pops.0) ∙ ap (λ (c : Cached K V S). (s.front ++ e ∷ []) ++ c.entries) (sym pops.1.1);
        shown = shown_more Step visit last s.front e after e refl step s.shown;
        now_is = pops.1.1 ∙ over_enough now pops.0 rest_placed ∙ ap (λ (c : Cached K V S). over c pops.0) s.now_is ∙ ap (λ (c : Cached K V S). over old c.entries) (sym pops.1.1);
      }
        where
          rest_placed : length pops.0 ≤ now.places
          rest_placed = omega (arith, few, ap length pops.1.0)

      pub all_drained : {next : Cached K V S} → PopsFirst now None next → FoldsTo Step visit old.entries last × (next ≡ with_entries old [])
      all_drained {next} pops = (
        subst (λ es. FoldsTo Step visit es last) (sym (s.parts ∙ ap (λ es. s.front ++ es) pops.0 ∙ append-nil s.front)) s.shown,
        pops.1 ∙ s.now_is ∙ ap (over old) pops.0 ∙ sym (over_enough old [] (omega arith)),
      )

  -- where nothing may be left, all go
  pub all_cleared : {F : Type 0} (Step : F → Entry K V → F → Type 0) (visit last : F) (old new : Cached K V S) → LetsGo Step visit old 0 0 last new → FoldsTo Step visit (reverse old.entries) last × (new ≡ with_entries old [])
  all_cleared Step visit last old new (front, (gone, (leaves, (shown, is)))) =
      let none : front ≡ [] = none_long front leaves.fits.1 in
      (subst (λ es. FoldsTo Step visit (reverse es) last) (sym (leaves.parts ∙ ap (λ es. es ++ gone) none)) shown, is ∙ ap (with_entries old) none)

  pub limits_stay : {F G : Type 0} (Step : F → Entry K V → F → Type 0) (visit last : F) (Other : G → Entry K V → G → Type 0) (other : G) (w n : ℕ) (old mid new : Cached K V S)
      → length old.entries ≤ old.places → LetsGo Step visit old w n last mid → Limits Other other mid w n new → LimitsTo Step visit old w n last new
  limits_stay Step visit last Other other w n old mid new placed (front, (gone, (leaves, (shown, mid_is)))) (front', (gone', (leaves', (shown', is)))) =
      let few : length front ≤ old.places = omega (arith, placed, ap length leaves.parts, length-append front gone) in
      let mid_over : mid ≡ over old front = mid_is ∙ over_enough old front few in
      let same : front' ≡ front = all_stay w n front front' gone' leaves.fits (subst (λ (c : Cached K V S). Leaves w n c.entries front' gone') mid_over leaves') in (
        front,
        (
          gone,
          (
            leaves,
            (
              shown,
              is ∙ ap (λ (c : Cached K V S). record { entries = front'; places = c.places; most_weight = w; most_entries = n; hashes = c.hashes }) mid_over
                  ∙ ap (λ es. record { entries = es; places = old.places; most_weight = w; most_entries = n; hashes = old.hashes }) same,
            ),
          ),
        ),
      )

  -- without the state in which the closure is left
  pub limits_shard : {F : Type 0} (Step : F → Entry K V → F → Type 0) (visit : F) (weight entries : ℕ) (before : ShardOf K V S) (left : F) (after : ShardOf K V S) → LimitsShardTo Step visit weight entries before left after → LimitsShard Step visit weight entries before after
  limits_shard Step visit weight entries before left after ((front, (gone, (leaves, (shown, is)))), counted) = ((front, (gone, (leaves, ((left, shown), is)))), counted)
