-- Entries that were captured and are put into a cache of the same limits stand as they stood.
use Rattle.std.proofs.Common.{◌≡◌, ℕ, suc, ◌+◌, ◌-◌, ◌≤◌, ◌<◌, List, [], ◌∷◌, ◌++◌, length, Ok, refl, sym, ap, subst, ◌∙◌, arith, true, false, append-nil, inl, inr}
use Rattle.std.specs.Prelude.{Bool, Result, MatchResult, map, not, cond, reverse, count_by}
use Rattle.std.proofs.lemmas.Grind.{reverse_onto}
use Rattle.std.proofs.lemmas.List.{length-append}
use Rattle.std.proofs.lemmas.List.Sums.{sum_by-cons, sum_by-append}
use Rattle.lru_frames.specs.declared.row.Row.{Row}
use Rattle.lru_frames.specs.Copies.{AreEach, IsEntryCopy}
use Rattle.lru_rows.specs.Rows.{most_rows}
use Rattle.lru_owned_cache.specs.declared.entry.Entry.{Entry}
use Rattle.lru_owned_cache.specs.Entries.{weight_of}
use Rattle.lru_owned_cache.specs.declared.cache.Cause.{Cause}
use Rattle.lru_owned_cache.specs.declared.cache.Cause.TheVariants.{Memory, TooHeavy, Full}
use Rattle.lru_owned_cache.specs.declared.cache.Refused.{Refused}
use Rattle.lru_owned_cache.specs.Cache.{Cached, Fit, IsCache, Leaves, MayRefuse, without, parts_of}
use Rattle.lru_cache_checkpoints.specs.Captures.{PutsEntries, PutsOrLeaves, entry_of}

abbrev one_if : Bool → ℕ
one_if b = cond b 1 0

module _ {K V : Type 0} (eq : K → K → Bool) where
  abbrev heaviness : List (Entry K V) → ℕ
  heaviness es = weight_of es

  -- entries that a cache of these limits may have
  record IsGood (most_weight most_entries : ℕ) (es : List (Entry K V)) : Type 0 where
    pub keys : (k : K) → count_by (λ e. eq e.key k) es ≤ 1
    pub fits : Fit most_weight most_entries es
    pub short : length es ≤ most_rows

  -- the entries of rows that are put first, one after the other
  abbrev onto : List (Row K V) → List (Entry K V) → List (Entry K V)
  onto [] es = es
  onto (row ∷ rows) es = onto rows (entry_of row ∷ es)

  good_behind : (w n : ℕ) (e : Entry K V) (es : List (Entry K V)) → IsGood w n (e ∷ es) → IsGood w n es
  good_behind w n e es good = record {
    keys = λ k. omega (arith, good.keys k, sum_by-cons (λ x. cond (eq x.key k) 1 0) e es);
    fits = (omega (arith, good.fits.0, sum_by-cons (λ x. x.weight) e es), omega (arith, good.fits.1));
    short = omega (arith, good.short);
  }

  good_before : (w n : ℕ) (rows : List (Row K V)) (es : List (Entry K V)) → IsGood w n (onto rows es) → IsGood w n es
  good_before w n [] es good = good
  good_before w n (row ∷ rows) es good = good_behind w n (entry_of row) es (good_before w n rows (entry_of row ∷ es) good)

  -- where no entry has the key, none is taken out
  none_without : (es : List (Entry K V)) (k : K) → count_by (λ e. eq e.key k) es ≡ 0 → without eq es k ≡ es
  none_without [] k h = refl
  none_without (e ∷ es) k h =
      let apart = sum_by-cons (λ x. cond (eq x.key k) 1 0) e es in
      one_of (eq e.key k) refl (omega (arith, h, apart)) (none_without es k (omega (arith, h, apart)))
    where
      one_of : (b : Bool) → eq e.key k ≡ b → one_if (eq e.key k) ≡ 0 → without eq es k ≡ es → without eq (e ∷ es) k ≡ e ∷ es
      one_of true is zero_so rest = let one : one_if true ≡ 0 = ap one_if (sym is) ∙ zero_so in absurd (omega arith)
      one_of false is zero_so rest = ap (λ b. cond (not b) (e ∷ without eq es k) (without eq es k)) is ∙ ap (λ (x : List (Entry K V)). e ∷ x) rest

  -- where all fit, none goes
  all_stay : (w n : ℕ) (es front gone : List (Entry K V)) → Fit w n es → Leaves w n es front gone → front ≡ es
  all_stay w n es front [] fit leaves = sym (leaves.parts ∙ append-nil front)
  all_stay w n es front (e ∷ rest) fit leaves =
      let heavy : heaviness es ≡ heaviness front + (e.weight + heaviness rest) =
      ap heaviness leaves.parts ∙ sum_by-append (λ x. x.weight) front (e ∷ rest) ∙ ap (λ n. heaviness front + n) (sum_by-cons (λ x. x.weight) e rest) in
      let light : heaviness (front ++ e ∷ []) ≡ heaviness front + (e.weight + heaviness []) =
      sum_by-append (λ x. x.weight) front (e ∷ []) ∙ ap (λ n. heaviness front + n) (sum_by-cons (λ x. x.weight) e []) in
      absurd (leaves.needed e rest refl (
        omega (arith, fit.0, heavy, light),
        omega (arith, fit.1, ap length leaves.parts, length-append front (e ∷ rest), length-append front (e ∷ [])),
      ))

  -- what comes of rows that are put, where all of them fit
  abbrev Outcome : {S : Type 0} → Result ℕ (Refused K V) → ℕ → List (Entry K V) → Cached K V S → Type 0
  Outcome answer left es new = MatchResult answer (λ n. (n ≡ left) × (new.entries ≡ es)) (λ refused. refused.cause ≡ Memory)

  module _ (same : (k : K) → eq k k ≡ true) where
    -- the first of them
    record IsFirst {S : Type 0} (old : Cached K V S) (row : Row K V) : Type 0 where
      pub apart : without eq old.entries row.key ≡ old.entries
      pub fits : Fit (old.most_weight - row.weight) (old.most_entries - 1) old.entries
      pub light : row.weight ≤ old.most_weight
      pub some : 0 < old.most_entries
      pub short : length old.entries < most_rows

    first : {S : Type 0} (old : Cached K V S) (row : Row K V) → IsGood old.most_weight old.most_entries (entry_of row ∷ old.entries) → IsFirst old row
    first old row good =
        let weight = sum_by-cons (λ x. x.weight) (entry_of row) old.entries in
        let count = sum_by-cons (λ x. cond (eq x.key row.key) 1 0) (entry_of row) old.entries in
        let itself : one_if (eq row.key row.key) ≡ one_if true = ap one_if (same row.key) in
        record {
          apart = none_without old.entries row.key (omega (arith, good.keys row.key, count, itself));
          fits = (omega (arith, good.fits.0, weight), omega (arith, good.fits.1));
          light = omega (arith, good.fits.0, weight);
          some = omega (arith, good.fits.1);
          short = omega (arith, good.short);
        }

    why : {S : Type 0} (old : Cached K V S) (row : Row K V) (cause : Cause) → IsFirst old row → (cause ≡ TooHeavy → ⊥) → MayRefuse eq old row.key row.weight cause → cause ≡ Memory
    why old row Memory h other may = refl
    why old row TooHeavy h other may = absurd (other refl)
    why old row Full h other may = absurd (omega (arith, h.short, may.1.1))

    stays : {S : Type 0} (old mid : Cached K V S) (row : Row K V) → IsFirst old row → PutsOrLeaves eq old row (Ok false) mid
        → (mid.entries ≡ entry_of row ∷ old.entries) × ((mid.most_weight ≡ old.most_weight) × (mid.most_entries ≡ old.most_entries))
    stays {S} old mid row h puts =
        let all = all_stay (old.most_weight - row.weight) (old.most_entries - 1) old.entries puts.0 puts.1.0 h.fits
        (subst (λ es. Leaves (old.most_weight - row.weight) (old.most_entries - 1) es puts.0 puts.1.0) h.apart puts.1.1.0) in
        let new = puts.1.1.1 in
        (ap (λ (c : Cached K V S). c.entries) new ∙ ap (λ (es : List (Entry K V)). entry_of row ∷ es) all, (ap (λ (c : Cached K V S). c.most_weight) new, ap (λ (c : Cached K V S). c.most_entries) new))

    back : {S : Type 0} (rows : List (Row K V)) (old new : Cached K V S) (left : ℕ) (answer : Result ℕ (Refused K V)) → IsGood old.most_weight old.most_entries (onto rows old.entries)
        → PutsEntries eq old rows left answer new → Outcome answer left (onto rows old.entries) new
    back {S} [] old new left answer good puts =
        subst (λ r. Outcome r left old.entries new) (sym puts.0) (refl, ap (λ (c : Cached K V S). c.entries) puts.1)
    back {S} (row ∷ rows) old new left answer good (inl put) = one_of put.0 put.1.0 (λ mid. back rows mid new left answer) put.1.1.0 put.1.1.1
      where
        here : IsFirst old row
        here = first old row (good_before old.most_weight old.most_entries rows (entry_of row ∷ old.entries) good)

        one_of : (is_left : Bool) (mid : Cached K V S)
            → ((m : Cached K V S) → IsGood m.most_weight m.most_entries (onto rows m.entries) → PutsEntries eq m rows left answer new → Outcome answer left (onto rows m.entries) new)
            → PutsOrLeaves eq old row (Ok is_left) mid → PutsEntries eq mid rows (cond is_left (suc left) left) answer new
            → Outcome answer left (onto rows (entry_of row ∷ old.entries)) new
        one_of true mid next may rest = absurd (too_heavy may.0)
          where
            too_heavy : MayRefuse eq old row.key row.weight TooHeavy → ⊥
            too_heavy (inl heavy) = omega (arith, here.light, heavy)
            too_heavy (inr none) = omega (arith, here.some, none)
        one_of false mid next put rest =
            let now = stays old mid row here put in
            subst (λ es. Outcome answer left (onto rows es) new) now.0
            (next mid
            (subst (λ w. IsGood w mid.most_entries (onto rows mid.entries)) (sym now.1.0)
            (subst (λ n. IsGood old.most_weight n (onto rows mid.entries)) (sym now.1.1)
            (subst (λ es. IsGood old.most_weight old.most_entries (onto rows es)) (sym now.0) good))) rest)
    back {S} (row ∷ rows) old new left answer good (inr stop) =
        let here = first old row (good_before old.most_weight old.most_entries rows (entry_of row ∷ old.entries) good) in
        subst (λ r. Outcome r left (onto rows (entry_of row ∷ old.entries)) new) (sym stop.1.0) (why old row stop.0.cause here stop.1.1.0 stop.1.1.1.0)

  onto-push : (rows : List (Row K V)) (row : Row K V) (es : List (Entry K V)) → onto (rows ++ row ∷ []) es ≡ entry_of row ∷ onto rows es
  onto-push [] row es = refl
  onto-push (r ∷ rows) row es = onto-push rows row (entry_of r ∷ es)

  onto-reverse : (rows : List (Row K V)) → onto (reverse rows) [] ≡ map entry_of rows
  onto-reverse [] = refl
  onto-reverse (row ∷ rows) =
      ap (λ (x : List (Row K V)). onto x []) (reverse_onto rows row []) ∙ onto-push (reverse rows) row [] ∙ ap (λ (es : List (Entry K V)). entry_of row ∷ es) (onto-reverse rows)

  module _ (IsCloneKey : K → K → Type 0) (IsCloneValue : V → V → Type 0) (alike : (source clone other : K) → IsCloneKey source clone → eq clone other ≡ eq source other) where
    -- copies have the weights of the entries, and their keys are found where those are
    record AreAlike (es : List (Entry K V)) (rows : List (Row K V)) : Type 0 where
      pub keys : (k : K) → count_by (λ e. eq e.key k) (map entry_of rows) ≡ count_by (λ e. eq e.key k) es
      pub weight : weight_of (map entry_of rows) ≡ weight_of es
      pub many : length (map entry_of rows) ≡ length es

    copies_alike : (es : List (Entry K V)) (rows : List (Row K V)) → AreEach (IsEntryCopy IsCloneKey IsCloneValue) (map parts_of es) rows → AreAlike es rows
    copies_alike [] [] h = record { keys = λ k. refl; weight = refl; many = refl }
    copies_alike [] (row ∷ rows) h = absurd h
    copies_alike (e ∷ es) [] h = absurd h
    copies_alike (e ∷ es) (row ∷ rows) h =
        let more = copies_alike es rows h.1 in
        record {
          keys = λ k.
              sum_by-cons (λ x. cond (eq x.key k) 1 0) (entry_of row) (map entry_of rows)
              ∙ ap (λ b. one_if b + count_by (λ x. eq x.key k) (map entry_of rows)) (alike e.key row.key k h.0.0)
              ∙ ap (λ n. one_if (eq e.key k) + n) (more.keys k) ∙ sym (sum_by-cons (λ x. cond (eq x.key k) 1 0) e es);
          weight = omega (arith, h.0.1.1, more.weight, sum_by-cons (λ x. x.weight) (entry_of row) (map entry_of rows), sum_by-cons (λ x. x.weight) e es);
          many = ap suc more.many;
        }

    -- what was captured of a cache, and put into one without entries
    pub comes_back : {S : Type 0} → ((k : K) → eq k k ≡ true) → (cache old new : Cached K V S) (rows : List (Row K V)) (answer : Result ℕ (Refused K V)) → IsCache eq cache
        → old.entries ≡ [] → old.most_weight ≡ cache.most_weight → old.most_entries ≡ cache.most_entries
        → AreEach (IsEntryCopy IsCloneKey IsCloneValue) (map parts_of cache.entries) rows → PutsEntries eq old (reverse rows) 0 answer new
        → MatchResult answer (λ left. (left ≡ 0) × (new.entries ≡ map entry_of rows)) (λ refused. refused.cause ≡ Memory)
    comes_back same cache old new rows answer is_cache none weight many copies puts =
        let like = copies_alike cache.entries rows copies in
        let all : onto (reverse rows) old.entries ≡ map entry_of rows = ap (onto (reverse rows)) none ∙ onto-reverse rows in
        let good : IsGood old.most_weight old.most_entries (map entry_of rows) = record {
          keys = λ k. omega (arith, like.keys k, is_cache.keys k);
          fits = (omega (arith, like.weight, weight, is_cache.fits.0), omega (arith, like.many, many, is_cache.fits.1));
          short = omega (arith, like.many, is_cache.short);
        } in
        subst (λ es. Outcome answer 0 es new) all (back same (reverse rows) old new 0 answer (subst (IsGood old.most_weight old.most_entries) (sym all) good) puts)
