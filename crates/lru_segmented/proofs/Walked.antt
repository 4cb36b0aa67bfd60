-- What calls on keys without an entry make of the upper segment.
use Rattle.std.proofs.Common.{◌≡◌, ℕ, ◌-◌, ◌≤◌, List, [], ◌∷◌, ◌++◌, length, Some, None, Ok, Err, refl, sym, ap, ◌∙◌, subst, arith, true, false, inl, inr, append_assoc}
use Rattle.std.specs.Prelude.{Option, Bool, Result, All}
use Rattle.std.proofs.lemmas.List.{length-append, append-nil}
use Rattle.std.proofs.lemmas.List.Elements.{All-head, All-tail, All-cons, All-nil}
use Rattle.lru_owned_cache.specs.declared.entry.Entry.{Entry}
use Rattle.lru_owned_cache.specs.Entries.{entry, weight_of}
use Rattle.lru_owned_cache.specs.declared.cache.Refused.{Refused}
use Rattle.lru_owned_cache.specs.declared.cache.NotPut.{NotPut}
use Rattle.lru_owned_cache.specs.declared.cache.NotPut.TheVariants.{Unmade, Refused as EntryRefused}
use Rattle.lru_owned_cache.specs.Cache.{Fit, entry_of}
use Rattle.lru_segmented.specs.Segmented.{Segmented, entries, Recedes, Puts, UsesOrPuts}
use Rattle.lru_segmented.specs.Scans.{Call, Look, Put, Walks, Requests, FitsBeside, CallFits, AreDistinct}
use Rattle.lru_segmented.proofs.Lists.{nil_cons, none_some, weight-append, weight-cons, has_not, absent_front, absent_back, absent_both}

module _ {K V : Type 0} where
  -- an upper segment that fits alone loses nothing
  pub keeps_upper : (w n : ℕ) (us ls us' ls' gone : List (Entry K V)) → Recedes w n us ls us' ls' gone → weight_of us ≤ w → length us ≤ n → us' ≡ us
  keeps_upper w n us ls us' ls' gone r light few = from r.upper_gone refl
    where
      from : (ug : List (Entry K V)) → r.upper_gone ≡ ug → us' ≡ us
      from [] is = sym (r.upper_parts ∙ ap (λ zs. us' ++ zs) is ∙ append-nil us')
      from (g ∷ gs) is =
          elim r.lower_first [
            | inl none ↦ absurd (nil_cons g gs (sym none ∙ is))
            | inr none ↦
                let alone : (us' ++ ls') ++ g ∷ [] ≡ us' ++ g ∷ [] = ap (λ zs. (us' ++ zs) ++ g ∷ []) none ∙ ap (λ zs. zs ++ g ∷ []) (append-nil us') in
                let parts : us ≡ us' ++ g ∷ gs = r.upper_parts ∙ ap (λ zs. us' ++ zs) is in
                absurd (r.needed g (gs ++ r.lower_gone) (r.gone_is ∙ ap (λ zs. zs ++ r.lower_gone) is)
                (subst (Fit w n) (sym alone) (
                  omega (arith, light, ap weight_of parts, weight-append us' (g ∷ gs), weight-cons g gs, weight-append us' (g ∷ []), weight-cons g []),
                  omega (arith, few, ap length parts, length-append us' (g ∷ gs), length-append us' (g ∷ [])),
                )))
          ]

  -- the upper segment is the same, and so are the limits
  pub record Stays {S : Type 0} (old new : Segmented K V S) : Type 0 where
    pub upper : new.upper ≡ old.upper
    pub most_weight : new.most_weight ≡ old.most_weight
    pub most_entries : new.most_entries ≡ old.most_entries

  pub stays_same : {S : Type 0} (old new : Segmented K V S) → new ≡ old → Stays old new
  stays_same old new is = record { upper = ap (λ (c : Segmented K V _). c.upper) is; most_weight = ap (λ (c : Segmented K V _). c.most_weight) is; most_entries = ap (λ (c : Segmented K V _). c.most_entries) is }

  pub stays_on : {S : Type 0} (old mid new : Segmented K V S) → Stays old mid → Stays mid new → Stays old new
  stays_on old mid new a b = record { upper = b.upper ∙ a.upper; most_weight = b.most_weight ∙ a.most_weight; most_entries = b.most_entries ∙ a.most_entries }

  fits_still : {S : Type 0} (old mid : Segmented K V S) (w : ℕ) → Stays old mid → FitsBeside old w → FitsBeside mid w
  fits_still old mid w s fits =
      (omega (arith, fits.0, ap weight_of s.upper, s.most_weight), omega (arith, fits.1, ap length s.upper, s.most_entries))

  -- entries went from its end only
  abbrev pub LosesEnd : {S : Type 0} → Segmented K V S → Segmented K V S → Type 0
  LosesEnd old new = (gone : List (Entry K V)) × (old.upper ≡ new.upper ++ gone)

  loses_none : {S : Type 0} (old new : Segmented K V S) → new ≡ old → LosesEnd old new
  loses_none old new is = ([], ap (λ (c : Segmented K V _). c.upper) (sym is) ∙ sym (append-nil new.upper))

  loses_on : {S : Type 0} (old mid new : Segmented K V S) → LosesEnd old mid → LosesEnd mid new → LosesEnd old new
  loses_on old mid new a b = (b.0 ++ a.0, a.1 ∙ ap (λ us. us ++ a.0) b.1 ∙ append_assoc new.upper b.0 a.0)

  module _ {S F : Type 0} (eq : K → K → Bool) (Step : F → Entry K V → F → Type 0) (visit : F) (k : K) (v : V) (w : ℕ) where
    -- a put of a key that has no entry
    module _ (old new : Segmented K V S) (puts : Puts eq Step visit old k v w (Ok None) new) where
      abbrev mid : Segmented K V S
      mid = puts.1.1.0

      abbrev recedes : Recedes (old.most_weight - w) (old.most_entries - 1) old.upper old.lower mid.upper mid.lower puts.1.1.1.0.gone
      recedes = puts.1.1.1.0.recedes

      put_stays : FitsBeside old w → Stays old new
      put_stays fits = record {
        upper =
            ap (λ (c : Segmented K V S). c.upper) puts.1.1.1.1
            ∙ keeps_upper (old.most_weight - w) (old.most_entries - 1) old.upper old.lower mid.upper mid.lower puts.1.1.1.0.gone recedes (omega (arith, fits.0)) (omega (arith, fits.1));
        most_weight = ap (λ (c : Segmented K V S). c.most_weight) puts.1.1.1.1 ∙ ap (λ (c : Segmented K V S). c.most_weight) puts.1.1.1.0.same;
        most_entries = ap (λ (c : Segmented K V S). c.most_entries) puts.1.1.1.1 ∙ ap (λ (c : Segmented K V S). c.most_entries) puts.1.1.1.0.same;
      }

      put_loses : LosesEnd old new
      put_loses = (recedes.upper_gone, recedes.upper_parts ∙ ap (λ (c : Segmented K V S). c.upper ++ recedes.upper_gone) (sym puts.1.1.1.1))

      -- another key that has no entry has none then
      put_absent : (other : K) → eq k other ≡ false → entry_of eq (entries old) other ≡ None → entry_of eq (entries new) other ≡ None
      put_absent other ne none =
          let upper = absent_front eq other old.upper old.lower none in
          let lower = absent_back eq other old.upper old.lower none in
          ap (λ (c : Segmented K V S). entry_of eq (entries c) other) puts.1.1.1.1
          ∙ absent_both eq other mid.upper (entry k v w ∷ mid.lower)
          (absent_front eq other mid.upper recedes.upper_gone (ap (λ es. entry_of eq es other) (sym recedes.upper_parts) ∙ upper))
          (has_not eq other (entry k v w) mid.lower ne ∙ absent_front eq other mid.lower recedes.lower_gone (ap (λ es. entry_of eq es other) (sym recedes.lower_parts) ∙ lower))

    -- whatever the put answers
    pub any_stays : (old new : Segmented K V S) (answer : Result (Option (Entry K V)) (Refused K V)) → entry_of eq (entries old) k ≡ None → Puts eq Step visit old k v w answer new → FitsBeside old w → Stays old new
    any_stays old new (Ok None) none puts fits = put_stays old new puts fits
    any_stays old new (Ok (Some was)) none puts fits = absurd (none_some was (sym none ∙ puts.1.0))
    any_stays old new (Err r) none puts fits = stays_same old new puts.1.1.1

    pub any_loses : (old new : Segmented K V S) (answer : Result (Option (Entry K V)) (Refused K V)) → entry_of eq (entries old) k ≡ None → Puts eq Step visit old k v w answer new → LosesEnd old new
    any_loses old new (Ok None) none puts = put_loses old new puts
    any_loses old new (Ok (Some was)) none puts = absurd (none_some was (sym none ∙ puts.1.0))
    any_loses old new (Err r) none puts = loses_none old new puts.1.1.1

module _ {K V S F : Type 0} (eq : K → K → Bool) (Step : F → Entry K V → F → Type 0) where
  -- ---- walks
  walk_from : (first : Segmented K V S) (calls : List (Call K V)) (old new : Segmented K V S) → Stays first old → Walks eq Step calls old new → All (CallFits first) calls → Stays first new
  walk_from first [] old new s walks fit = stays_on first old new s (stays_same old new walks)
  walk_from first (Look ∷ calls) old new s walks fit = walk_from first calls old new s walks (All-tail (CallFits first) Look calls fit)
  walk_from first (Put k v w ∷ calls) old new s walks fit =
      let fits = fits_still first old w s (All-head (CallFits first) (Put k v w) calls fit) in
      let mid = walks.1.1.1.0 in
      walk_from first calls mid new (stays_on first old mid s (any_stays eq Step walks.1.0 k v w old mid walks.1.1.0 walks.0 walks.1.1.1.1.0 fits)) walks.1.1.1.1.1
      (All-tail (CallFits first) (Put k v w) calls fit)

  pub no_scan : (calls : List (Call K V)) (old new : Segmented K V S) → Walks eq Step calls old new → All (CallFits old) calls → new.upper ≡ old.upper
  no_scan calls old new walks fit = (walk_from old calls old new (stays_same old old refl) walks fit).upper

  pub end_only : (calls : List (Call K V)) (old new : Segmented K V S) → Walks eq Step calls old new → LosesEnd old new
  end_only [] old new walks = loses_none old new walks
  end_only (Look ∷ calls) old new walks = end_only calls old new walks
  end_only (Put k v w ∷ calls) old new walks =
      let mid = walks.1.1.1.0 in
      loses_on old mid new (any_loses eq Step walks.1.0 k v w old mid walks.1.1.0 walks.0 walks.1.1.1.1.0) (end_only calls mid new walks.1.1.1.1.1)

  -- ---- requests
  module _ {M E : Type 0} (Post : M → Result (V × ℕ) E → Type 0) where
    abbrev AbsentFrom : Segmented K V S → K × M → Type 0
    AbsentFrom c r = entry_of eq (entries c) r.0 ≡ None

    abbrev MadeFits : Segmented K V S → K × M → Type 0
    MadeFits c r = (made : V × ℕ) → Post r.1 (Ok made) → FitsBeside c made.1

    -- a request of a key that has no entry
    pub record Asked (k : K) (old new : Segmented K V S) : Type 0 where
      pub stays : Stays old new
      pub absent : (other : K) → eq k other ≡ false → entry_of eq (entries old) other ≡ None → entry_of eq (entries new) other ≡ None

    asked_same : (k : K) (old new : Segmented K V S) → new ≡ old → Asked k old new
    asked_same k old new is = record { stays = stays_same old new is; absent = λ other ne none. ap (λ (c : Segmented K V S). entry_of eq (entries c) other) is ∙ none }

    asked : (r : K × M) (visit : F) (old new : Segmented K V S) (answer : Result Bool (NotPut K V E)) → UsesOrPuts eq (Post r.1) Step visit old r.0 answer new → AbsentFrom old r → MadeFits old r → Asked r.0 old new
    asked r visit old new (Ok true) does none fits = absurd (none_some does.0 (sym none ∙ does.1.0))
    asked r visit old new (Ok false) does none fits = record {
      stays = put_stays eq Step visit r.0 does.0.0 does.0.1 old new does.1.1 (fits does.0 does.1.0);
      absent = λ other ne absent. put_absent eq Step visit r.0 does.0.0 does.0.1 old new does.1.1 other ne absent;
    }
    asked r visit old new (Err (Unmade k e)) does none fits = asked_same r.0 old new does.1.1.1
    asked r visit old new (Err (EntryRefused back)) does none fits = asked_same r.0 old new does.1.1.1.1.1.1

    still_absent : (k : K) (old new : Segmented K V S) (rs : List (K × M)) → Asked k old new → All (λ later. eq k later.0 ≡ false) rs → All (AbsentFrom old) rs → All (AbsentFrom new) rs
    still_absent k old new [] a distinct none = All-nil (AbsentFrom new)
    still_absent k old new (r ∷ rs) a distinct none =
        All-cons (AbsentFrom new) r rs
        (a.absent r.0 (All-head (λ (later : K × M). eq k later.0 ≡ false) r rs distinct) (All-head (AbsentFrom old) r rs none))
        (still_absent k old new rs a (All-tail (λ (later : K × M). eq k later.0 ≡ false) r rs distinct) (All-tail (AbsentFrom old) r rs none))

    requests_from : (first : Segmented K V S) (rs : List (K × M)) (old new : Segmented K V S) → Stays first old → Requests eq Step Post rs old new → AreDistinct eq rs → All (AbsentFrom old) rs → All (MadeFits first) rs → Stays first new
    requests_from first [] old new s does distinct none fit = stays_on first old new s (stays_same old new does)
    requests_from first (r ∷ rs) old new s does distinct none fit =
        let fits : MadeFits old r = λ made is. fits_still first old made.1 s (All-head (MadeFits first) r rs fit made is) in
        let mid = does.1.1.0 in
        let a = asked r does.0 old mid does.1.0 does.1.1.1.0 (All-head (AbsentFrom old) r rs none) fits in
        requests_from first rs mid new (stays_on first old mid s a.stays) does.1.1.1.1 distinct.1 (still_absent r.0 old mid rs a distinct.0 (All-tail (AbsentFrom old) r rs none)) (All-tail (MadeFits first) r rs fit)

    pub no_request : (rs : List (K × M)) (old new : Segmented K V S) → Requests eq Step Post rs old new → AreDistinct eq rs → All (AbsentFrom old) rs → All (MadeFits old) rs → new.upper ≡ old.upper
    no_request rs old new does distinct none fit = (requests_from old rs old new (stays_same old old refl) does distinct none fit).upper
