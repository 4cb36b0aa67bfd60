-- How calls that spare a folder's files go on.
use Rattle.std.proofs.Common.{◌≡◌, inl, inr, ⊎_elim, ℕ, suc, List, [], ◌∷◌, Option, Some, None, is_some, false, map, refl, sym, ◌∙◌, ap, subst, arith}
use Rattle.std.specs.Prelude.{Contains}
use Rattle.std.specs.FinMap.{get}
use Rattle.std.proofs.lemmas.List.Elements.{Contains-append_left, Contains-append_right, Contains-push}
use Rattle.lru_folder.specs.Files.{Files, AllOrNone, Same, removed}
use Rattle.lru_folder.specs.Folder.{InOrder, Passes}
use Rattle.lru_folder.specs.Losses.{IsFromStart, IsSpread, Loses, firmed, looking, removing}
use Rattle.lru_folder.specs.Meaning.{Meaning}
use Rattle.lru_folder.specs.Sparing.{IsAsItWasBut, SparesAllBut}
use Rattle.lru_folder.proofs.FilesLemmas.{decide, get-remove_same, get-remove_other}
use Rattle.lru_folder.proofs.LossLemmas.{put_back, get-put_back_other, spread-back, lost_now, loss_started, loses_on, then_loses}
use Rattle.lru_folder.proofs.Moments.{started, goes_on, then_run}

but_then : (paths : List (List ℕ)) (a b c : Files) → IsAsItWasBut paths a b → IsAsItWasBut paths b c → IsAsItWasBut paths a c
but_then paths a b c first second q = elim (second q) [
  | inr gone ↦ inr gone
  | inl same ↦ elim (first q) [
    | inl was ↦ inl (same ∙ was)
    | inr gone ↦ inr (gone.0, same ∙ gone.1)
  ]
]

but_more : (few many : List (List ℕ)) (a b : Files) → ((q : List ℕ) → Contains few q → Contains many q) → IsAsItWasBut few a b → IsAsItWasBut many a b
but_more few many a b more h q = ⊎_elim inl (λ (gone : Contains few q × (get b q ≡ None)). inr (more q gone.0, gone.1)) (h q)

none_is : (b : Option (List ℕ)) → is_some b ≡ false → b ≡ None
none_is None e = refl
none_is (Some b) e = cc

module _ {F : Type 0} (meaning : Meaning F) where
  -- before the first call
  pub spares_started : (paths : List (List ℕ)) (old : F) → meaning.keeps old → SparesAllBut meaning paths old old
  spares_started paths old kept = record {
    any_moment = started meaning (IsAsItWasBut paths (meaning.files old)) old kept (λ m is q. inl (ap (λ (f : Files). get f q) is)) (λ q. inl refl);
    any_loss = loss_started meaning (IsAsItWasBut paths) old (λ m q. inl refl);
    loosens = λ q h. h;
  }

  -- one run after another
  pub spares_then : (paths : List (List ℕ)) (old mid new : F) → SparesAllBut meaning paths old mid → SparesAllBut meaning paths mid new → SparesAllBut meaning paths old new
  spares_then paths old mid new first second = record {
    any_moment = then_run meaning (IsAsItWasBut paths (meaning.files old)) (IsAsItWasBut paths (meaning.files mid)) (IsAsItWasBut paths (meaning.files old)) old mid new
        first.any_moment second.any_moment (λ m h. h) (λ m h. but_then paths (meaning.files old) (meaning.files mid) m first.any_moment.now h);
    any_loss = then_loses meaning (IsAsItWasBut paths) (IsAsItWasBut paths) (IsAsItWasBut paths) old mid new first.any_loss second.any_loss (λ was m h. h) (λ was mid m a b. but_then paths was mid m a b);
    loosens = λ q h. first.loosens q (second.loosens q h);
  }

  -- with more paths
  module _ (few many : List (List ℕ)) (more : (q : List ℕ) → Contains few q → Contains many q) (old new : F) where
    from_more : (m : Files) → IsFromStart meaning (IsAsItWasBut few) old m → IsFromStart meaning (IsAsItWasBut many) old m
    from_more m h = (h.0, (h.1.0, but_more few many h.0 m more h.1.1))

    pub spares_more : SparesAllBut meaning few old new → SparesAllBut meaning many old new
    spares_more h = record {
      any_moment = record {
        later = h.any_moment.later;
        each = λ m s. but_more few many (meaning.files old) m more (h.any_moment.each m s);
        now = but_more few many (meaning.files old) (meaning.files new) more h.any_moment.now;
        before = λ t m le s. ⊎_elim inl (λ but. inr (but_more few many (meaning.files old) m more but)) (h.any_moment.before t m le s);
      };
      any_loss = record {
        later = h.any_loss.later;
        each = λ m s. from_more m (h.any_loss.each m s);
        now = λ m s. from_more m (h.any_loss.now m s);
        before = λ t m le s. ⊎_elim inl (λ from. inr (from_more m from)) (h.any_loss.before t m le s);
      };
      loosens = h.loosens;
    }

  -- what spares all spares all but some paths
  pub spares_none : (paths : List (List ℕ)) (old new : F) → SparesAllBut meaning [] old new → SparesAllBut meaning paths old new
  spares_none paths old new = spares_more [] paths (λ q c. absurd (omega (arith, c.1))) old new

  -- one call more that only looks
  pub spares_looked : (paths : List (List ℕ)) (old mid new : F) → SparesAllBut meaning paths old mid → Passes meaning Same mid new → Loses meaning looking mid new
      → SparesAllBut meaning paths old new
  spares_looked paths old mid new so_far time loss = record {
    any_moment = goes_on meaning (IsAsItWasBut paths (meaning.files old)) Same old mid new so_far.any_moment time
        (λ m is. subst (IsAsItWasBut paths (meaning.files old)) (sym is) so_far.any_moment.now);
    any_loss = loses_on meaning (IsAsItWasBut paths) looking old mid new time.later so_far.any_loss loss (λ m none. absurd none);
    loosens = λ q h. so_far.loosens q (loss.loosens q h);
  }

  -- such a call alone
  pub spares_looking : (paths : List (List ℕ)) (old new : F) → meaning.keeps old
      → Passes meaning Same old new → Loses meaning looking old new → SparesAllBut meaning paths old new
  spares_looking paths old new kept time loss = spares_looked paths old old new (spares_started paths old kept) time loss

  -- a removal
  module _ (path : List ℕ) (old new : F) (kept : meaning.keeps old) where
    here : Contains (path ∷ []) path
    here = Contains-push [] path

    part_of : (m : Files) → AllOrNone (removed path) (meaning.files old) m → IsAsItWasBut (path ∷ []) (meaning.files old) m
    part_of m (inl is) q = inl (ap (λ (f : Files). get f q) is)
    part_of m (inr is) q = elim (decide q path) [
      | inl e ↦ inr (subst (Contains (path ∷ [])) (sym e) here, ap (λ (f : Files). get f q) is ∙ ap (λ p. get (removed path (meaning.files old)) p) e ∙ get-remove_same (meaning.files old) path)
      | inr ne ↦ inl (ap (λ (f : Files). get f q) is ∙ get-remove_other (meaning.files old) path q ne)
    ]

    abbrev before : Files → Files
    before m = put_back path (get (meaning.files old) path) m

    back : (m : Files) → IsSpread (firmed path (meaning.loose old)) (removed path (meaning.files old)) m → IsSpread (meaning.loose old) (meaning.files old) (before m)
    back m h = spread-back path (firmed path (meaning.loose old)) (meaning.loose old) (removed path (meaning.files old)) (meaning.files old) m
        (λ q ne. get-remove_other (meaning.files old) path q ne) (λ q ne l. l.1) h

    gone : (m : Files) → IsSpread (firmed path (meaning.loose old)) (removed path (meaning.files old)) m → get m path ≡ None
    gone m h = none_is (get m path) (h.there path ∙ ap is_some (get-remove_same (meaning.files old) path))

    lost : (m : Files) → IsSpread (firmed path (meaning.loose old)) (removed path (meaning.files old)) m → IsFromStart meaning (IsAsItWasBut (path ∷ [])) old m
    lost m h = (
      before m,
      (
        lost_now meaning old kept (before m) (back m h),
        λ q. elim (decide q path) [
          | inl e ↦ inr (subst (Contains (path ∷ [])) (sym e) here, ap (λ p. get m p) e ∙ gone m h)
          | inr ne ↦ inl (sym (get-put_back_other path (get (meaning.files old) path) m q ne))
        ],
      ),
    )

    pub spares_removed : Passes meaning (AllOrNone (removed path)) old new → Loses meaning (removing path) old new → SparesAllBut meaning (path ∷ []) old new
    spares_removed time loss =
        let start = spares_started (path ∷ []) old kept in
        record {
          any_moment = goes_on meaning (IsAsItWasBut (path ∷ []) (meaning.files old)) (AllOrNone (removed path)) old old new start.any_moment time part_of;
          any_loss = loses_on meaning (IsAsItWasBut (path ∷ [])) (removing path) old old new time.later start.any_loss loss lost;
          loosens = loss.loosens;
        }

-- steps in order
module _ {F T : Type 0} (meaning : Meaning F) (Step : ℕ → T → F → F → Type 0)
    (kept : (n : ℕ) (t : T) (old new : F) → Step n t old new → meaning.keeps new) where
  -- each of which spares all
  pub all_in_order : ((n : ℕ) (t : T) (old new : F) → Step n t old new → SparesAllBut meaning [] old new)
      → (n : ℕ) (ts : List T) (old new : F) → meaning.keeps old → InOrder Step n ts old new → SparesAllBut meaning [] old new
  all_in_order spared n [] old new k is = subst (λ f. SparesAllBut meaning [] old f) (sym is) (spares_started meaning [] old k)
  all_in_order spared n (t ∷ ts) old new k steps =
      let mid = steps.0 in
      spares_then meaning [] old mid new (spared n t old mid steps.1) (all_in_order spared (suc n) ts mid new (kept n t old mid steps.1) steps.2)

  -- or all but a path of its own
  pub each_in_order : (path_of : T → List ℕ) → ((n : ℕ) (t : T) (old new : F) → Step n t old new → SparesAllBut meaning (path_of t ∷ []) old new)
      → (n : ℕ) (ts : List T) (old new : F) → meaning.keeps old → InOrder Step n ts old new → SparesAllBut meaning (map path_of ts) old new
  each_in_order path_of spared n [] old new k is = subst (λ f. SparesAllBut meaning [] old f) (sym is) (spares_started meaning [] old k)
  each_in_order path_of spared n (t ∷ ts) old new k steps =
      let mid = steps.0 in
      let one : List (List ℕ) = path_of t ∷ [] in
      let rest : List (List ℕ) = map path_of ts in
      spares_then meaning (path_of t ∷ rest) old mid new
      (spares_more meaning one (path_of t ∷ rest) (λ q c. Contains-append_left one rest q c) old mid (spared n t old mid steps.1))
      (spares_more meaning rest (path_of t ∷ rest) (λ q c. Contains-append_right one rest q c) mid new
      (each_in_order path_of spared (suc n) ts mid new (kept n t old mid steps.1) steps.2))
