-- What a replacement leaves.
use Rattle.std.proofs.Common.{◌≡◌, ◌≢◌, inl, inr, ⊎_elim, ℕ, List, Some, refl, sym, ◌∙◌, ap, subst}
use Rattle.std.specs.FinMap.{get, remove}
use Rattle.lru_folder.specs.Files.{Files, AllOrNone, renamed}
use Rattle.lru_folder.specs.Folder.{Passes}
use Rattle.lru_folder.specs.Losses.{IsFromStart, IsSpread, Loses, renaming, firmed, handed_on}
use Rattle.lru_folder.specs.Meaning.{Meaning}
use Rattle.lru_folder.proofs.FilesLemmas.{decide, get-insert_same, get-insert_other, get-remove_other, renamed-here}
use Rattle.lru_folder.proofs.LossLemmas.{put_back, get-put_back_same, get-put_back_other, spread-back, lost_now, loses_on}
use Rattle.lru_folder.proofs.Moments.{goes_on}
use Rattle.lru_generations.specs.Touching.{IsSameBut, TouchesOnly, IsWritten}
use Rattle.lru_generations.specs.Replacing.{IsReplaced, IsOldOrReplaced, Replaces}

module _ {F : Type 0} (meaning : Meaning F) (temp path bytes : List ℕ) (apart : temp ≢ path) (start : F) where
  abbrev R : Files → Files → Type 0
  R = IsOldOrReplaced temp path bytes (meaning.files start) (meaning.loose start)

  from_more : (m : Files) → IsFromStart meaning (IsSameBut (λ q. q ≡ temp)) start m → IsFromStart meaning R start m
  from_more m h = (h.0, (h.1.0, inl h.1.1))

  -- so long as the temporary file alone has changed
  pub not_yet : (mid : F) → TouchesOnly meaning (λ q. q ≡ temp) start mid → Replaces meaning temp path bytes start mid
  not_yet mid h = record {
    any_moment = record {
      later = h.any_moment.later;
      each = λ m s. inl (h.any_moment.each m s);
      now = inl h.any_moment.now;
      before = λ t m le s. ⊎_elim inl (λ but. inr (inl but)) (h.any_moment.before t m le s);
    };
    any_loss = record {
      later = h.any_loss.later;
      each = λ m s. from_more m (h.any_loss.each m s);
      now = λ m s. from_more m (h.any_loss.now m s);
      before = λ t m le s. ⊎_elim inl (λ from. inr (from_more m from)) (h.any_loss.before t m le s);
    };
    loosens = h.loosens;
  }

  -- once it is written and synced
  module _ (mid new : F) (touched : TouchesOnly meaning (λ q. q ≡ temp) start mid) (written : IsWritten meaning temp bytes start mid) where
    abbrev at_last : Files
    at_last = renamed temp path (meaning.files mid)

    here : get at_last path ≡ Some bytes
    here = ap (λ (f : Files). get f path) (renamed-here temp path bytes (meaning.files mid) written.file) ∙ get-insert_same (remove (meaning.files mid) temp) path bytes

    elsewhere : (q : List ℕ) → q ≢ path → q ≢ temp → get at_last q ≡ get (meaning.files mid) q
    elsewhere q p t =
        ap (λ (f : Files). get f q) (renamed-here temp path bytes (meaning.files mid) written.file) ∙ get-insert_other (remove (meaning.files mid) temp) path bytes q p
        ∙ get-remove_other (meaning.files mid) temp q t

    pub is_replaced : IsReplaced temp path bytes (meaning.files start) (meaning.loose start) (meaning.files start) at_last
    is_replaced = record {
      file = here;
      others = λ q other. elsewhere q (λ e. other (inr e)) (λ e. other (inl e)) ∙ touched.any_moment.now q (λ e. other (inl e));
      firm = λ q t p firm. elsewhere q p t ∙ touched.any_moment.now q t;
    }

    part : (m : Files) → AllOrNone (renamed temp path) (meaning.files mid) m → R (meaning.files start) m
    part m (inl e) = subst (R (meaning.files start)) (sym e) (inl touched.any_moment.now)
    part m (inr e) = subst (R (meaning.files start)) (sym e) (inr is_replaced)

    handed : (q : List ℕ) → handed_on temp path (meaning.loose mid) q → (q ≢ path) × meaning.loose mid q
    handed q (inl h) = absurd ((written.firm temp h.1).0 refl)
    handed q (inr h) = (h.1.0, h.1.1)

    -- the paths that are loose then
    pub stays_firm : ((q : List ℕ) → meaning.loose new q → handed_on temp path (meaning.loose mid) q) → (q : List ℕ) → meaning.loose new q
        → firmed temp (firmed path (meaning.loose start)) q
    stays_firm settled q l =
        let still = handed q (settled q l) in
        let before = written.firm q still.1 in
        (before.0, (still.0, before.1))

    -- as it was at the path
    abbrev unnamed : Files
    unnamed = put_back path (get (meaning.files mid) path) at_last

    apart_again : (q : List ℕ) → q ≢ temp → get unnamed q ≡ get (meaning.files mid) q
    apart_again q t = elim (decide q path) [
      | inl e ↦ subst (λ p. get unnamed p ≡ get (meaning.files mid) p) (sym e) (get-put_back_same path (get (meaning.files mid) path) at_last)
      | inr p ↦ get-put_back_other path (get (meaning.files mid) path) at_last q p ∙ elsewhere q p t
    ]

    module _ (kept : meaning.keeps mid) where
      lost : (f : Files) → IsSpread (handed_on temp path (meaning.loose mid)) at_last f → IsFromStart meaning R start f
      lost f h =
          let back = put_back path (get unnamed path) f in
          let once = spread-back path (handed_on temp path (meaning.loose mid)) (handed_on temp path (meaning.loose mid)) at_last unnamed f
          (λ q p. sym (get-put_back_other path (get (meaning.files mid) path) at_last q p)) (λ q p l. l) h in
          let twice = spread-back temp (handed_on temp path (meaning.loose mid)) (meaning.loose mid) unnamed (meaning.files mid) back apart_again (λ q t l. (handed q l).1) once in
          let was = touched.any_loss.now (put_back temp (get (meaning.files mid) temp) back) (lost_now meaning mid kept (put_back temp (get (meaning.files mid) temp) back) twice) in (
            was.0,
            (
              was.1.0,
              inr (record {
                file = h.others path (λ l. (handed path l).0 refl) ∙ here;
                others = λ q other.
                    sym (get-put_back_other temp (get (meaning.files mid) temp) back q (λ e. other (inl e)) ∙ get-put_back_other path (get unnamed path) f q (λ e. other (inr e)))
                    ∙ was.1.1 q (λ e. other (inl e));
                firm = λ q t p firm. h.others q (λ l. firm (written.firm q (handed q l).1).1) ∙ elsewhere q p t ∙ touched.any_moment.now q t;
              }),
            ),
          )

      pub replaced : Passes meaning (AllOrNone (renamed temp path)) mid new → Loses meaning (renaming temp path) mid new → Replaces meaning temp path bytes start new
      replaced time loss =
          let so_far = not_yet mid touched in
          record {
            any_moment = goes_on meaning (R (meaning.files start)) (AllOrNone (renamed temp path)) start mid new so_far.any_moment time part;
            any_loss = loses_on meaning R (renaming temp path) start mid new time.later so_far.any_loss loss lost;
            loosens = λ q l. touched.loosens q (⊎_elim (λ o. o) (λ h. (handed q h).1) (loss.loosens q l));
          }
