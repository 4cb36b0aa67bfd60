-- How calls that change some paths alone go on.
use Rattle.std.proofs.Common.{◌≡◌, ◌≢◌, ◌⊎◌, inl, inr, ⊎_elim, ℕ, List, [], ◌++◌, take, Some, unwrap_or, refl, sym, ◌∙◌, ap, subst}
use Rattle.std.specs.FinMap.{get}
use Rattle.lru_folder.specs.Files.{Files, AllOrNone, SomeFront, Same, bytes_at, created, appended, removed}
use Rattle.lru_folder.specs.Folder.{Opened, Writing, written_path, Passes}
use Rattle.lru_folder.specs.Losses.{IsFromStart, IsOverwritten, IsSpread, IsSynced, Loses, creating, writing, removing, looking, loosened, firmed}
use Rattle.lru_folder.specs.Meaning.{Meaning}
use Rattle.lru_folder.proofs.FilesLemmas.{get-insert_same, get-insert_other, get-remove_other}
use Rattle.lru_folder.proofs.LossLemmas.{put_back, get-put_back_other, spread-back, spread-more, lost_now, loss_started, loses_on, then_loses}
use Rattle.lru_folder.proofs.Moments.{started, goes_on, then_run}
use Rattle.lru_generations.specs.Touching.{IsSameBut, TouchesOnly, IsWritten}

module _ {F : Type 0} (meaning : Meaning F) where
  module _ (P : List ℕ → Type 0) where
    -- before the first call
    pub touches_started : (old : F) → meaning.keeps old → TouchesOnly meaning P old old
    touches_started old kept = record {
      any_moment = started meaning (IsSameBut P (meaning.files old)) old kept (λ m is q other. ap (λ (f : Files). get f q) is) (λ q other. refl);
      any_loss = loss_started meaning (IsSameBut P) old (λ m q other. refl);
      loosens = λ q l. inr l;
    }

    -- one run after another
    pub touches_then : (old mid new : F) → TouchesOnly meaning P old mid → TouchesOnly meaning P mid new → TouchesOnly meaning P old new
    touches_then old mid new first second = record {
      any_moment = then_run meaning (IsSameBut P (meaning.files old)) (IsSameBut P (meaning.files mid)) (IsSameBut P (meaning.files old)) old mid new
          first.any_moment second.any_moment (λ m h. h) (λ m h q other. h q other ∙ first.any_moment.now q other);
      any_loss = then_loses meaning (IsSameBut P) (IsSameBut P) (IsSameBut P) old mid new first.any_loss second.any_loss (λ was m h. h) (λ was then m a b q other. b q other ∙ a q other);
      loosens = λ q l. ⊎_elim inl (first.loosens q) (second.loosens q l);
    }

    -- one call more that only looks
    pub touches_looked : (old mid new : F) → TouchesOnly meaning P old mid → Passes meaning Same mid new → Loses meaning looking mid new → TouchesOnly meaning P old new
    touches_looked old mid new so_far time loss = record {
      any_moment = goes_on meaning (IsSameBut P (meaning.files old)) Same old mid new so_far.any_moment time
          (λ m is. subst (IsSameBut P (meaning.files old)) (sym is) so_far.any_moment.now);
      any_loss = loses_on meaning (IsSameBut P) looking old mid new time.later so_far.any_loss loss (λ m none. absurd none);
      loosens = λ q l. so_far.loosens q (loss.loosens q l);
    }

  -- with more paths
  module _ (few many : List ℕ → Type 0) (more : (q : List ℕ) → few q → many q) (old new : F) where
    same_more : (a b : Files) → IsSameBut few a b → IsSameBut many a b
    same_more a b h q other = h q (λ p. other (more q p))

    from_more : (m : Files) → IsFromStart meaning (IsSameBut few) old m → IsFromStart meaning (IsSameBut many) old m
    from_more m h = (h.0, (h.1.0, same_more h.0 m h.1.1))

    pub touches_more : TouchesOnly meaning few old new → TouchesOnly meaning many old new
    touches_more h = record {
      any_moment = record {
        later = h.any_moment.later;
        each = λ m s. same_more (meaning.files old) m (h.any_moment.each m s);
        now = same_more (meaning.files old) (meaning.files new) h.any_moment.now;
        before = λ t m le s. ⊎_elim inl (λ but. inr (same_more (meaning.files old) m but)) (h.any_moment.before t m le s);
      };
      any_loss = record {
        later = h.any_loss.later;
        each = λ m s. from_more m (h.any_loss.each m s);
        now = λ m s. from_more m (h.any_loss.now m s);
        before = λ t m le s. ⊎_elim inl (λ from. inr (from_more m from)) (h.any_loss.before t m le s);
      };
      loosens = λ q l. ⊎_elim (λ p. inl (more q p)) inr (h.loosens q l);
    }

  -- one file, from a start on
  module _ (path : List ℕ) (start : F) where
    abbrev At : List ℕ → Type 0
    At q = q ≡ path

    abbrev pub Touched : F → Type 0
    Touched = TouchesOnly meaning At start

    -- one call more that changes the file
    module _ (mid new : F) (kept : meaning.keeps mid) (so_far : Touched mid) where
      from_overwritten : (f : Files) → IsOverwritten path (meaning.lost_since mid (meaning.clock mid)) f → IsFromStart meaning (IsSameBut At) start f
      from_overwritten f h =
          let was = so_far.any_loss.now h.0 h.1.0 in
          (was.0, (was.1.0, λ q other. h.1.1.others q other ∙ was.1.1 q other))

      from_changed : (changed : Files) → ((q : List ℕ) → q ≢ path → get changed q ≡ get (meaning.files mid) q)
          → (f : Files) → IsSpread (loosened path (meaning.loose mid)) changed f → IsFromStart meaning (IsSameBut At) start f
      from_changed changed same f h =
          let back = put_back path (get (meaning.files mid) path) f in
          let lost = lost_now meaning mid kept back (spread-back path (loosened path (meaning.loose mid)) (meaning.loose mid) changed (meaning.files mid) f same (λ q ne l. ⊎_elim (λ e. absurd (ne e)) (λ o. o) l) h) in
          let was = so_far.any_loss.now back lost in
          (was.0, (was.1.0, λ q other. sym (get-put_back_other path (get (meaning.files mid) path) f q other) ∙ was.1.1 q other))

      loosens_on : ((q : List ℕ) → meaning.loose new q → loosened path (meaning.loose mid) q) → (q : List ℕ) → meaning.loose new q → At q ⊎ meaning.loose start q
      loosens_on less q l = ⊎_elim inl (so_far.loosens q) (less q l)

      -- the same but there
      there_alone : (v : List ℕ) (m : Files) → ((q : List ℕ) → q ≢ path → get m q ≡ get (meaning.files mid) q) → IsSameBut At (meaning.files start) m
      there_alone v m same q other = same q other ∙ so_far.any_moment.now q other

      created_part : (m : Files) → AllOrNone (created path) (meaning.files mid) m → IsSameBut At (meaning.files start) m
      created_part m (inl e) = subst (IsSameBut At (meaning.files start)) (sym e) so_far.any_moment.now
      created_part m (inr e) = there_alone [] m (λ q ne. ap (λ (f : Files). get f q) e ∙ get-insert_other (meaning.files mid) path [] q ne)

      written_part : (piece : List ℕ) (m : Files) → SomeFront path piece (meaning.files mid) m → IsSameBut At (meaning.files start) m
      written_part piece m (inl e) = subst (IsSameBut At (meaning.files start)) (sym e) so_far.any_moment.now
      written_part piece m (inr part) = there_alone [] m
          (λ q ne. ap (λ (f : Files). get f q) part.1 ∙ get-insert_other (meaning.files mid) path (bytes_at (meaning.files mid) path ++ take part.0 piece) q ne)

      pub touches_created : Passes meaning (AllOrNone (created path)) mid new → Loses meaning (creating path) mid new → Touched new
      touches_created time loss = record {
        any_moment = goes_on meaning (IsSameBut At (meaning.files start)) (AllOrNone (created path)) start mid new so_far.any_moment time created_part;
        any_loss = loses_on meaning (IsSameBut At) (creating path) start mid new time.later so_far.any_loss loss
            (λ f s. ⊎_elim (from_overwritten f) (from_changed (created path (meaning.files mid)) (λ q ne. get-insert_other (meaning.files mid) path [] q ne) f) s);
        loosens = loosens_on loss.loosens;
      }

      pub touches_written : (piece : List ℕ) (mode : Opened) → mode ≡ Writing path → Passes meaning (SomeFront (written_path mode) piece) mid new
          → Loses meaning (writing (written_path mode) piece) mid new → Touched new
      touches_written piece mode is passed lost =
          let time = subst (λ (o : Opened). Passes meaning (SomeFront (written_path o) piece) mid new) is passed in
          let loss = subst (λ (o : Opened). Loses meaning (writing (written_path o) piece) mid new) is lost in
          record {
            any_moment = goes_on meaning (IsSameBut At (meaning.files start)) (SomeFront path piece) start mid new so_far.any_moment time (written_part piece);
            any_loss = loses_on meaning (IsSameBut At) (writing path piece) start mid new time.later so_far.any_loss loss
                (λ f s. ⊎_elim (from_overwritten f) (from_changed (appended path piece (meaning.files mid))
                (λ q ne. get-insert_other (meaning.files mid) path (bytes_at (meaning.files mid) path ++ piece) q ne) f) s);
            loosens = loosens_on loss.loosens;
          }

      removed_part : (m : Files) → AllOrNone (removed path) (meaning.files mid) m → IsSameBut At (meaning.files start) m
      removed_part m (inl e) = subst (IsSameBut At (meaning.files start)) (sym e) so_far.any_moment.now
      removed_part m (inr e) = there_alone [] m (λ q ne. ap (λ (f : Files). get f q) e ∙ get-remove_other (meaning.files mid) path q ne)

      pub touches_removed : Passes meaning (AllOrNone (removed path)) mid new → Loses meaning (removing path) mid new → Touched new
      touches_removed time loss = record {
        any_moment = goes_on meaning (IsSameBut At (meaning.files start)) (AllOrNone (removed path)) start mid new so_far.any_moment time removed_part;
        any_loss = loses_on meaning (IsSameBut At) (removing path) start mid new time.later so_far.any_loss loss
            (λ f s. from_changed (removed path (meaning.files mid)) (λ q ne. get-remove_other (meaning.files mid) path q ne) f
            (spread-more (firmed path (meaning.loose mid)) (loosened path (meaning.loose mid)) (removed path (meaning.files mid)) f (λ q l. inr l.1) s));
        loosens = λ q l. so_far.loosens q (loss.loosens q l);
      }

    -- what stands in the file at last
    pub whole : (bytes : List ℕ) (one two four : F) (mode : Opened) → meaning.files one ≡ created path (meaning.files start) → mode ≡ Writing path
        → meaning.files two ≡ appended (written_path mode) bytes (meaning.files one) → meaning.files four ≡ meaning.files two → get (meaning.files four) path ≡ Some bytes
    whole bytes one two four mode is_created opened is_written same =
        let at_one : get (meaning.files one) path ≡ Some [] = ap (λ (f : Files). get f path) is_created ∙ get-insert_same (meaning.files start) path [] in
        ap (λ (f : Files). get f path) (same ∙ is_written ∙ ap (λ (o : Opened). appended (written_path o) bytes (meaning.files one)) opened)
        ∙ get-insert_same (meaning.files one) path (bytes_at (meaning.files one) path ++ bytes) ∙ ap (λ b. Some (unwrap_or b [] ++ bytes)) at_one

    firm_more : (three : F) → Touched three → (q : List ℕ) → firmed path (meaning.loose three) q → firmed path (meaning.loose start) q
    firm_more three so_far q l = (l.0, ⊎_elim (λ e. absurd (l.0 e)) (λ o. o) (so_far.loosens q l.1))

    pub is_written : (bytes : List ℕ) (three four : F) (mode : Opened) → Touched three → mode ≡ Writing path → IsSynced meaning (written_path mode) three four
        → meaning.files four ≡ meaning.files three → get (meaning.files four) path ≡ Some bytes → IsWritten meaning path bytes start four
    is_written bytes three four mode so_far is synced same here =
        let done = subst (λ (o : Opened). IsSynced meaning (written_path o) three four) is synced in
        record {
          file = here;
          only = λ m lost. subst (λ (f : Files). IsSpread (firmed path (meaning.loose start)) f m) (sym same)
              (spread-more (firmed path (meaning.loose three)) (firmed path (meaning.loose start)) (meaning.files three) m (firm_more three so_far) (done.only m lost));
          firm = λ q l. firm_more three so_far q (done.firm q l);
        }
