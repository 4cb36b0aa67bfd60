-- What a loss of power may leave of each step of a save of one file.
use Rattle.std.proofs.Common.{◌≡◌, ◌≢◌, ◌⊎◌, inl, inr, ⊎_elim, ℕ, List, [], ◌++◌, Option, Some, refl, sym, ◌∙◌, ap, subst}
use Rattle.std.specs.FinMap.{get, remove}
use Rattle.lru_folder.specs.Files.{Files, bytes_at, created, appended, renamed, AllOrNone, SomeFront, Same}
use Rattle.lru_folder.specs.Folder.{Opened, Writing, written_path, Passes}
use Rattle.lru_folder.specs.Losses.{IsSpread, IsOverwritten, IsSynced, IsFromStart, Loses, LosesOnly, creating, writing, renaming, looking, loosened, firmed, handed_on}
use Rattle.lru_folder.specs.Meaning.{Meaning}
use Rattle.lru_folder.proofs.FilesLemmas.{decide, get-insert_same, get-insert_other, get-remove_other, renamed-here}
use Rattle.lru_folder.proofs.LossLemmas.{put_back, get-put_back_same, get-put_back_other, spread-back, lost_now, loss_started, loses_on}
use Rattle.lru_shard_files.specs.Saving.{IsOldOrWhole, SparesFile}
use Rattle.lru_shard_files.proofs.SaveSteps.{after_create, after_write, after_flush, after_rename}

-- as maps
module _ (temp path bytes : List ℕ) (apart : temp ≢ path) where
  abbrev R : Files → Files → Type 0
  R = IsOldOrWhole temp path bytes

  same_map : (m : Files) → R m m
  same_map m = record { file = inl refl; others = λ q p t. refl }

  -- the temporary file may hold anything
  at_temp : (was then m : Files) → R was then → IsSpread (λ q. q ≡ temp) then m → R was m
  at_temp was then m h s = record {
    file = subst (λ (b : Option (List ℕ)). (b ≡ get was path) ⊎ (b ≡ Some bytes)) (sym (s.others path (λ e. apart (sym e)))) h.file;
    others = λ q p t. s.others q t ∙ h.others q p t;
  }

  temp_back : (m : Files) (b : Option (List ℕ)) → R (put_back temp b m) m
  temp_back m b = record {
    file = inl (sym (get-put_back_other temp b m path (λ e. apart (sym e))));
    others = λ q p t. sym (get-put_back_other temp b m q t);
  }

  both_back : (m : Files) (b c : Option (List ℕ)) → get m path ≡ Some bytes → R (put_back temp b (put_back path c m)) m
  both_back m b c whole = record {
    file = inr whole;
    others = λ q p t. sym (get-put_back_other temp b (put_back path c m) q t ∙ get-put_back_other path c m q p);
  }

-- in time
module _ {F : Type 0} (m : Meaning F) (temp path bytes : List ℕ) (apart : temp ≢ path) (start : F) (kept : m.keeps start) where
  -- the calls so far
  abbrev Lost : F → Type 0
  Lost = LosesOnly m (IsOldOrWhole temp path bytes) start

  abbrev From : Files → Type 0
  From = IsFromStart m (IsOldOrWhole temp path bytes) start

  -- nothing has changed but at the temporary path
  abbrev pub IsApart : Files → Type 0
  IsApart files = (q : List ℕ) → q ≢ temp → get files q ≡ get (m.files start) q

  pub apart_created : (one : F) (at : List ℕ) → at ≡ temp → m.files one ≡ created at (m.files start) → IsApart (m.files one)
  apart_created one at is is_created q ne =
      ap (λ (f : Files). get f q) (is_created ∙ ap (λ p. created p (m.files start)) is) ∙ get-insert_other (m.files start) temp [] q ne

  pub apart_written : (one two : F) (mode : Opened) → mode ≡ Writing temp → m.files two ≡ appended (written_path mode) bytes (m.files one) → IsApart (m.files one) → IsApart (m.files two)
  apart_written one two mode is is_written same q ne =
      ap (λ (f : Files). get f q) (is_written ∙ ap (λ (o : Opened). appended (written_path o) bytes (m.files one)) is)
      ∙ get-insert_other (m.files one) temp (bytes_at (m.files one) temp ++ bytes) q ne ∙ same q ne

  pub apart_same : (two three : F) → m.files three ≡ m.files two → IsApart (m.files two) → IsApart (m.files three)
  apart_same two three is same q ne = ap (λ (f : Files). get f q) is ∙ same q ne

  from_overwritten : (mid : F) → Lost mid → (f : Files) → IsOverwritten temp (m.lost_since mid (m.clock mid)) f → From f
  from_overwritten mid so_far f h =
      let was = so_far.now h.0 h.1.0 in
      (was.0, (was.1.0, at_temp temp path bytes apart was.0 h.0 f was.1.1 h.1.1))

  -- a map that is spread from one whose temporary file alone is another comes from one with the old temporary file
  from_apart : (files : Files) (loose : List ℕ → Type 0) → IsApart files → ((q : List ℕ) → loose q → loosened temp (m.loose start) q)
      → (f : Files) → IsSpread loose files f → From f
  from_apart files loose same less f h = (
    put_back temp (get (m.files start) temp) f,
    (
      lost_now m start kept (put_back temp (get (m.files start) temp) f) (spread-back temp loose (m.loose start) files (m.files start) f same (λ q ne l. ⊎_elim (λ e. absurd (ne e)) (λ o. o) (less q l)) h),
      temp_back temp path bytes apart f (get (m.files start) temp),
    ),
  )

  -- once the temporary file, whole and synced, has become the file
  module _ (files : Files) (loose : List ℕ → Type 0) (same : IsApart files) (whole : get files temp ≡ Some bytes)
      (firm : (q : List ℕ) → loose q → firmed temp (loosened temp (m.loose start)) q) where
    abbrev at_last : Files
    at_last = renamed temp path files

    elsewhere : (q : List ℕ) → q ≢ path → q ≢ temp → get at_last q ≡ get (m.files start) q
    elsewhere q p t =
        ap (λ (f : Files). get f q) (renamed-here temp path bytes files whole) ∙ get-insert_other (remove files temp) path bytes q p
        ∙ get-remove_other files temp q t ∙ same q t

    pub not_loose : (q : List ℕ) → handed_on temp path loose q → (q ≢ path) × m.loose start q
    not_loose q (inl h) = absurd ((firm temp h.1).0 refl)
    not_loose q (inr h) = (h.1.0, ⊎_elim (λ e. absurd (h.0 e)) (λ o. o) (firm q h.1.1).1)

    -- as it was at the path
    abbrev unnamed : Files
    unnamed = put_back path (get (m.files start) path) at_last

    apart_again : (q : List ℕ) → q ≢ temp → get unnamed q ≡ get (m.files start) q
    apart_again q t = elim (decide q path) [
      | inl e ↦ subst (λ p. get unnamed p ≡ get (m.files start) p) (sym e) (get-put_back_same path (get (m.files start) path) at_last)
      | inr p ↦ get-put_back_other path (get (m.files start) path) at_last q p ∙ elsewhere q p t
    ]

    from_renamed : (f : Files) → IsSpread (handed_on temp path loose) (renamed temp path files) f → From f
    from_renamed f h =
        let here : get f path ≡ Some bytes =
        h.others path (λ l. (not_loose path l).0 refl) ∙ ap (λ (g : Files). get g path) (renamed-here temp path bytes files whole) ∙ get-insert_same (remove files temp) path bytes in
        let back = put_back path (get unnamed path) f in
        let once = spread-back path (handed_on temp path loose) (handed_on temp path loose) at_last unnamed f
        (λ q p. sym (get-put_back_other path (get (m.files start) path) at_last q p)) (λ q p l. l) h in (
          put_back temp (get (m.files start) temp) back,
          (
            lost_now m start kept (put_back temp (get (m.files start) temp) back)
                (spread-back temp (handed_on temp path loose) (m.loose start) unnamed (m.files start) back apart_again (λ q t l. (not_loose q l).1) once),
            both_back temp path bytes apart f (get (m.files start) temp) (get unnamed path) here,
          ),
        )

  -- what is safe so far
  abbrev pub Spares : F → Type 0
  Spares = SparesFile m temp path bytes start

  pub so_created : (new : F) (at : List ℕ) → at ≡ temp → Passes m (AllOrNone (created at)) start new → Loses m (creating at) start new → Spares new
  so_created new at is passed lost =
      let call = subst (λ (p : List ℕ). Loses m (creating p) start new) is lost in
      let none = loss_started m (IsOldOrWhole temp path bytes) start (same_map temp path bytes apart) in
      record {
        any_moment = after_create m temp path bytes apart start new at is kept passed;
        any_loss = loses_on m (IsOldOrWhole temp path bytes) (creating temp) start start new passed.later none call
            (λ f s. ⊎_elim (from_overwritten start none f)
            (from_apart (created temp (m.files start)) (loosened temp (m.loose start)) (λ q ne. get-insert_other (m.files start) temp [] q ne) (λ q l. l) f) s);
        loosens = call.loosens;
      }

  pub so_written : (mid new : F) (mode : Opened) → Spares mid → IsApart (m.files mid) → get (m.files mid) temp ≡ Some [] → mode ≡ Writing temp
      → Passes m (SomeFront (written_path mode) bytes) mid new → Loses m (writing (written_path mode) bytes) mid new → Spares new
  so_written mid new mode so_far same empty is passed lost =
      let call = subst (λ (o : Opened). Loses m (writing (written_path o) bytes) mid new) is lost in
      record {
        any_moment = after_write m temp path bytes apart start mid new mode empty so_far.any_moment is passed;
        any_loss = loses_on m (IsOldOrWhole temp path bytes) (writing temp bytes) start mid new passed.later so_far.any_loss call
            (λ f s. ⊎_elim (from_overwritten mid so_far.any_loss f)
            (from_apart (appended temp bytes (m.files mid)) (loosened temp (m.loose mid)) (λ q ne. get-insert_other (m.files mid) temp (bytes_at (m.files mid) temp ++ bytes) q ne ∙ same q ne)
            (λ q l. ⊎_elim inl (so_far.loosens q) l) f) s);
        loosens = λ q l. ⊎_elim inl (so_far.loosens q) (call.loosens q l);
      }

  -- a call that changes no file
  pub so_looked : (mid new : F) → Spares mid → Passes m Same mid new → Loses m looking mid new → Spares new
  so_looked mid new so_far passed lost = record {
    any_moment = after_flush m temp path bytes apart start mid new so_far.any_moment passed;
    any_loss = loses_on m (IsOldOrWhole temp path bytes) looking start mid new passed.later so_far.any_loss lost (λ f s. absurd s);
    loosens = λ q l. so_far.loosens q (lost.loosens q l);
  }

  -- after the sync the temporary file is no longer loose
  pub firm_then : (mid new : F) (mode : Opened) → Spares mid → mode ≡ Writing temp → IsSynced m (written_path mode) mid new
      → (q : List ℕ) → m.loose new q → firmed temp (loosened temp (m.loose start)) q
  firm_then mid new mode so_far is synced q l =
      let h = subst (λ (o : Opened). firmed (written_path o) (m.loose mid) q) is (synced.firm q l) in
      (h.0, so_far.loosens q h.1)

  pub so_renamed : (mid new : F) (from to : List ℕ) → from ≡ temp → to ≡ path → Spares mid → IsApart (m.files mid) → get (m.files mid) temp ≡ Some bytes
      → ((q : List ℕ) → m.loose mid q → firmed temp (loosened temp (m.loose start)) q)
      → Passes m (AllOrNone (renamed from to)) mid new → Loses m (renaming from to) mid new → Spares new
  so_renamed mid new from to from_is to_is so_far same whole firm passed lost =
      let call = subst (λ (p : List ℕ × List ℕ). Loses m (renaming p.0 p.1) mid new) (λ i. (from_is i, to_is i)) lost in
      record {
        any_moment = after_rename m temp path bytes apart start mid new from to from_is to_is so_far.any_moment whole passed;
        any_loss = loses_on m (IsOldOrWhole temp path bytes) (renaming temp path) start mid new passed.later so_far.any_loss call
            (from_renamed (m.files mid) (m.loose mid) same whole firm);
        loosens = λ q l. ⊎_elim (so_far.loosens q) (λ h. inr (not_loose (m.files mid) (m.loose mid) same whole firm q h).1) (call.loosens q l);
      }

  -- and neither is the file
  pub firm_last : (mid new : F) (from to : List ℕ) → from ≡ temp → to ≡ path → IsApart (m.files mid) → get (m.files mid) temp ≡ Some bytes
      → ((q : List ℕ) → m.loose mid q → firmed temp (loosened temp (m.loose start)) q) → ((q : List ℕ) → m.loose new q → handed_on from to (m.loose mid) q) → ¬ m.loose new path
  firm_last mid new from to from_is to_is same whole firm settled l =
      let h = subst (λ (p : List ℕ × List ℕ). handed_on p.0 p.1 (m.loose mid) path) (λ i. (from_is i, to_is i)) (settled path l) in
      (not_loose (m.files mid) (m.loose mid) same whole firm path h).0 refl
