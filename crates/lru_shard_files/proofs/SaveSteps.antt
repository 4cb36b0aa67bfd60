-- What each step of a save of one file leaves.
use Rattle.std.proofs.Common.{◌≡◌, ◌≢◌, ◌⊎◌, inl, inr, ℕ, List, [], ◌++◌, take, Option, Some, unwrap_or, refl, sym, ◌∙◌, ap, subst}
use Rattle.std.specs.FinMap.{get, insert, remove}
use Rattle.lru_folder.specs.Files.{Files, bytes_at, created, appended, renamed, AllOrNone, SomeFront, Same}
use Rattle.lru_folder.proofs.FilesLemmas.{get-insert_same, get-insert_other, get-remove_same, get-remove_other, renamed-here}
use Rattle.lru_folder.specs.Meaning.{Meaning}
use Rattle.lru_folder.specs.Folder.{Opened, Writing, written_path, Passes, LeavesOnly}
use Rattle.lru_folder.proofs.Moments.{started, goes_on}
use Rattle.lru_shard_files.specs.Saving.{IsOldOrNew, IsSaved}

-- as maps
module _ (temp path bytes : List ℕ) (apart : temp ≢ path) (old : Files) where
  abbrev P : Files → Type 0
  P = IsOldOrNew temp path bytes old

  unchanged : (m : Files) → m ≡ old → P m
  unchanged m e = record { file = inl (ap (λ (f : Files). get f path) e); remnant = inl (ap (λ (f : Files). get f temp) e); others = λ q p t. ap (λ (f : Files). get f q) e }

  -- the temporary file may hold a front of the bytes
  at_temp : (m : Files) (v : List ℕ) (n : ℕ) → v ≡ take n bytes → P m → P (insert m temp v)
  at_temp m v n is h = record {
    file = subst (λ (b : Option (List ℕ)). (b ≡ get old path) ⊎ (b ≡ Some bytes)) (sym (get-insert_other m temp v path (λ e. apart (sym e)))) h.file;
    remnant = inr (inr (n, get-insert_same m temp v ∙ ap (λ (b : List ℕ). Some b) is));
    others = λ q p t. get-insert_other m temp v q t ∙ h.others q p t;
  }

  create_part : (m n : Files) → P m → AllOrNone (created temp) m n → P n
  create_part m n h (inl e) = subst P (sym e) h
  create_part m n h (inr e) = subst P (sym e) (at_temp m [] 0 refl h)

  write_part : (m n : Files) → get m temp ≡ Some [] → P m → SomeFront temp bytes m n → P n
  write_part m n empty h (inl e) = subst P (sym e) h
  write_part m n empty h (inr part) = subst P (sym part.1)
      (at_temp m (bytes_at m temp ++ take part.0 bytes) part.0 (ap (λ b. unwrap_or b [] ++ take part.0 bytes) empty) h)

  flush_part : (m n : Files) → P m → Same m n → P n
  flush_part m n h e = subst P (sym e) h

  -- the temporary file, whole, becomes the file
  rename_whole : (m : Files) → P m → get m temp ≡ Some bytes → IsSaved temp path bytes old (renamed temp path m)
  rename_whole m h whole = subst (IsSaved temp path bytes old) (sym (renamed-here temp path bytes m whole)) (record {
    file = get-insert_same (remove m temp) path bytes;
    gone = get-insert_other (remove m temp) path bytes temp apart ∙ get-remove_same m temp;
    others = λ q p t. get-insert_other (remove m temp) path bytes q p ∙ get-remove_other m temp q t ∙ h.others q p t;
  })

  saved : (m : Files) → IsSaved temp path bytes old m → P m
  saved m s = record { file = inr s.file; remnant = inr (inl s.gone); others = s.others }

  rename_part : (m n : Files) → P m → get m temp ≡ Some bytes → AllOrNone (renamed temp path) m n → P n
  rename_part m n h whole (inl e) = subst P (sym e) h
  rename_part m n h whole (inr e) = subst P (sym e) (saved _ (rename_whole m h whole))

-- in time
module _ {F : Type 0} (meaning : Meaning F) (temp path bytes : List ℕ) (apart : temp ≢ path) (start : F) where
  -- the calls so far left the file old or new
  abbrev pub Leaves : F → Type 0
  Leaves = LeavesOnly meaning (IsOldOrNew temp path bytes (meaning.files start)) start

  pub after_create : (new : F) (at : List ℕ) → at ≡ temp → meaning.keeps start
      → Passes meaning (AllOrNone (created at)) start new → Leaves new
  after_create new at is kept call =
      let P = IsOldOrNew temp path bytes (meaning.files start) in
      let so_far = started meaning P start kept (unchanged temp path bytes apart (meaning.files start)) (unchanged temp path bytes apart (meaning.files start) (meaning.files start) (λ i. meaning.files start)) in
      goes_on meaning P (AllOrNone (created temp)) start start new so_far
      (subst (λ (p : List ℕ). Passes meaning (AllOrNone (created p)) start new) is call)
      (λ m part. create_part temp path bytes apart (meaning.files start) (meaning.files start) m so_far.now part)

  -- a file that was just created has no bytes
  pub empty_at : (one : F) (at : List ℕ) → at ≡ temp → meaning.files one ≡ created at (meaning.files start) → get (meaning.files one) temp ≡ Some []
  empty_at one at is is_created =
      ap (λ (f : Files). get f temp) (is_created ∙ ap (λ p. created p (meaning.files start)) is) ∙ get-insert_same (meaning.files start) temp []

  pub open_at : (one : F) (mode : Opened) → mode ≡ Writing temp → get (meaning.files one) temp ≡ Some [] → get (meaning.files one) (written_path mode) ≡ Some []
  open_at one mode is empty = ap (λ (o : Opened). get (meaning.files one) (written_path o)) is ∙ empty

  pub after_write : (mid new : F) (mode : Opened) → get (meaning.files mid) temp ≡ Some [] → Leaves mid → mode ≡ Writing temp → Passes meaning (SomeFront (written_path mode) bytes) mid new → Leaves new
  after_write mid new mode empty so_far is call =
      goes_on meaning (IsOldOrNew temp path bytes (meaning.files start)) (SomeFront temp bytes) start mid new so_far
      (subst (λ (o : Opened). Passes meaning (SomeFront (written_path o) bytes) mid new) is call)
      (λ m part. write_part temp path bytes apart (meaning.files start) (meaning.files mid) m empty so_far.now part)

  pub after_flush : (mid new : F) → Leaves mid → Passes meaning Same mid new → Leaves new
  after_flush mid new so_far call =
      goes_on meaning (IsOldOrNew temp path bytes (meaning.files start)) Same start mid new so_far call
      (λ m part. flush_part temp path bytes apart (meaning.files start) (meaning.files mid) m so_far.now part)

  -- what stands in the temporary file once it is written
  pub whole : (one two : F) (mode : Opened) → get (meaning.files one) temp ≡ Some [] → mode ≡ Writing temp
      → meaning.files two ≡ appended (written_path mode) bytes (meaning.files one) → get (meaning.files two) temp ≡ Some bytes
  whole one two mode empty opened is_written =
      let none : bytes_at (meaning.files one) temp ≡ [] = ap (λ b. unwrap_or b []) empty in
      ap (λ (f : Files). get f temp) (is_written ∙ ap (λ (o : Opened). appended (written_path o) bytes (meaning.files one)) opened)
      ∙ get-insert_same (meaning.files one) temp (bytes_at (meaning.files one) temp ++ bytes) ∙ ap (λ (b : List ℕ). Some (b ++ bytes)) none

  pub after_rename : (mid new : F) (from to : List ℕ) → from ≡ temp → to ≡ path → Leaves mid → get (meaning.files mid) temp ≡ Some bytes
      → Passes meaning (AllOrNone (renamed from to)) mid new → Leaves new
  after_rename mid new from to from_is to_is so_far at call =
      goes_on meaning (IsOldOrNew temp path bytes (meaning.files start)) (AllOrNone (renamed temp path)) start mid new so_far
      (subst (λ (p : List ℕ × List ℕ). Passes meaning (AllOrNone (renamed p.0 p.1)) mid new) (λ i. (from_is i, to_is i)) call)
      (λ m part. rename_part temp path bytes apart (meaning.files start) (meaning.files mid) m so_far.now at part)

  pub is_saved : (mid new : F) (from to : List ℕ) → from ≡ temp → to ≡ path → Leaves mid → get (meaning.files mid) temp ≡ Some bytes
      → meaning.files new ≡ renamed from to (meaning.files mid) → IsSaved temp path bytes (meaning.files start) (meaning.files new)
  is_saved mid new from to from_is to_is so_far at done =
      subst (IsSaved temp path bytes (meaning.files start)) (sym (done ∙ (λ i. renamed (from_is i) (to_is i) (meaning.files mid))))
      (rename_whole temp path bytes apart (meaning.files start) (meaning.files mid) so_far.now at)
