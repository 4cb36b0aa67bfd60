-- A generation that has its manifest has its frames, at every moment of a save.
use Rattle.std.proofs.Common.{◌≡◌, ◌≢◌, ⊎_elim, ℕ, ◌<◌, ◌^◌, List, Option, Some, None, Result, Ok, Err, refl, sym, ◌∙◌, ap, subst, arith}
use Rattle.std.specs.Prelude.{◌↔◌, Contains, IfErr, IsSome}
use Rattle.std.specs.FinMap.{get}
use Rattle.lru_folder.specs.Files.{Files, Same}
use Rattle.lru_folder.specs.Folder.{LeavesOnly, Passes}
use Rattle.lru_folder.specs.Meaning.{Meaning}
use Rattle.lru_folder.proofs.Moments.{goes_on, then_run}
use Rattle.lru_generations.specs.declared.manifest.Manifest as told
use Rattle.lru_generations.specs.declared.names.PartName.{PartName}
use Rattle.lru_generations.specs.declared.names.PartName.TheVariants.{Frame, Manifest, Temp}
use Rattle.lru_generations.specs.Listing.{IsAnyManifest, IsTemp}
use Rattle.lru_generations.specs.Names.{IsPart, generation_of, part_path, frame_path, manifest_path}
use Rattle.lru_generations.specs.Touching.{IsSameBut, TouchesNothing, TouchesOnly}
use Rattle.lru_generations.specs.Checkpoints.{IsPartOf}
use Rattle.lru_generations.proofs.Saved.{one_part, leaves_more}
use Rattle.lru_generations.proofs.Taken.{taken_manifest}
use Rattle.lru_generations.specs.Manifests.{manifest_bytes}
use Rattle.lru_generations.specs.Newest.{HasManifest, IsHighestTaken}
use Rattle.lru_generations.specs.declared.errors.CheckpointError.{CheckpointError}
use Rattle.lru_generations.specs.Removing.{IsPathOf, NamesOnly}
use Rattle.lru_generations.specs.Saving.{IsLeft, IsOlder, IsSurveyed, KeepsFrames, NamesOlder}

nothing_there : {A : Type 0} (x : A) (b : Option A) → b ≡ None → b ≡ Some x → ⊥
nothing_there x b none some = let f : ◌≡◌ {A = Option _} None (Some x) = sym none ∙ some in cc

none_or : {A : Type 0} (o : Option A) → ((x : A) → o ≡ Some x → ⊥) → o ≡ None
none_or None isn = refl
none_or (Some x) isn = absurd (isn x refl)

module _ (dir file_name : List ℕ) where
  -- where manifests alone are removed, each frame stays
  pub frames_stay : (files : Files) (manifests : List PartName) → ((part : PartName) → Contains manifests part → IsPart part × IsAnyManifest part) → (m : Files) → IsSameBut (IsPathOf dir file_name manifests) files m
      → (g s : ℕ) → g < 2 ^ 64 → s < 2 ^ 64 → get m (frame_path dir file_name g s) ≡ get files (frame_path dir file_name g s)
  frames_stay files manifests are m same g s low small =
      let apart : ¬ IsPathOf dir file_name manifests (frame_path dir file_name g s) = λ h.
      let is = are h.0 h.1.0 in
      let e : Frame g s ≡ h.0 = one_part dir file_name (Frame g s) h.0 (low, small) is.0 h.1.1 in
      let no : IsAnyManifest (Frame g s) = subst IsAnyManifest (sym e) is.1 in no in
      same (frame_path dir file_name g s) apart

  -- and where frames are removed of generations whose manifests are gone, each generation that has its manifest keeps its frames
  pub others_gone : (files mid : Files) (others : List PartName) → ((part : PartName) → Contains others part → IsPart part × (¬ IsAnyManifest part))
      → ((g s : ℕ) → g < 2 ^ 64 → s < 2 ^ 64 → get mid (frame_path dir file_name g s) ≡ get files (frame_path dir file_name g s))
      → ((part : PartName) → Contains others part → HasManifest dir file_name files (generation_of part) → get mid (manifest_path dir file_name (generation_of part)) ≡ None)
      → (m : Files) → IsSameBut (IsPathOf dir file_name others) mid m → KeepsFrames dir file_name files m
  others_gone files mid others are stay gone m same g s low small had has =
      let apart : ¬ IsPathOf dir file_name others (frame_path dir file_name g s) = λ h.
      let is = are h.0 h.1.0 in
      let e : Frame g s ≡ h.0 = one_part dir file_name (Frame g s) h.0 (low, small) is.0 h.1.1 in
      let none : get mid (manifest_path dir file_name g) ≡ None = subst (λ (n : ℕ). HasManifest dir file_name files n → get mid (manifest_path dir file_name n) ≡ None) (sym (ap generation_of e)) (gone h.0 h.1.0) had in
      let untouched : ¬ IsPathOf dir file_name others (manifest_path dir file_name g) = λ j.
      let other = are j.0 j.1.0 in
      let f : Manifest g ≡ j.0 = one_part dir file_name (Manifest g) j.0 low other.0 j.1.1 in
      other.1 (subst IsAnyManifest f tt) in
      nothing_there has.0 (get m (manifest_path dir file_name g)) (same (manifest_path dir file_name g) untouched ∙ none) has.1 in
      same (frame_path dir file_name g s) apart ∙ stay g s low small

  -- what is gone stays so where more is removed
  pub still_gone : (mid m : Files) (others : List PartName) → IsSameBut (IsPathOf dir file_name others) mid m → ((part : PartName) → Contains others part → get m (part_path dir file_name part) ≡ None)
      → (q : List ℕ) → get mid q ≡ None → get m q ≡ None
  still_gone mid m others same gone q none =
      let absent : (x : List ℕ) → get m q ≡ Some x → ⊥ = λ x there.
      let apart : ¬ IsPathOf dir file_name others q = λ h. nothing_there x (get m q) (ap (λ (p : List ℕ). get m p) h.1.1 ∙ gone h.0 h.1.0) there in
      nothing_there x (get m q) (same q apart ∙ none) there in
      none_or (get m q) absent

  -- so all of them are gone
  pub all_gone : (mid m : Files) (older manifests others : List PartName) → ((part : PartName) → Contains manifests part ↔ (Contains older part × IsAnyManifest part))
      → ((part : PartName) → Contains others part ↔ (Contains older part × (¬ IsAnyManifest part))) → ((part : PartName) → Contains manifests part → get mid (part_path dir file_name part) ≡ None)
      → IsSameBut (IsPathOf dir file_name others) mid m → ((part : PartName) → Contains others part → get m (part_path dir file_name part) ≡ None)
      → (part : PartName) → Contains older part → get m (part_path dir file_name part) ≡ None
  all_gone mid m older manifests others is_manifest is_other first same gone (Frame g s) there = gone (Frame g s) ((is_other (Frame g s)).1 (there, λ none. none))
  all_gone mid m older manifests others is_manifest is_other first same gone (Manifest g) there =
      still_gone mid m others same gone (manifest_path dir file_name g) (first (Manifest g) ((is_manifest (Manifest g)).1 (there, tt)))
  all_gone mid m older manifests others is_manifest is_other first same gone (Temp g) there = gone (Temp g) ((is_other (Temp g)).1 (there, λ none. none))

-- the number of a part
pub small_number : (part : PartName) → IsPart part → generation_of part < 2 ^ 64
small_number (Frame g s) is = is.0
small_number (Manifest g) is = is
small_number (Temp g) is = is

-- an error that names one of some older parts
pub names_older : (kept : Option ℕ) (newest : ℕ) → kept ≡ Some newest → (parts : List PartName) → ((part : PartName) → Contains parts part → generation_of part < newest)
    → (error : CheckpointError) → NamesOnly parts error → NamesOlder kept error
names_older kept newest is parts low error named = (
  subst (λ (o : Option ℕ). IsSome o) (sym is) refl,
  (parts, (λ part there. subst (λ (o : Option ℕ). IsOlder o part) (sym is) (low part there), named)),
)

-- what follows of a failure
pub on_err : {T E : Type 0} (r : Result T E) (P Q : E → Type 0) → ((error : E) → P error → Q error) → IfErr r P → IfErr r Q
on_err (Ok done) P Q then p = p
on_err (Err error) P Q then p = then error p

module _ {F : Type 0} (meaning : Meaning F) (dir file_name : List ℕ) (start one : F) (looked : TouchesNothing meaning start one) where
  abbrev Keeps : Files → Type 0
  Keeps m = KeepsFrames dir file_name (meaning.files start) m

  -- where nothing is touched
  pub kept_nothing : LeavesOnly meaning Keeps start one
  kept_nothing = leaves_more meaning (IsSameBut (λ q. ⊥) (meaning.files start)) Keeps (λ m same g s low small had has. same (frame_path dir file_name g s) (λ f. f)) start one looked.any_moment

  module _ (known : Option told.Manifest) (parts : List PartName) (newest : Option ℕ) (generation : ℕ) (survey : IsSurveyed dir file_name (meaning.files start) known parts newest generation) where
    abbrev found : Files
    found = meaning.files start

    abbrev Left : List ℕ → Type 0
    Left = IsLeft dir file_name parts

    listed : (g : ℕ) → g < 2 ^ 64 → HasManifest dir file_name found g → Contains parts (Manifest g)
    listed g small had = (survey.listed.there (Manifest g) small).1 had

    frame_left : (g s : ℕ) → g < 2 ^ 64 → s < 2 ^ 64 → HasManifest dir file_name found g → ¬ Left (frame_path dir file_name g s)
    frame_left g s low small had h =
        let e : Frame g s ≡ h.0 = one_part dir file_name (Frame g s) h.0 (low, small) (survey.listed.fits h.0 h.1.0.0) h.1.1 in
        ⊎_elim (λ temp. let t : IsTemp (Frame g s) = subst IsTemp (sym e) temp in t)
        (λ lost. lost (subst (λ (n : ℕ). Contains parts (Manifest n)) (ap generation_of e) (listed g low had))) h.1.0.1

    manifest_left : (g : ℕ) → g < 2 ^ 64 → ¬ Left (manifest_path dir file_name g)
    manifest_left g small h =
        let e : Manifest g ≡ h.0 = one_part dir file_name (Manifest g) h.0 small (survey.listed.fits h.0 h.1.0.0) h.1.1 in
        ⊎_elim (λ temp. let t : IsTemp (Manifest g) = subst IsTemp (sym e) temp in t)
        (λ lost. lost (subst (λ (p : PartName). Contains parts p) (sym e ∙ ap (λ (n : ℕ). Manifest n) (ap generation_of e)) h.1.0.0)) h.1.0.1

    apart : (part : PartName) → IsPart part → generation_of part ≢ generation → ¬ IsPartOf dir file_name generation (part_path dir file_name part)
    apart part is other h = let e : part ≡ h.0 = one_part dir file_name part h.0 is h.1.0 h.1.1.1 in other (ap generation_of e ∙ h.1.1.0)

    -- a generation that had its manifest is below the new one
    lower : (g : ℕ) → g < 2 ^ 64 → HasManifest dir file_name found g → g ≢ generation
    lower g small had e = let lt = survey.above (Manifest g) (listed g small had) in absurd (omega (arith, lt, e))

    -- one that is older than the highest that is taken for whole is below it too
    low_of : (kept : Option ℕ) → IsHighestTaken dir file_name found known kept → (n : ℕ) → IsOlder kept (Manifest n) → n ≢ generation
    low_of None top n older e = absurd older
    low_of (Some whole) top n older e =
        let at = taken_manifest dir file_name known whole top.0.0 found top.0.1 in
        let lt = survey.above (Manifest whole) (listed whole at.numbers.generation (manifest_bytes whole top.0.0, at.manifest)) in
        absurd (omega (arith, lt, older, e))

    pub older_apart : (n : ℕ) → IsOlder newest (Manifest n) → n ≢ generation
    older_apart n older = low_of newest survey.top n older

    -- leftovers are removed
    module _ (two : F) (removed : TouchesOnly meaning Left one two) where
      one_is : (q : List ℕ) → get (meaning.files one) q ≡ get found q
      one_is q = looked.any_moment.now q (λ f. f)

      pub kept_left : LeavesOnly meaning Keeps start two
      kept_left = then_run meaning Keeps (IsSameBut Left (meaning.files one)) Keeps start one two kept_nothing removed.any_moment (λ m h. h)
          (λ m h g s low small had has. h (frame_path dir file_name g s) (frame_left g s low small had) ∙ one_is (frame_path dir file_name g s))

      two_is : (q : List ℕ) → ¬ Left q → get (meaning.files two) q ≡ get found q
      two_is q isn = removed.any_moment.now q isn ∙ one_is q

      -- the new checkpoint is saved, or not
      abbrev Beside : Files → Type 0
      Beside m = (q : List ℕ) → ¬ IsPartOf dir file_name generation q → get m q ≡ get (meaning.files two) q

      module _ (three : F) (saves : LeavesOnly meaning Beside two three) where
        same_frame : (m : Files) → Beside m → (g s : ℕ) → g < 2 ^ 64 → s < 2 ^ 64 → HasManifest dir file_name found g → get m (frame_path dir file_name g s) ≡ get found (frame_path dir file_name g s)
        same_frame m beside g s low small had = beside (frame_path dir file_name g s) (apart (Frame g s) (low, small) (lower g low had)) ∙ two_is (frame_path dir file_name g s) (frame_left g s low small had)

        same_manifest : (m : Files) → Beside m → (g : ℕ) → g < 2 ^ 64 → g ≢ generation → get m (manifest_path dir file_name g) ≡ get found (manifest_path dir file_name g)
        same_manifest m beside g low other = beside (manifest_path dir file_name g) (apart (Manifest g) low other) ∙ two_is (manifest_path dir file_name g) (manifest_left g low)

        pub kept_saved : LeavesOnly meaning Keeps start three
        kept_saved = then_run meaning Keeps Beside Keeps start two three kept_left saves (λ m h. h) (λ m h g s low small had has. same_frame m h g s low small had)

        -- each manifest then, but the new one, is among the parts
        pub among_three : (g : ℕ) → g < 2 ^ 64 → g ≢ generation → HasManifest dir file_name (meaning.files three) g → Contains parts (Manifest g)
        among_three g small other has = listed g small (has.0, sym (same_manifest (meaning.files three) saves.now g small other) ∙ has.1)

        -- and what is older is removed
        module _ (new : F) (last : LeavesOnly meaning (KeepsFrames dir file_name (meaning.files three)) three new) where
          pub kept_all : LeavesOnly meaning Keeps start new
          kept_all = then_run meaning Keeps (KeepsFrames dir file_name (meaning.files three)) Keeps start three new kept_saved last (λ m h. h)
              (λ m h g s low small had has.
              let there : HasManifest dir file_name (meaning.files three) g = (had.0, same_manifest (meaning.files three) saves.now g low (lower g low had) ∙ had.1) in
              h g s low small there has ∙ same_frame (meaning.files three) saves.now g s low small had)

module _ {F : Type 0} (meaning : Meaning F) (dir file_name : List ℕ) (start : F) where
  -- a call more that only looks
  pub kept_looked : (mid new : F) → LeavesOnly meaning (KeepsFrames dir file_name (meaning.files start)) start mid → Passes meaning Same mid new → LeavesOnly meaning (KeepsFrames dir file_name (meaning.files start)) start new
  kept_looked mid new so_far time = goes_on meaning (KeepsFrames dir file_name (meaning.files start)) Same start mid new so_far time (λ m is. subst (KeepsFrames dir file_name (meaning.files start)) (sym is) so_far.now)
