-- What a save of the next checkpoint leaves.
use Rattle.std.proofs.Common.{◌≡◌, ◌≢◌, ◌⊎◌, inl, inr, ⊎_elim, ℕ, ◌<◌, ◌≤◌, ◌^◌, true, false, List, length, Option, Some, None, refl, sym, ◌∙◌, ap, subst, arith}
use Rattle.std.specs.Prelude.{is_some, Contains}
use Rattle.std.specs.FinMap.{get}
use Rattle.std.proofs.lemmas.Bool.{cases_lt}
use Rattle.lru_folder.specs.Files.{Files, Same}
use Rattle.lru_folder.specs.Folder.{LeavesOnly, Passes}
use Rattle.lru_folder.specs.Losses.{IsFromStart, Loses, LosesOnly, looking}
use Rattle.lru_folder.specs.Meaning.{Meaning}
use Rattle.lru_folder.specs.Names.{has_slash}
use Rattle.lru_folder.proofs.FilesLemmas.{alike}
use Rattle.lru_folder.proofs.LossLemmas.{then_loses, loses_on}
use Rattle.lru_folder.proofs.Moments.{then_run, goes_on}
use Rattle.lru_frames.specs.declared.mark.Mark.{Mark}
use Rattle.lru_frames.specs.declared.row.Row.{Row}
use Rattle.lru_folder.specs.SyncedNames.{IsIn}
use Rattle.lru_generations.specs.declared.manifest.Manifest as told
use Rattle.lru_generations.specs.declared.names.PartName.{PartName}
use Rattle.lru_generations.specs.declared.names.PartName.TheVariants.{Frame, Manifest}
use Rattle.lru_generations.specs.Listing.{IsTemp}
use Rattle.lru_generations.specs.Names.{IsPart, generation_of, part_path, part_text, manifest_path}
use Rattle.lru_generations.proofs.NameLaws.{has_slash-part_text}
use Rattle.lru_generations.specs.Touching.{IsSameBut, TouchesNothing, TouchesOnly}
use Rattle.lru_generations.specs.Checkpoints.{Shards, AreHandedOut, HasCheckpoint, HasNew, IsOldOrNew, IsPartOf, IsWhole, SavesCheckpoint}
use Rattle.lru_generations.proofs.Lists.{get-below, never}
use Rattle.lru_generations.proofs.Saved.{one_part, leaves_more, loses_more}
use Rattle.lru_generations.proofs.Taken.{taken_manifest}
use Rattle.lru_generations.specs.Newest.{IsHighestTaken, IsTakenAt}
use Rattle.lru_generations.specs.Saving.{AreNamed, IsForGood, IsLeft, IsNew, IsOld, IsOlder, IsSavedAfter, IsSurveyed, IsUnused, SavesAfter}

-- an option that is none of its values is none
none_or : {A : Type 0} (o : Option A) → ((x : A) → o ≡ Some x → ⊥) → o ≡ None
none_or None isn = refl
none_or (Some x) isn = absurd (isn x refl)

nothing_there : {A : Type 0} (x : A) (b : Option A) → b ≡ None → b ≡ Some x → ⊥
nothing_there x b none some = let f : ◌≡◌ {A = Option _} None (Some x) = sym none ∙ some in cc

-- what is told to be there is there
some_of : {A : Type 0} (o : Option A) → is_some o ≡ true → (x : A) × (o ≡ Some x)
some_of None h = absurd (never h)
some_of (Some x) h = (x, refl)

-- of two numbers one is below the other, or they are one
data Order (m n : ℕ) : Type 0 where
  Below : m < n → Order m n
  Alike : m ≡ n → Order m n
  Above : n < m → Order m n

order : (m n : ℕ) → Order m n
order m n = elim (cases_lt m n) [
  | inl lt ↦ Below lt
  | inr le ↦ elim (cases_lt n m) [
    | inl gt ↦ Above gt
    | inr ge ↦ Alike (omega (arith, le, ge))
  ]
]

-- an older part has a lower number than the one that is kept
older_so : (newest : Option ℕ) (part : PartName) → IsOlder newest part → (g : ℕ) → ((n : ℕ) → newest ≡ Some n → n ≤ g) → generation_of part ≡ g → ⊥
older_so None part older g high e = older
older_so (Some n) part older g high e = let low = high n refl in omega (arith, low, older, e)

-- what each loss leaves is told of the lost maps too
module _ {F : Type 0} (meaning : Meaning F) (P : Files → Files → Type 0) (old new : F) where
  abbrev Told : Files → Files → Type 0
  Told was m = meaning.lost_since old (meaning.clock old) was × P was m

  told_from : (m : Files) → IsFromStart meaning P old m → IsFromStart meaning Told old m
  told_from m h = (h.0, (h.1.0, (h.1.0, h.1.1)))

  pub with_lost : LosesOnly meaning P old new → LosesOnly meaning Told old new
  with_lost h = record {
    later = h.later;
    each = λ m s. told_from m (h.each m s);
    now = λ m s. told_from m (h.now m s);
    before = λ t m le s. ⊎_elim inl (λ from. inr (told_from m from)) (h.before t m le s);
  }

module _ {K V : Type 0} (key_bytes : K → List ℕ) (IsKey : K → Type 0) (data_bytes : V → List ℕ) (IsData : V → Type 0) (dir file_name : List ℕ)
    (HandsOut : ℕ → List (Row K V) → Type 0) (count : ℕ) (unslashed : has_slash file_name ≡ false) (known : Option told.Manifest) where
  abbrev Has : ℕ → Shards K V → Files → Type 0
  Has = HasCheckpoint key_bytes IsKey data_bytes IsData dir file_name

  abbrev New : ℕ → Files → Type 0
  New = HasNew key_bytes IsKey data_bytes IsData dir file_name HandsOut count

  abbrev path_of : PartName → List ℕ
  path_of part = part_path dir file_name part

  -- the files of a generation that is read are the same
  abbrev AreRead : ℕ → Files → Files → Type 0
  AreRead g a b = (part : PartName) → IsPart part → ¬ IsTemp part → generation_of part ≡ g → get b (path_of part) ≡ get a (path_of part)

  read_back : (g : ℕ) (a b : Files) → AreRead g a b → AreRead g b a
  read_back g a b h part is isn e = sym (h part is isn e)

  -- a checkpoint moves with its files
  moved : (g : ℕ) (shards : Shards K V) (a b : Files) → AreRead g a b → Has g shards a → Has g shards b
  moved g shards a b same h = record {
    marks = h.marks;
    numbers = h.numbers;
    few = h.few;
    manifest = same (Manifest g) h.numbers.generation (λ t. t) refl ∙ h.manifest;
    marked = h.marked;
    fits = h.fits;
    frames = λ shard rows at.
        let inside : shard < length shards = get-below shards shard rows at in
        same (Frame g shard) (h.numbers.generation, omega (arith, inside, h.marked.number, h.numbers.shards)) (λ t. t) refl ∙ h.frames shard rows at;
  }

  -- the same files have the same
  nothing_new : (found was m : Files) → IsSameBut (λ q. ⊥) was m → IsSavedAfter key_bytes IsKey data_bytes IsData dir file_name HandsOut count known found was m
  nothing_new found was m same =
      let stays : (g : ℕ) (shards : Shards K V) → Has g shards was → Has g shards m = λ g shards h. moved g shards was m (λ part is isn e. same (path_of part) (λ f. f)) h in
      record {
        stays = λ g shards h there. inl (stays g shards h);
        newest = λ g shards h there top. stays g shards h;
        comes = λ g shards h top. inl (moved g shards m was (λ part is isn e. sym (same (path_of part) (λ f. f))) h);
      }

  -- what a save found
  module _ (found : Files) (parts : List PartName) (newest : Option ℕ) (generation : ℕ) (low : generation < 2 ^ 64) (survey : IsSurveyed dir file_name found known parts newest generation) where
    abbrev Next : Files → Files → Type 0
    Next = IsSavedAfter key_bytes IsKey data_bytes IsData dir file_name HandsOut count known found

    abbrev Left : List ℕ → Type 0
    Left = IsLeft dir file_name parts

    abbrev Old : List ℕ → Type 0
    Old = IsOld dir file_name newest

    abbrev OldOrNew : Files → Files → Type 0
    OldOrNew = IsOldOrNew key_bytes IsKey data_bytes IsData dir file_name HandsOut count generation

    is_among : (part : PartName) → IsPart part → (bytes : List ℕ) → get found (path_of part) ≡ Some bytes → Contains parts part
    is_among part is bytes there = (survey.listed.there part is).1 (bytes, there)

    -- isn file of the new generation is there
    pub unused : IsUnused dir file_name found generation
    unused part is high =
        let isn : (bytes : List ℕ) → get found (path_of part) ≡ Some bytes → ⊥ = λ bytes there. let within = survey.above part (is_among part is bytes there) in omega (arith, within, high) in
        none_or (get found (path_of part)) isn

    named_manifest : (was : Files) → AreNamed dir found was → (g : ℕ) → g < 2 ^ 64 → (bytes : List ℕ) → get was (manifest_path dir file_name g) ≡ Some bytes → Contains parts (Manifest g)
    named_manifest was names g small bytes there =
        let path = manifest_path dir file_name g in
        let inside : IsIn dir path = (part_text file_name (Manifest g), (has_slash-part_text file_name (Manifest g) small ∙ unslashed, refl)) in
        let is = some_of (get found path) (sym (names path inside) ∙ ap is_some there) in
        is_among (Manifest g) small is.0 is.1

    -- so it has a lower number
    lower : (was : Files) → AreNamed dir found was → (g : ℕ) (shards : Shards K V) → Has g shards was → g < generation
    lower was names g shards h = survey.above (Manifest g) (named_manifest was names g h.numbers.generation _ h.manifest)

    -- a part that is read of a generation whose manifest is there is none of those left
    not_left : (g : ℕ) → Contains parts (Manifest g) → (part : PartName) → IsPart part → ¬ IsTemp part → generation_of part ≡ g → ¬ Left (path_of part)
    not_left g there part is isn e h =
        let same : part ≡ h.0 = one_part dir file_name part h.0 is (survey.listed.fits h.0 h.1.0.0) h.1.1 in
        ⊎_elim
        (λ temp. isn (subst IsTemp (sym same) temp))
        (λ lost. lost (subst (λ (n : ℕ). Contains parts (Manifest n)) (sym e ∙ ap generation_of same) there)) h.1.0.1

    -- nor is a manifest, or a file of the new generation
    no_manifest_left : (g : ℕ) → g < 2 ^ 64 → ¬ Left (manifest_path dir file_name g)
    no_manifest_left g small h =
        let same : Manifest g ≡ h.0 = one_part dir file_name (Manifest g) h.0 small (survey.listed.fits h.0 h.1.0.0) h.1.1 in
        ⊎_elim (λ temp. let t : IsTemp (Manifest g) = subst IsTemp (sym same) temp in t)
        (λ lost. lost (subst (λ (p : PartName). Contains parts p) (sym same ∙ ap (λ (n : ℕ). Manifest n) (ap generation_of same)) h.1.0.0)) h.1.0.1

    -- what stands beside the new generation
    apart : (g : ℕ) → g ≢ generation → (part : PartName) → IsPart part → generation_of part ≡ g → ¬ IsPartOf dir file_name generation (path_of part)
    apart g other part is e h =
        let same : part ≡ h.0 = one_part dir file_name part h.0 is h.1.0 h.1.1.1 in
        other (sym e ∙ ap generation_of same ∙ h.1.1.0)

    -- leftovers are gone, and then the new checkpoint is saved
    abbrev Saved : Files → Files → Type 0
    Saved was m = (then : Files) × (IsSameBut Left was then × OldOrNew then m)

    module _ (was m : Files) (names : AreNamed dir found was) (saved : Saved was m) where
      abbrev middle : Files
      middle = saved.0

      kept : (g : ℕ) → Contains parts (Manifest g) → AreRead g was middle
      kept g there part is isn e = saved.1.0 (path_of part) (not_left g there part is isn e)

      beside : (g : ℕ) → g ≢ generation → AreRead g middle m
      beside g other part is isn e = saved.1.1.others (path_of part) (apart g other part is e)

      pub stays_so : (g : ℕ) (shards : Shards K V) → Has g shards was → Has g shards m
      stays_so g shards h =
          let there = named_manifest was names g h.numbers.generation _ h.manifest in
          let other : g ≢ generation = λ e. absurd (omega (arith, lower was names g shards h, e)) in
          moved g shards middle m (beside g other) (moved g shards was middle (kept g there) h)

      back : (g : ℕ) (shards : Shards K V) → g ≢ generation → Has g shards m → Has g shards was ⊎ ((g ≡ generation) × New generation m)
      back g shards other h =
          let then = moved g shards m middle (read_back g middle m (beside g other)) h in
          let stood : get was (manifest_path dir file_name g) ≡ Some _ = sym (saved.1.0 (manifest_path dir file_name g) (no_manifest_left g h.numbers.generation)) ∙ then.manifest in
          let there = named_manifest was names g h.numbers.generation _ stood in
          inl (moved g shards middle was (read_back g was middle (kept g there)) then)

      pub comes_so : (g : ℕ) (shards : Shards K V) → Has g shards m → Has g shards was ⊎ ((g ≡ generation) × New generation m)
      comes_so g shards h = elim (order g generation) [
        | Alike e ↦ ⊎_elim
            (λ is.
            let path = manifest_path dir file_name generation in
            let stood : get was path ≡ Some _ = sym (saved.1.0 path (no_manifest_left generation low)) ∙ sym is ∙ ap (λ (n : ℕ). get m (manifest_path dir file_name n)) (sym e) ∙ h.manifest in
            let within = survey.above (Manifest generation) (named_manifest was names generation low _ stood) in
            absurd (omega (arith, within)))
            (λ new. inr (e, new)) saved.1.1.checkpoint
        | Below lt ↦ back g shards (λ e. absurd (omega (arith, lt, e))) h
        | Above gt ↦ back g shards (λ e. absurd (omega (arith, gt, e))) h
      ]

      pub next_saved_so : Next was m
      next_saved_so = record {
        stays = λ g shards h there. inl (stays_so g shards h);
        newest = λ g shards h there top. stays_so g shards h;
        comes = λ g shards h top. ⊎_elim inl (λ is. inr (subst (λ (n : ℕ). IsUnused dir file_name found n) (sym is.0) unused, subst (λ (n : ℕ). New n m) (sym is.0) is.1)) (comes_so g shards h);
      }

    -- the newest whole generation, and all above it, are none of those
    not_old : (g : ℕ) → ((n : ℕ) → newest ≡ Some n → n ≤ g) → (part : PartName) → IsPart part → generation_of part ≡ g → ¬ Old (path_of part)
    not_old g high part is e h =
        let same : part ≡ h.0 = one_part dir file_name part h.0 is h.1.0.0 h.1.1 in
        older_so newest h.0 h.1.0.1 g high (sym (ap generation_of same) ∙ e)

    -- the kept one is below the new one
    kept_below : (n : ℕ) → newest ≡ Some n → n ≤ generation
    kept_below n is =
        let taken : IsTakenAt dir file_name found known n = (subst (λ (o : Option ℕ). IsHighestTaken dir file_name found known o) is survey.top).0 in
        let at = taken_manifest dir file_name known n taken.0 found taken.1 in
        let within = survey.above (Manifest n) (is_among (Manifest n) at.numbers.generation _ at.manifest) in
        omega (arith, within)

    -- a generation that is the highest that is taken for whole is the one that is kept
    is_kept : (g : ℕ) → IsHighestTaken dir file_name found known (Some g) → (n : ℕ) → newest ≡ Some n → n ≤ g
    is_kept g top n is = elim (cases_lt g n) [
      | inl lt ↦ absurd (top.1 n lt (subst (λ (o : Option ℕ). IsHighestTaken dir file_name found known o) is survey.top).0)
      | inr le ↦ le
    ]

    standing : (then m : Files) → IsSameBut Old then m → (g : ℕ) → ((n : ℕ) → newest ≡ Some n → n ≤ g) → AreRead g then m
    standing then m gone g high part is isn e = gone (path_of part) (not_old g high part is e)

    -- what the manifest of the new one tells is whole still where what is older is gone
    pub whole_kept : (marks : List Mark) (then m : Files) → IsSameBut Old then m → IsWhole dir file_name generation marks then → IsWhole dir file_name generation marks m
    whole_kept marks then m gone h =
        let same : AreRead generation then m = standing then m gone generation kept_below in
        record {
          numbers = h.numbers;
          few = h.few;
          manifest = same (Manifest generation) h.numbers.generation (λ t. t) refl ∙ h.manifest;
          frames = λ shard mark at.
              let one = h.frames shard mark at in
              let small : shard < 2 ^ 64 = omega (arith, get-below marks shard mark at, h.numbers.shards) in
              (one.0, (same (Frame generation shard) (h.numbers.generation, small) (λ t. t) refl ∙ one.1.0, one.1.1));
        }

    -- and what is older than the one that is kept is gone, once the new one is there for good
    module _ (shards : Shards K V) (handed : AreHandedOut HandsOut count shards) (was then m : Files) (names : AreNamed dir found was) (saved : Saved was then) (it : Has generation shards then) (gone : IsSameBut Old then m) where
      here : Has generation shards m
      here = moved generation shards then m (standing then m gone generation kept_below) it

      new_here : IsNew key_bytes IsKey data_bytes IsData dir file_name HandsOut count found generation m
      new_here = (unused, (shards, (handed, here)))

      pub next_all_so : Next was m
      next_all_so = record {
        stays = λ g rows h there. inr (generation, new_here);
        newest = λ g rows h there top. moved g rows then m (standing then m gone g (is_kept g top)) (stays_so was then names saved g rows h);
        comes = λ g rows h top. elim (order g generation) [
          | Below lt ↦ absurd (top generation shards lt here)
          | Alike e ↦ inr (subst (λ (n : ℕ). IsNew key_bytes IsKey data_bytes IsData dir file_name HandsOut count found n m) (sym e) new_here)
          | Above gt ↦
              let high : (n : ℕ) → newest ≡ Some n → n ≤ g = λ n is. omega (arith, kept_below n is, gt) in
              ⊎_elim inl (λ is. absurd (omega (arith, is.0, gt))) (comes_so was then names saved g rows (moved g rows m then (read_back g then m (standing then m gone g high)) h))
        ];
      }

    -- the runs of a save, one after the other
    module _ {F : Type 0} (meaning : Meaning F) (start one : F) (found_is : meaning.files start ≡ found) (looked : TouchesNothing meaning start one)
        (named : (m : Files) → meaning.lost_since one (meaning.clock one) m → AreNamed dir found m) where
      abbrev Saves : F → Type 0
      Saves = SavesAfter key_bytes IsKey data_bytes IsData dir file_name HandsOut count known meaning start

      names_here : AreNamed dir found found
      names_here q inside = refl

      same_files : (was m : Files) → IsSameBut (λ q. ⊥) was m → m ≡ was
      same_files was m same = alike m was (λ q. same q (λ f. f))

      -- what a loss leaves from the survey on is so from the start on
      losses : (new : F) → LosesOnly meaning (λ was m. meaning.lost_since one (meaning.clock one) was × Next was m) one new → LosesOnly meaning Next start new
      losses new h = then_loses meaning (IsSameBut (λ q. ⊥)) (λ was m. meaning.lost_since one (meaning.clock one) was × Next was m) Next start one new looked.any_loss h
          (λ was m same. nothing_new found was m same)
          (λ was then m same next. subst (λ (f : Files). Next f m) (same_files was then same) next.1)

      from_found : (P : Files → Type 0) → P found → P (meaning.files start)
      from_found P h = subst P (sym found_is) h

      abbrev Moment : Files → Type 0
      Moment m = IsSavedAfter key_bytes IsKey data_bytes IsData dir file_name HandsOut count known (meaning.files start) (meaning.files start) m

      moment : (m : Files) → Next found m → Moment m
      moment m h = subst (λ (f : Files). IsSavedAfter key_bytes IsKey data_bytes IsData dir file_name HandsOut count known f f m) (sym found_is) h

      loss_so : (new : F) → LosesOnly meaning Next start new → LosesOnly meaning (IsSavedAfter key_bytes IsKey data_bytes IsData dir file_name HandsOut count known (meaning.files start)) start new
      loss_so new h = subst (λ (f : Files). LosesOnly meaning (IsSavedAfter key_bytes IsKey data_bytes IsData dir file_name HandsOut count known f) start new) (sym found_is) h

      first : LeavesOnly meaning Moment start one
      first = leaves_more meaning (IsSameBut (λ q. ⊥) (meaning.files start)) Moment
          (λ m same. nothing_new (meaning.files start) (meaning.files start) m same) start one looked.any_moment

      -- leftovers are removed
      module _ (two : F) (removed : TouchesOnly meaning Left one two) where
        left_saved : (was m : Files) → IsSameBut Left was m → Saved was m
        left_saved was m h = (m, (h, record { checkpoint = inl refl; others = λ q other. refl }))

        one_found : meaning.files one ≡ found
        one_found = same_files (meaning.files start) (meaning.files one) looked.any_moment.now ∙ found_is

        left_moment : (m : Files) → IsSameBut Left (meaning.files one) m → Moment m
        left_moment m h = moment m (next_saved_so found m names_here (left_saved found m (subst (λ (f : Files). IsSameBut Left f m) one_found h)))

        two_moments : LeavesOnly meaning Moment start two
        two_moments = then_run meaning Moment (IsSameBut Left (meaning.files one)) Moment start one two first removed.any_moment (λ m h. h) left_moment

        two_losses : LosesOnly meaning Saved one two
        two_losses = loses_more meaning (IsSameBut Left) Saved left_saved one two removed.any_loss

        told_next : (new : F) → LosesOnly meaning Saved one new → LosesOnly meaning Next start new
        told_next new h = losses new
            (loses_more meaning (λ was m. meaning.lost_since one (meaning.clock one) was × Saved was m) (λ was m. meaning.lost_since one (meaning.clock one) was × Next was m)
            (λ was m s. (s.0, next_saved_so was m (named was s.0) s.1)) one new (with_lost meaning Saved one new h))

        pub next_left : Saves two
        next_left = record { any_moment = two_moments; any_loss = loss_so two (told_next two two_losses) }

        -- the new checkpoint is saved, or not
        module _ (three : F) (saves : SavesCheckpoint key_bytes IsKey data_bytes IsData dir file_name HandsOut count meaning generation two three) where
          then_saved : (was then m : Files) → IsSameBut Left was then → OldOrNew then m → Saved was m
          then_saved was then m h n = (then, (h, n))

          two_left : IsSameBut Left found (meaning.files two)
          two_left = subst (λ (f : Files). IsSameBut Left f (meaning.files two)) one_found removed.any_moment.now

          three_moments : LeavesOnly meaning Moment start three
          three_moments = then_run meaning Moment (OldOrNew (meaning.files two)) Moment start two three two_moments saves.any_moment (λ m h. h)
              (λ m h. moment m (next_saved_so found m names_here (then_saved found (meaning.files two) m two_left h)))

          three_losses : LosesOnly meaning Saved one three
          three_losses = then_loses meaning (IsSameBut Left) OldOrNew Saved one two three removed.any_loss saves.any_loss left_saved then_saved

          pub next_saved : Saves three
          next_saved = record { any_moment = three_moments; any_loss = loss_so three (told_next three three_losses) }

          -- and what is older is removed
          module _ (new : F) (shards : Shards K V) (handed : AreHandedOut HandsOut count shards) (there : Has generation shards (meaning.files three))
              (good : (m : Files) → meaning.lost_since three (meaning.clock three) m → Has generation shards m) (last : TouchesOnly meaning Old three new) where
            three_saved : Saved found (meaning.files three)
            three_saved = then_saved found (meaning.files two) (meaning.files three) two_left saves.any_moment.now

            all_moments : LeavesOnly meaning Moment start new
            all_moments = then_run meaning Moment (IsSameBut Old (meaning.files three)) Moment start three new three_moments last.any_moment (λ m h. h)
                (λ m h. moment m (next_all_so shards handed found (meaning.files three) m names_here three_saved there h))

            abbrev At_end : Files → Files → Type 0
            At_end was m = Saved was m ⊎ ((then : Files) × (Saved was then × (meaning.lost_since three (meaning.clock three) then × IsSameBut Old then m)))

            all_losses : LosesOnly meaning At_end one new
            all_losses = then_loses meaning Saved (λ was m. meaning.lost_since three (meaning.clock three) was × IsSameBut Old was m) At_end one three new three_losses
                (with_lost meaning (IsSameBut Old) three new last.any_loss) (λ was m s. inl s) (λ was then m s old. inr (then, (s, (old.0, old.1))))

            end_so : (was m : Files) → meaning.lost_since one (meaning.clock one) was × At_end was m → meaning.lost_since one (meaning.clock one) was × Next was m
            end_so was m h = (
              h.0,
              ⊎_elim (λ s. next_saved_so was m (named was h.0) s)
                  (λ s. next_all_so shards handed was s.0 m (named was h.0) s.1.0 (good s.0 s.1.1.0) s.1.1.1) h.1,
            )

            pub next_all : Saves new
            next_all = record {
              any_moment = all_moments;
              any_loss = loss_so new (losses new (loses_more meaning (λ was m. meaning.lost_since one (meaning.clock one) was × At_end was m)
                  (λ was m. meaning.lost_since one (meaning.clock one) was × Next was m) end_so one new (with_lost meaning At_end one new all_losses)));
            }

            -- each loss leaves the new one
            pub still_good : IsForGood key_bytes IsKey data_bytes IsData dir file_name meaning generation shards new
            still_good m lost =
                let was = last.any_loss.now m lost in
                moved generation shards was.0 m (standing was.0 m was.1.1 generation kept_below) (good was.0 was.1.0)

  -- where nothing is touched
  pub next_nothing : {F : Type 0} (meaning : Meaning F) (start new : F) → TouchesNothing meaning start new → SavesAfter key_bytes IsKey data_bytes IsData dir file_name HandsOut count known meaning start new
  next_nothing meaning start new looked = record {
    any_moment = leaves_more meaning (IsSameBut (λ q. ⊥) (meaning.files start)) (IsSavedAfter key_bytes IsKey data_bytes IsData dir file_name HandsOut count known (meaning.files start) (meaning.files start))
        (λ m same. nothing_new (meaning.files start) (meaning.files start) m same) start new looked.any_moment;
    any_loss = loses_more meaning (IsSameBut (λ q. ⊥)) (IsSavedAfter key_bytes IsKey data_bytes IsData dir file_name HandsOut count known (meaning.files start))
        (λ was m same. nothing_new (meaning.files start) was m same) start new looked.any_loss;
  }

  -- a call more that only looks
  pub next_looked : {F : Type 0} (meaning : Meaning F) (start mid new : F) → SavesAfter key_bytes IsKey data_bytes IsData dir file_name HandsOut count known meaning start mid → Passes meaning Same mid new
      → Loses meaning looking mid new → SavesAfter key_bytes IsKey data_bytes IsData dir file_name HandsOut count known meaning start new
  next_looked meaning start mid new so_far time loss =
      let R = IsSavedAfter key_bytes IsKey data_bytes IsData dir file_name HandsOut count known (meaning.files start) in
      record {
        any_moment = goes_on meaning (R (meaning.files start)) Same start mid new so_far.any_moment time (λ m is. subst (R (meaning.files start)) (sym is) so_far.any_moment.now);
        any_loss = loses_on meaning R looking start mid new time.later so_far.any_loss loss (λ m none. absurd none);
      }
