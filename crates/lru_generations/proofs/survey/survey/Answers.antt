use Rattle.std.proofs.Common.{rules, ◌≡◌, ◌<◌, inl, inr, ⊎_elim, ℕ, List, sym, ◌∙◌, subst}
use Rattle.std.specs.Prelude.{AllPairs, Contains, option_copied}
use Rattle.lru_folder.specs.Files.{Files}
use Rattle.lru_folder.specs.Meaning.{Meaning}
use Rattle.lru_generations.specs.declared.names.PartName.{PartName}
use Rattle.lru_generations.specs.declared.names.PartName.TheVariants.{Manifest}
use Rattle.lru_generations.specs.Listing.{HasParts, IsAbove}
use Rattle.lru_generations.proofs.Touched.{touches_started, touches_then, touches_looked}
use Rattle.lru_generations.specs.Newest.{AreGenerations, HasAllManifests, IsHighestTaken}
use Rattle.lru_generations.specs.declared.errors.CheckpointError.{CheckpointError}
use Rattle.lru_generations.specs.Saving.{HasReasonOrIsInUse, IsUnsaved}
use Rattle.lru_generations.proofs.ForGood.{save_fault}
use Rattle.lru_generations.proofs.survey.survey.Goals as goal

-- why a folder was not claimed is why nothing is saved
unclaimed : {F : Type 0} (meaning : Meaning F) (dir file_name : List ℕ) (old new : F) (error : CheckpointError) → HasReasonOrIsInUse meaning dir file_name 0 old new error → IsUnsaved error
unclaimed meaning dir file_name old new error why = ⊎_elim (λ fault. inl (save_fault meaning dir file_name 0 old new error fault)) (λ used. inr (inl used)) why

pub returns-in_err-claim-clause-error : goal.returns-in_err-claim-clause-error
returns-in_err-claim-clause-error g c k =
    let why = unclaimed g.F.Folder.meaning c.args.dir.now c.args.file_name.now c.args.folder.now c.claim.new.folder _ (c.in_err-claim.ensures.reason k c.args.file_name.now 0) in
    search (rules, why)

pub returns-in_err-sync_names-clause-error : goal.returns-in_err-sync_names-clause-error
returns-in_err-sync_names-clause-error g c k =
    let m : Meaning _ = g.F.Folder.meaning in
    let none : List ℕ → Type 0 = λ q. ⊥ in
    let start = c.args.folder.now in
    let one = c.claim.new.folder in
    let k-1 = c.claim.ensures.kept.0 k in
    let looked = touches_looked m none start start one (touches_started m none start k) (c.claim.ensures.time k) (c.claim.ensures.loss k) in
    let two = c.parts_of.new.folder in
    let k-2 = c.parts_of.ensures.kept.0 k-1 in
    let listed = touches_then m none start one two looked (c.parts_of.ensures.touches k-1) in
    let three = c.newest_whole.new.folder in
    let k-3 = c.newest_whole.ensures.kept.0 k-2 in
    let read = touches_then m none start two three listed (c.newest_whole.ensures.touches k-2) in
    let why = save_fault m c.args.dir.now c.args.file_name.now 0 three c.sync_names.new.folder _ (c.in_err-sync_names.ensures.reason k-3 c.args.file_name.now 0) in
    search (rules, why)

pub returns-in_err-claim-clause-touches : goal.returns-in_err-claim-clause-touches
returns-in_err-claim-clause-touches g c k =
    let m : Meaning _ = g.F.Folder.meaning in
    let none : List ℕ → Type 0 = λ q. ⊥ in
    let start = c.args.folder.now in
    let one = c.claim.new.folder in
    let k-1 = c.claim.ensures.kept.0 k in
    let looked = touches_looked m none start start one (touches_started m none start k) (c.claim.ensures.time k) (c.claim.ensures.loss k) in
    looked

pub returns-in_err-parts-clause-touches : goal.returns-in_err-parts-clause-touches
returns-in_err-parts-clause-touches g c k =
    let m : Meaning _ = g.F.Folder.meaning in
    let none : List ℕ → Type 0 = λ q. ⊥ in
    let start = c.args.folder.now in
    let one = c.claim.new.folder in
    let k-1 = c.claim.ensures.kept.0 k in
    let looked = touches_looked m none start start one (touches_started m none start k) (c.claim.ensures.time k) (c.claim.ensures.loss k) in
    let two = c.parts_of.new.folder in
    let k-2 = c.parts_of.ensures.kept.0 k-1 in
    let listed = touches_then m none start one two looked (c.parts_of.ensures.touches k-1) in
    listed

pub returns-in_default-clause-touches : goal.returns-in_default-clause-touches
returns-in_default-clause-touches g c k =
    let m : Meaning _ = g.F.Folder.meaning in
    let none : List ℕ → Type 0 = λ q. ⊥ in
    let start = c.args.folder.now in
    let one = c.claim.new.folder in
    let k-1 = c.claim.ensures.kept.0 k in
    let looked = touches_looked m none start start one (touches_started m none start k) (c.claim.ensures.time k) (c.claim.ensures.loss k) in
    let two = c.parts_of.new.folder in
    let k-2 = c.parts_of.ensures.kept.0 k-1 in
    let listed = touches_then m none start one two looked (c.parts_of.ensures.touches k-1) in
    listed

pub returns-in_err-generations-clause-touches : goal.returns-in_err-generations-clause-touches
returns-in_err-generations-clause-touches g c k =
    let m : Meaning _ = g.F.Folder.meaning in
    let none : List ℕ → Type 0 = λ q. ⊥ in
    let start = c.args.folder.now in
    let one = c.claim.new.folder in
    let k-1 = c.claim.ensures.kept.0 k in
    let looked = touches_looked m none start start one (touches_started m none start k) (c.claim.ensures.time k) (c.claim.ensures.loss k) in
    let two = c.parts_of.new.folder in
    let k-2 = c.parts_of.ensures.kept.0 k-1 in
    let listed = touches_then m none start one two looked (c.parts_of.ensures.touches k-1) in
    listed

pub returns-in_err-newest-clause-touches : goal.returns-in_err-newest-clause-touches
returns-in_err-newest-clause-touches g c k =
    let m : Meaning _ = g.F.Folder.meaning in
    let none : List ℕ → Type 0 = λ q. ⊥ in
    let start = c.args.folder.now in
    let one = c.claim.new.folder in
    let k-1 = c.claim.ensures.kept.0 k in
    let looked = touches_looked m none start start one (touches_started m none start k) (c.claim.ensures.time k) (c.claim.ensures.loss k) in
    let two = c.parts_of.new.folder in
    let k-2 = c.parts_of.ensures.kept.0 k-1 in
    let listed = touches_then m none start one two looked (c.parts_of.ensures.touches k-1) in
    let three = c.newest_whole.new.folder in
    let k-3 = c.newest_whole.ensures.kept.0 k-2 in
    let read = touches_then m none start two three listed (c.newest_whole.ensures.touches k-2) in
    read

pub returns-in_err-sync_names-clause-touches : goal.returns-in_err-sync_names-clause-touches
returns-in_err-sync_names-clause-touches g c k =
    let m : Meaning _ = g.F.Folder.meaning in
    let none : List ℕ → Type 0 = λ q. ⊥ in
    let start = c.args.folder.now in
    let one = c.claim.new.folder in
    let k-1 = c.claim.ensures.kept.0 k in
    let looked = touches_looked m none start start one (touches_started m none start k) (c.claim.ensures.time k) (c.claim.ensures.loss k) in
    let two = c.parts_of.new.folder in
    let k-2 = c.parts_of.ensures.kept.0 k-1 in
    let listed = touches_then m none start one two looked (c.parts_of.ensures.touches k-1) in
    let three = c.newest_whole.new.folder in
    let k-3 = c.newest_whole.ensures.kept.0 k-2 in
    let read = touches_then m none start two three listed (c.newest_whole.ensures.touches k-2) in
    touches_looked m none start three c.sync_names.new.folder read (c.sync_names.ensures.time k-3) (c.sync_names.ensures.loss k-3)

pub returns-clause-touches : goal.returns-clause-touches
returns-clause-touches g c k =
    let m : Meaning _ = g.F.Folder.meaning in
    let none : List ℕ → Type 0 = λ q. ⊥ in
    let start = c.args.folder.now in
    let one = c.claim.new.folder in
    let k-1 = c.claim.ensures.kept.0 k in
    let looked = touches_looked m none start start one (touches_started m none start k) (c.claim.ensures.time k) (c.claim.ensures.loss k) in
    let two = c.parts_of.new.folder in
    let k-2 = c.parts_of.ensures.kept.0 k-1 in
    let listed = touches_then m none start one two looked (c.parts_of.ensures.touches k-1) in
    let three = c.newest_whole.new.folder in
    let k-3 = c.newest_whole.ensures.kept.0 k-2 in
    let read = touches_then m none start two three listed (c.newest_whole.ensures.touches k-2) in
    touches_looked m none start three c.sync_names.new.folder read (c.sync_names.ensures.time k-3) (c.sync_names.ensures.loss k-3)

pub returns-clause-found : goal.returns-clause-found
returns-clause-found g c k =
    let m : Meaning _ = g.F.Folder.meaning in
    let dir = c.args.dir.now in
    let file_name = c.args.file_name.now in
    let start = c.args.folder.now in
    let one = c.claim.new.folder in
    let two = c.parts_of.new.folder in
    let k-1 = c.claim.ensures.kept.0 k in
    let k-2 = c.parts_of.ensures.kept.0 k-1 in
    let parts = c.in_ok-parts.parts.items in
    let first : m.files one ≡ m.files start = (c.claim.ensures.time k).leaves in
    let second : m.files two ≡ m.files one = c.parts_of.ensures.files k-1 in
    let listed = c.in_ok-parts.ensures.parts k-1 in
    let still = subst (λ (f : Files). HasParts dir file_name f parts) (sym second) listed in
    let all : HasAllManifests dir file_name (m.files two) c.deref-3.result.now = λ number small has.
    subst (λ (xs : List ℕ). Contains xs number) (sym c.deref-3.ensures.value)
    ((c.in_ok-generations.ensures.found number).1 (subst (λ (xs : List PartName). Contains xs (Manifest number)) (sym c.deref-2.ensures.value) ((still.there (Manifest number) small).1 has))) in
    record {
      listed = subst (λ (f : Files). HasParts dir file_name f parts) first listed;
      top = subst (λ (f : Files). IsHighestTaken dir file_name f (option_copied c.args.known) c.in_ok-newest.newest.generation) (second ∙ first) (c.in_ok-newest.ensures.newest k-2 all);
      above = subst (λ (xs : List PartName). IsAbove xs c.in-Some.generation) c.deref.ensures.value c.in-Some.ensures.0;
    }

pub returns-clause-passed : goal.returns-clause-passed
returns-clause-passed g c k =
    let m : Meaning _ = g.F.Folder.meaning in
    let dir = c.args.dir.now in
    let file_name = c.args.file_name.now in
    let start = c.args.folder.now in
    let one = c.claim.new.folder in
    let two = c.parts_of.new.folder in
    let k-1 = c.claim.ensures.kept.0 k in
    let k-2 = c.parts_of.ensures.kept.0 k-1 in
    let first : m.files one ≡ m.files start = (c.claim.ensures.time k).leaves in
    let second : m.files two ≡ m.files one = c.parts_of.ensures.files k-1 in
    let listed = subst (λ (f : Files). HasParts dir file_name f c.in_ok-parts.parts.items) first (c.in_ok-parts.ensures.parts k-1) in
    let among = λ (number : ℕ) (there : Contains c.deref-3.result.now number).
    subst (λ (xs : List PartName). Contains xs (Manifest number)) c.deref-2.ensures.value
    ((c.in_ok-generations.ensures.found number).0 (subst (λ (xs : List ℕ). Contains xs number) c.deref-3.ensures.value there)) in
    let are : AreGenerations dir file_name (m.files start) c.deref-3.result.now = record {
      found = λ number. (
        λ there. let small = listed.fits (Manifest number) (among number there) in (small, (listed.there (Manifest number) small).0 (among number there)),
        λ has. subst (λ (xs : List ℕ). Contains xs number) (sym c.deref-3.ensures.value)
            ((c.in_ok-generations.ensures.found number).1 (subst (λ (xs : List PartName). Contains xs (Manifest number)) (sym c.deref-2.ensures.value) ((listed.there (Manifest number) has.0).1 has.1))),
      );
      falling = subst (λ (xs : List ℕ). AllPairs (λ first later. later < first) xs) (sym c.deref-3.ensures.value) c.in_ok-generations.ensures.falling;
    } in
    (two, (c.newest_whole.new.folder, (second ∙ first, (c.deref-3.result.now, (are, c.in_ok-newest.ensures.passed k-2)))))
